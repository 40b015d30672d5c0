-- What is true of a record behind all that it did by itself.
use Rattle.std.proofs.Common.{ℕ, List, [], ◌++◌, Contains, Option, Some, None, ◌⊎◌, inl, inr, arith, refl, sym, ap, subst, append-nil}
use Rattle.std.proofs.lemmas.List.Elements.{Contains-append_left, Contains-append_right, Contains-append_cases}
use Rattle.nsi_primitive.specs.declared.message.Criteria.{Criteria}
use Rattle.nsi_primitive.specs.declared.state.Rsm.{Rsm}
use Rattle.reserve_machine.specs.Table.{step as reserve_step}
use Rattle.connection_record.specs.declared.record.Record.{Record}
use Rattle.connection_record.specs.declared.moves.Reply.{Reply}
use Rattle.connection_record.specs.declared.moves.ReservationMove.{ReservationMove}
use Rattle.connection_record.specs.Courses.{IsOwn, IsReservationSame, IsAct, Merges, Course, Rises, IsAfter}
use Rattle.connection_record.specs.Moves.{event_of, reserves, reserves_if, committed_with}
use Rattle.connection_record.specs.Replies.{Moved}
use Rattle.connection_record.specs.Rising.{AreRising, IsAboveLast}
use Rattle.connection_record.specs.Speaking.{tally, answers_as, misnames}
use Rattle.connection_record.proofs.Growing.{later_refl, later_trans}
use Rattle.connection_record.proofs.Rising.{rising_more}
use Rattle.connection_record.proofs.Saying.{tally_append}

---- Committed versions rise

pub rising_with : (committed : List Criteria) (pending : Option Criteria) → AreRising committed → IsAboveLast pending committed → AreRising (committed_with committed pending)
rising_with committed None rising above = subst AreRising (sym (append-nil committed)) rising
rising_with committed (Some c) rising above = rising_more committed c rising above

own_rising : (k : Rsm) (move : ReservationMove) (now : ℕ) (r : Record) → IsOwn (Some move) → Rises r → AreRising (reserves k move now r).rec.committed
unfolding reserves reserve_step event_of
own_rising k move now r o h = let a = h.rising in let b = h.above in grind (arith, rising_with, a, b)

own_above : (k : Rsm) (move : ReservationMove) (now : ℕ) (r : Record) → IsOwn (Some move) → Rises r →
    IsAboveLast (reserves k move now r).rec.pending (reserves k move now r).rec.committed
unfolding reserves reserve_step event_of
own_above k move now r o h = let a = h.rising in let b = h.above in grind (arith, o, a, b)

own_rises : (o : Option ReservationMove) (now : ℕ) (r : Record) → IsOwn o → Rises r → Rises (reserves_if o now r).rec
own_rises None now r o h = h
own_rises (Some move) now r o h = record { rising = own_rising r.rsm move now r o h; above = own_above r.rsm move now r o h }

pub same_rises : (r q : Record) → IsReservationSame r q → Rises r → Rises q
same_rises r q e h =
    record {
      rising = subst AreRising (sym e.committed) h.rising;
      above = subst (λ z. IsAboveLast z q.committed) (sym e.pending) (subst (λ z. IsAboveLast r.pending z) (sym e.committed) h.above);
    }

---- Courses

after_none : (r : Record) → IsAfter r r []
unfolding tally
after_none r = record { owes = λ c n. omega arith; names = refl; alone = λ c a. a; rises = λ h. h; later = later_refl r; order = λ h. h }

after_act : (r : Record) (y : Moved) → IsAct r y → IsAfter r y.rec y.out
after_act r y a =
    record {
      owes = λ c n. omega (arith, a.speaks.answers c n);
      names = a.names.names;
      alone = λ c h. a.acts.alone c h;
      rises = λ h. same_rises (reserves_if a.acts.move a.acts.now r).rec y.rec a.acts.same (own_rises a.acts.move a.acts.now r a.acts.own h);
      later = a.later;
      order = λ h. a.order h;
    }

after_both : (r q p : Record) (xs ys zs : List Reply) → IsAfter r q xs → IsAfter q p ys → Merges xs ys zs → IsAfter r p zs
after_both r q p xs ys zs a b m =
    record {
      owes = λ c n. omega (arith, m.count (answers_as c n), a.owes c n, b.owes c n);
      names = omega (arith, m.count (misnames r.id), a.names, ap (λ z. tally (misnames z) ys) a.later.id, b.names);
      alone = λ c h. b.alone c (a.alone c h);
      rises = λ h. b.rises (a.rises h);
      later = later_trans r q p a.later b.later;
      order = λ h. b.order (a.order h);
    }

pub course_after : (r q : Record) (out : List Reply) → Course r q out → IsAfter r q out
course_after _ _ _ (Course.rests r) = after_none r
course_after _ _ _ (Course.does r y a) = after_act r y a
course_after _ _ _ (Course.goes_on r q p xs ys zs a b m) = after_both r q p xs ys zs (course_after r q xs a) (course_after q p ys b) m

---- Replies in any order

pub merges_append : (xs ys : List Reply) → Merges xs ys (xs ++ ys)
merges_append xs ys =
    record {
      count = λ p. tally_append p xs ys;
      into = λ y i. Contains-append_cases xs ys y i;
      left = λ y i. Contains-append_left xs ys y i;
      right = λ y i. Contains-append_right xs ys y i;
    }

-- more replies, in front of the notices
pub merges_first : (xs ns ys : List Reply) → Merges (xs ++ ns) ys ((xs ++ ys) ++ ns)
merges_first xs ns ys =
    record {
      count = λ p. omega (arith, tally_append p (xs ++ ys) ns, tally_append p xs ys, tally_append p xs ns);
      into = λ y i. into y (Contains-append_cases (xs ++ ys) ns y i);
      left = λ y i. left y (Contains-append_cases xs ns y i);
      right = λ y i. Contains-append_left (xs ++ ys) ns y (Contains-append_right xs ys y i);
    }
  where
    first : (y : Reply) → Contains xs y ⊎ Contains ys y → Contains (xs ++ ns) y ⊎ Contains ys y
    first y (inl i) = inl (Contains-append_left xs ns y i)
    first y (inr i) = inr i

    into : (y : Reply) → Contains (xs ++ ys) y ⊎ Contains ns y → Contains (xs ++ ns) y ⊎ Contains ys y
    into y (inl i) = first y (Contains-append_cases xs ys y i)
    into y (inr i) = inl (Contains-append_right xs ns y i)

    left : (y : Reply) → Contains xs y ⊎ Contains ns y → Contains ((xs ++ ys) ++ ns) y
    left y (inl i) = Contains-append_left (xs ++ ys) ns y (Contains-append_left xs ys y i)
    left y (inr i) = Contains-append_right (xs ++ ys) ns y i

-- Sides that a view can't tell apart, and what a record does by itself, one thing after another.
use Rattle.std.proofs.Common.{ℕ, ◌≡◌, ◌≤◌, Bool, true, false, List, [], ◌++◌, Contains, Option, Some, None, ◌⊎◌, inl, inr, ◌==◌, refl, sym, ap, ◌∙◌, subst, arith, append-nil}
use Rattle.std.proofs.lemmas.List.Elements.{Contains-append_left, Contains-append_right, Contains-append_cases}
use Rattle.nsi_primitive.specs.Kinds.{kind_number}
use Rattle.nsi_primitive.specs.declared.kind.Kind.{Kind}
use Rattle.nsi_primitive.specs.declared.message.Body.{Body}
use Rattle.nsi_primitive.specs.declared.state.Rsm.{Rsm}
use Rattle.child_connection.specs.declared.state.Sent.{Sent}
use Rattle.child_connection.specs.Views.{ChildConnection, sent, is_open}
use Rattle.child_connection.specs.Hearing.{hears}
use Rattle.child_connection.specs.Holding.{IsHeeded}
use Rattle.child_connection.specs.Standing.{IsQuiet, back}
use Rattle.child_connection.proofs.Reservations.{attempt_asked}
use Rattle.connection_record.specs.declared.record.Record.{Record}
use Rattle.connection_record.specs.declared.moves.Reply.{Reply}
use Rattle.connection_record.specs.declared.moves.ReservationMove.{ReservationMove}
use Rattle.connection_record.specs.Courses.{IsOwn, IsReservationSame, answering, IsAlone, Acts, IsAct, Merges, Course}
use Rattle.connection_record.specs.Moves.{is_working, reserves_if}
use Rattle.connection_record.specs.Replies.{Moved, stays, id_or}
use Rattle.connection_record.specs.Speaking.{owed, owed_reserve}
use Rattle.connection_record.proofs.Acts.{same_self}
use Rattle.connection_record.proofs.Courses.{course_after}
use Rattle.circuit_link.specs.Sides.{standing_of, Side, moved, OwesTaken}
use Rattle.circuit_link.specs.Links.{IsCalm, WorksOn, IsForetold, MayEnd, Pending, Link}
use Rattle.circuit_link.proofs.Answering.{none_there, IsReplied, replied_of, answer_of, answer_moves, answers_none}
use Rattle.circuit_link.proofs.Inner.{IsKnown, inner_link}

---- Sides

-- the same reservation; under the correlations that the view listens to the same was said, and its request is taken in both or in neither
pub record IsLike (x : ChildConnection) (s t : Side) : Type 0 where
  pub same : IsReservationSame s.rec t.rec
  pub less : (c : ℕ) (b : Body) → IsHeeded x c → Contains (t.said c) b → Contains (s.said c) b
  pub more : (c : ℕ) (b : Body) → IsHeeded x c → Contains (s.said c) b → Contains (t.said c) b
  pub seen : (c : ℕ) → is_open x.reserve_request c ≡ true → t.seen c ≡ s.seen c

pub same_standing : (r q : Record) → IsReservationSame r q → standing_of q ≡ standing_of r
same_standing r q e = grind (arith, e)

calm_like : (x : ChildConnection) (s t : Side) → IsReservationSame s.rec t.rec → ((c : ℕ) (b : Body) → x.attempt ≡ Some c → Contains (t.said c) b → Contains (s.said c) b) → IsCalm x s → IsCalm x t
calm_like x s t e f h =
    record { quiet = subst (λ z. IsQuiet x z) (sym (same_standing s.rec t.rec e)) h.quiet; late = λ c b p a i k. e.rsm ∙ h.late c b p a (f c b a i) k }

works_like : (c : ℕ) (x : ChildConnection) (r q : Record) → IsReservationSame r q → WorksOn c x r → WorksOn c x q
works_like c x r q e (WorksOn.reserving h) =
    WorksOn.reserving
    (record {
      asked = h.asked;
      phase = h.phase;
      attempt = h.attempt;
      state = e.rsm ∙ h.state;
      request = e.request ∙ h.request;
      its_attempt = e.attempt ∙ h.its_attempt;
      same = h.same ∙ ap (λ z. z.committed) (sym (same_standing r q e));
    })
works_like c x r q e (WorksOn.committing h) =
    WorksOn.committing
    (record {
      asked = h.asked;
      phase = h.phase;
      state = e.rsm ∙ h.state;
      request = e.request ∙ h.request;
      pending = h.pending ∙ ap (λ z. z.pending) (sym (same_standing r q e));
      same = h.same ∙ ap (λ z. z.committed) (sym (same_standing r q e));
    })
works_like c x r q e (WorksOn.aborting h) =
    WorksOn.aborting
    (record {
      asked = h.asked;
      phase = h.phase;
      state = e.rsm ∙ h.state;
      request = e.request ∙ h.request;
      same = h.same ∙ ap (λ z. z.committed) (sym (same_standing r q e));
    })

end_like : (c : ℕ) (x : ChildConnection) (r q : Record) → IsReservationSame r q → MayEnd c x r → MayEnd c x q
end_like c x r q e h =
    record { waits = λ p a. let w = h.waits (sym e.rsm ∙ p) (sym (ap id_or e.attempt) ∙ a) in (w.0, w.1, w.2 ∙ ap (λ z. z.committed) (sym (same_standing r q e))) }

pub open_itself : (o : Option Sent) (c : ℕ) (k : Kind) → o ≡ Some (sent c k) → is_open o c ≡ true
open_itself o c k e = grind (arith, e)

pub link_like : (x : ChildConnection) (s t : Side) → IsLike x s t → Link x s → Link x t
link_like x s t e (Link.calm h) = Link.calm (calm_like x s t e.same (λ c b a i. e.less c b (inl a) i) h)
link_like x s t e (Link.asked c k r p a y) = Link.asked c k r p a (pending y)
  where
    opened : is_open x.reserve_request c ≡ true
    opened = open_itself x.reserve_request c k r

    same_seen : t.seen c ≡ s.seen c
    same_seen = e.seen c opened

    told : (b : Body) → IsForetold c x s b → IsForetold c x t b
    told b (inl q) = inl q
    told b (inr h) = inr (calm_like (hears b c x).view s t e.same (λ d b' a i. e.less d b' (inl (attempt_asked b c x d a)) i) h)

    pending : Pending c x s → Pending c x t
    pending (Pending.unseen u n h) =
        Pending.unseen (same_seen ∙ u) (none_there (t.said c) (λ b i. not_in b (subst (λ z. Contains z b) n (e.less c b (inr opened) i))))
        (calm_like (back x) s t e.same (λ d b a i. e.less d b (inl a) i) h)
      where
        not_in : (b : Body) → Contains [] b → ⊥
        not_in b i = omega (arith, i.1)
    pending (Pending.working u w f) = Pending.working (same_seen ∙ u) (works_like c x s.rec t.rec e.same w) (λ b i. f b (e.less c b (inr opened) i))
    pending (Pending.told u f w m g l q) =
        Pending.told (same_seen ∙ u) (λ b i. told b (f b (e.less c b (inr opened) i))) (ap is_working e.same.rsm ∙ w) (end_like c x s.rec t.rec e.same m) g
        (e.more c g (inr opened) l) q

-- sides of which one has the same under each correlation that the view listens to
pub equal_like : (x : ChildConnection) (s t : Side) → IsReservationSame s.rec t.rec → ((c : ℕ) → IsHeeded x c → t.said c ≡ s.said c) →
    ((c : ℕ) → is_open x.reserve_request c ≡ true → t.seen c ≡ s.seen c) → IsLike x s t
equal_like x s t e f g =
    record { same = e; less = λ c b i j. subst (λ z. Contains z b) (f c i) j; more = λ c b i j. subst (λ z. Contains z b) (sym (f c i)) j; seen = g }

---- One act

held_owes : (r : Record) → r.rsm ≡ Rsm.ReserveHeld → 1 ≤ owed (id_or r.attempt) (kind_number Kind.ReserveTimeout) r
unfolding owed owed_reserve kind_number
held_owes r e = let s : (id_or r.attempt == id_or r.attempt) ≡ true = grind arith in grind (arith, e, s)

pub known_of : (s : Side) → OwesTaken s → IsKnown s
known_of s owes held = by_seen (s.seen (id_or s.rec.attempt)) refl
  where
    by_seen : (b : Bool) → s.seen (id_or s.rec.attempt) ≡ b → b ≡ true
    by_seen true e = refl
    by_seen false e = absurd (omega (arith, owes (id_or s.rec.attempt) (kind_number Kind.ReserveTimeout) e, held_owes s.rec held))

acts_link : (x : ChildConnection) (s : Side) (y : Moved) → Acts s.rec y → OwesTaken s → ((c : ℕ) → IsHeeded x c → IsAlone c s.rec) → Link x s → Link x (moved s y)
acts_link x s y a owes alone h = by_move a.move a.own a.same a.says
  where
    alike : (o : Option ReservationMove) → IsReservationSame (reserves_if o a.now s.rec).rec y.rec → ((c : ℕ) → IsAlone c s.rec → answering c y.out ≡ answering c (reserves_if o a.now s.rec).out) →
        Link x (moved s (reserves_if o a.now s.rec)) → Link x (moved s y)
    alike o same says l =
        link_like x (moved s (reserves_if o a.now s.rec)) (moved s y)
        (equal_like x (moved s (reserves_if o a.now s.rec)) (moved s y) same (λ c i. ap (λ z. s.said c ++ z) (says c (alone c i))) (λ c i. refl)) l

    still : (c : ℕ) → s.said c ++ answering c (stays s.rec).out ≡ s.said c
    still c = ap (λ z. s.said c ++ z) (answers_none c (stays s.rec).out refl) ∙ append-nil (s.said c)

    by_move : (o : Option ReservationMove) → IsOwn o → IsReservationSame (reserves_if o a.now s.rec).rec y.rec → ((c : ℕ) → IsAlone c s.rec → answering c y.out ≡ answering c (reserves_if o a.now s.rec).out) →
        Link x (moved s y)
    by_move None own same says =
        alike None same says (link_like x s (moved s (stays s.rec)) (equal_like x s (moved s (stays s.rec)) (same_self s.rec) (λ c i. still c) (λ c i. refl)) h)
    by_move (Some move) own same says = alike (Some move) same says (inner_link move a.now own x s (known_of s owes) h)

---- A course

abbrev pub side : Record → (ℕ → List Body) → (ℕ → Bool) → Side
side r said seen = record { rec = r; said = said; seen = seen }

-- what a course keeps
abbrev Keeps : Record → Record → List Reply → Type 0
Keeps r q out =
    (x : ChildConnection) (said : ℕ → List Body) (seen : ℕ → Bool) → OwesTaken (side r said seen) → ((c : ℕ) → IsHeeded x c → IsAlone c r) → Link x (side r said seen) →
    Link x (side q (λ c. said c ++ answering c out) seen)

rests_keeps : (r : Record) → Keeps r r []
rests_keeps r x said seen owes alone h =
    link_like x (side r said seen) (side r (λ c. said c ++ answering c []) seen)
    (equal_like x (side r said seen) (side r (λ c. said c ++ answering c []) seen) (same_self r) (λ c i. ap (λ z. said c ++ z) (answers_none c [] refl) ∙ append-nil (said c)) (λ c i. refl)) h

does_keeps : (r : Record) (y : Moved) → IsAct r y → Keeps r y.rec y.out
does_keeps r y a x said seen owes alone h = acts_link x (side r said seen) y a.acts owes alone h

then_keeps : (r q p : Record) (xs ys zs : List Reply) → Course r q xs → Merges xs ys zs → Keeps r q xs → Keeps q p ys → Keeps r p zs
then_keeps r q p xs ys zs course m a b x said seen owes alone h =
    link_like x (side p (λ c. (said c ++ answering c xs) ++ answering c ys) seen) (side p (λ c. said c ++ answering c zs) seen)
    (record {
      same = same_self p;
      less = λ c w i j. less c w (said c) (Contains-append_cases (said c) (answering c zs) w j);
      more = λ c w i j. more c w (said c) (Contains-append_cases (said c ++ answering c xs) (answering c ys) w j);
      seen = λ c i. refl;
    })
    (b x (λ c. said c ++ answering c xs) seen (λ c n u. omega (arith, owes c n u, (course_after r q xs course).owes c n)) (λ c i. (course_after r q xs course).alone c (alone c i)) (a x said seen owes alone h))
  where
    less : (c : ℕ) (w : Body) (old : List Body) → Contains old w ⊎ Contains (answering c zs) w → Contains ((old ++ answering c xs) ++ answering c ys) w
    less c w old (inl i) = Contains-append_left (old ++ answering c xs) (answering c ys) w (Contains-append_left old (answering c xs) w i)
    less c w old (inr i) = let u = replied_of c w zs i in by_part u (m.into u.reply u.there)
      where
        by_part : (u : IsReplied c w zs) → Contains xs u.reply ⊎ Contains ys u.reply → Contains ((old ++ answering c xs) ++ answering c ys) w
        by_part u (inl j) =
            Contains-append_left (old ++ answering c xs) (answering c ys) w
            (Contains-append_right old (answering c xs) w (answer_of c w xs (record { reply = u.reply; there = j; body = u.body; answers = u.answers })))
        by_part u (inr j) =
            Contains-append_right (old ++ answering c xs) (answering c ys) w (answer_of c w ys (record { reply = u.reply; there = j; body = u.body; answers = u.answers }))

    more : (c : ℕ) (w : Body) (old : List Body) → Contains (old ++ answering c xs) w ⊎ Contains (answering c ys) w → Contains (old ++ answering c zs) w
    more c w old (inr i) = Contains-append_right old (answering c zs) w (answer_moves c w ys zs m.right i)
    more c w old (inl i) = by_part (Contains-append_cases old (answering c xs) w i)
      where
        by_part : Contains old w ⊎ Contains (answering c xs) w → Contains (old ++ answering c zs) w
        by_part (inl j) = Contains-append_left old (answering c zs) w j
        by_part (inr j) = Contains-append_right old (answering c zs) w (answer_moves c w xs zs m.left j)

-- what a record does by itself keeps the link of its view
pub course_link : (x : ChildConnection) (r q : Record) (out : List Reply) (said : ℕ → List Body) (seen : ℕ → Bool) → Course r q out → OwesTaken (side r said seen) →
    ((c : ℕ) → IsHeeded x c → IsAlone c r) → Link x (side r said seen) → Link x (side q (λ c. said c ++ answering c out) seen)
course_link x r q out said seen c owes alone h = keeps r q out c x said seen owes alone h
  where
    keeps : (r q : Record) (out : List Reply) → Course r q out → Keeps r q out
    keeps _ _ _ (Course.rests r) = rests_keeps r
    keeps _ _ _ (Course.does r y a) = does_keeps r y a
    keeps _ _ _ (Course.goes_on r q p xs ys zs a b m) = then_keeps r q p xs ys zs a m (keeps r q xs a) (keeps q p ys b)

-- A record is opened for a first reserve.
use Rattle.std.proofs.Common.{ℕ, zero, suc, ◌≡◌, ◌<◌, true, false, List, [], ◌∷◌, ◌++◌, length, get_or, Contains, Option, Some, None, ◌⊎◌, inl, inr, refl, sym, ap, ◌∙◌, subst, arith, append-nil, length-append, get_or-set_same}
use Rattle.std.proofs.lemmas.Bool.{cases_eq}
use Rattle.nsi_primitive.specs.Kinds.{kind_number}
use Rattle.nsi_primitive.specs.Messages.{kind_of}
use Rattle.nsi_primitive.specs.declared.kind.Kind.{Kind}
use Rattle.nsi_primitive.specs.declared.message.Body.{Body}
use Rattle.nsi_primitive.specs.declared.message.Criteria.{Criteria}
use Rattle.nsi_primitive.specs.declared.message.Message.{Message}
use Rattle.nsi_primitive.specs.declared.message.ReserveRequest.{ReserveRequest}
use Rattle.nsi_primitive.specs.declared.message.Service.{Service}
use Rattle.nsi_primitive.specs.declared.state.Rsm.{Rsm}
use Rattle.nsi_primitive.specs.declared.state.Side.{Side as Place}
use Rattle.reserve_machine.specs.Table.{step as reserve_step}
use Rattle.message_retry.specs.Taken.{is_taken, with_taken}
use Rattle.record_index.proofs.Members.{nothing_in}
use Rattle.child_connection.specs.Views.{ChildConnection, sent}
use Rattle.child_connection.specs.Holding.{is_reservation, teaches, IsHeeded}
use Rattle.connection_record.specs.declared.record.Record.{Record}
use Rattle.connection_record.specs.declared.moves.ReservationMove.{ReservationMove}
use Rattle.connection_record.specs.Applied.{reserve_move, moves, moves_if, requested}
use Rattle.connection_record.specs.Courses.{IsAlone, IsReservationSame, answering}
use Rattle.connection_record.specs.Moves.{event_of, reserves, fresh, asked_criteria}
use Rattle.connection_record.specs.Replies.{Moved}
use Rattle.connection_record.specs.Speaking.{owed, owed_reserve, owed_provision, owed_life}
use Rattle.connection_record.proofs.Acts.{same_self}
use Rattle.agent_state.specs.State.{no_record, record_at}
use Rattle.circuit_link.specs.Links.{Link}
use Rattle.circuit_link.specs.Sides.{took_in}
use Rattle.circuit_link.specs.Children.{Child, goes_on, about, record_of, side_of}
use Rattle.circuit_link.specs.Headers.{header_of}
use Rattle.circuit_link.specs.Mates.{IsSeatOf, is_teaching, IsSeated, IsOpening, IsMate}
use Rattle.circuit_link.proofs.Abouts.{about_cases, taken_now}
use Rattle.circuit_link.proofs.Answering.{same_some, not_there, one_answer}
use Rattle.circuit_link.proofs.Likeness.{equal_like, link_like}
use Rattle.circuit_link.proofs.Mild.{IsAside, aside_mate}
use Rattle.circuit_link.proofs.Owning.{own_link, own_seated, told_in, reservation_alone}
use Rattle.circuit_link.proofs.Starting.{first_move, first_records, first_seen, first_out}
use Rattle.circuit_link.proofs.Taking.{IsUnseen, unseen_view, IsTakenBy, reserve_taken, taken_move}

---- The last of a list

pub last_here : {X : Type 0} (xs : List X) (x d : X) → get_or (xs ++ x ∷ []) (length xs) d ≡ x
last_here [] x d = refl
last_here (y ∷ ys) x d = last_here ys x d

pub last_there : {X : Type 0} (xs : List X) (x d : X) (j : ℕ) → (j ≡ length xs → ⊥) → get_or (xs ++ x ∷ []) j d ≡ get_or xs j d
last_there [] x d zero q = absurd (q refl)
last_there [] x d (suc j) q = refl
last_there (y ∷ ys) x d zero q = refl
last_there (y ∷ ys) x d (suc j) q = last_there ys x d j (λ e. q (ap suc e))

---- A new record

pub fresh_owed : (c n id : ℕ) (owner : List ℕ) (s : Service) (source dest : ℕ) → owed c n (fresh id owner s source dest) ≡ 0
unfolding owed owed_reserve owed_provision owed_life
fresh_owed c n id owner s source dest = refl

fresh_alone : (c id : ℕ) (owner : List ℕ) (s : Service) (source dest : ℕ) → IsAlone c (fresh id owner s source dest)
unfolding owed_provision owed_life
fresh_alone c id owner s source dest = record { provision = λ n. refl; life = λ n. refl }

-- a child with one record more
abbrev pub longer : Child → Record → Child
longer d new = record { records = d.records ++ new ∷ []; seen = d.seen; said = d.said }

module _ (name parent : List ℕ) (x : ChildConnection) (place : Option ℕ) (d : Child) (id : ℕ) (owner : List ℕ) (s : Service) (source dest : ℕ) where
  abbrev new : Record
  new = fresh id owner s source dest

  abbrev rows : List Record
  rows = d.records ++ fresh id owner s source dest ∷ []

  old_at : (n : ℕ) → n < length d.records → record_at n rows ≡ record_at n d.records
  old_at n l = last_there d.records new no_record n (λ e. omega (arith, l, e))

  longer_aside : IsSeated parent name x place d → IsAside parent name x place d rows d.seen []
  unfolding record_of about
  longer_aside f =
      record {
        within = λ n l. omega (arith, l, length-append d.records (new ∷ []));
        owner = λ n l. ap (λ y. y.owner) (old_at n l);
        id = λ n l. ap (λ y. y.id) (old_at n l);
        others = λ n p o c h k. others n p o c h k (cases_eq n (length d.records));
        alone = λ n e c h a. subst (λ y. IsAlone c y) (sym (old_at n (f.seated n e).0)) a;
        taken = λ c t. t;
        owes = λ n e c h k o. ap (λ y. owed c k y) (old_at n (f.seated n e).0) ∙ o;
        same = same_at place refl;
        silent = λ c b h i. nothing_in b i;
        seen_same = λ c i. refl;
      }
    where
      others : (n : ℕ) → (place ≡ Some n → ⊥) → (record_at n rows).owner ≡ parent → (c : ℕ) → IsHeeded x c → (k : ℕ) → (n ≡ length d.records) ⊎ (n ≡ length d.records → ⊥) → owed c k (record_at n rows) ≡ 0
      others n p o c h k (inl e) = ap (λ j. owed c k (record_at j rows)) e ∙ ap (λ y. owed c k y) (last_here d.records new no_record) ∙ fresh_owed c k id owner s source dest
      others n p o c h k (inr e) =
          let same : record_at n rows ≡ record_at n d.records = last_there d.records new no_record n e in
          ap (λ y. owed c k y) same ∙ f.others n p (sym (ap (λ y. y.owner) same) ∙ o) c h k

      same_at : (o : Option ℕ) → place ≡ o → IsReservationSame (record_of o d.records) (record_of o rows)
      same_at None e = same_self no_record
      same_at (Some n) e = subst (λ y. IsReservationSame (record_at n d.records) y) (sym (old_at n (f.seated n e).0)) (same_self (record_at n d.records))

  pub longer_mate : IsMate parent name x place d → IsMate parent name x place (longer d (fresh id owner s source dest))
  longer_mate h =
      subst (λ w. IsMate parent name x place (let y : Child = record { records = rows; seen = d.seen; said = w } in y)) (append-nil d.said)
      (aside_mate parent name x place d rows d.seen [] (longer_aside h.seated) h)

  ---- The new record is the view's

  none_some : (n : ℕ) → None ≡ Some n → ⊥
  none_some n q = cc

  no_seat : place ≡ None → (k : ℕ) → IsSeatOf place d.records k → ⊥
  no_seat e k (n, p, q) = none_some n (sym e ∙ p)

  here : record_at (length d.records) rows ≡ new
  here = last_here d.records new no_record

  pub new_link : place ≡ None → Link x (side_of parent name place d) → Link x (side_of parent name (Some (length d.records)) (longer d (fresh id owner s source dest)))
  unfolding record_of
  new_link e h =
      link_like x (side_of parent name place d) (side_of parent name (Some (length d.records)) (longer d new))
      (equal_like x (side_of parent name place d) (side_of parent name (Some (length d.records)) (longer d new))
      (subst (λ y. IsReservationSame (record_of place d.records) y) (sym here) (subst (λ w. IsReservationSame (record_of w d.records) new) (sym e) (record { rsm = refl; request = refl; attempt = refl; pending = refl; committed = refl })))
      (λ c i. refl) (λ c i. refl)) h

  pub new_seated : owner ≡ parent → place ≡ None → IsSeated parent name x place d → IsSeated parent name x (Some (length d.records)) (longer d (fresh id owner s source dest))
  unfolding record_of
  new_seated o e f =
      record {
        seated = λ n p.
            let q : n ≡ length d.records = same_some n (length d.records) (sym p) in
            (omega (arith, q, length-append d.records (new ∷ [])), ap (λ j. (record_at j rows).owner) q ∙ ap (λ y. y.owner) here ∙ o);
        others = λ n p w c i k. by_number n p w c i k (cases_eq n (length d.records));
        alone = λ c i. subst (λ y. IsAlone c y) (sym here) (fresh_alone c id owner s source dest);
        known = λ k q. absurd (no_seat e k (f.known k q));
        named = λ c b k i j q. absurd (no_seat e k (f.named c b k i j q));
      }
    where
      by_number : (n : ℕ) → (Some (length d.records) ≡ Some n → ⊥) → (record_at n rows).owner ≡ parent → (c : ℕ) → IsHeeded x c → (k : ℕ) → (n ≡ length d.records) ⊎ (n ≡ length d.records → ⊥) → owed c k (record_at n rows) ≡ 0
      by_number n p w c i k (inl q) = absurd (p (ap Some (sym q)))
      by_number n p w c i k (inr q) =
          let same : record_at n rows ≡ record_at n d.records = last_there d.records new no_record n q in
          ap (λ y. owed c k y) same ∙ f.others n (λ z. none_some n (sym e ∙ z)) (sym (ap (λ y. y.owner) same) ∙ w) c i k

---- The reserve itself

started_owes : (c k now : ℕ) (criteria : Criteria) (r : Record) → is_teaching k ≡ false →
    owed_reserve (reserves Rsm.ReserveStart (ReservationMove.Reserve c criteria) now r).rec.rsm c k (reserves Rsm.ReserveStart (ReservationMove.Reserve c criteria) now r).rec ≡ 0
unfolding owed_reserve reserves reserve_step event_of kind_number
started_owes c k now criteria r e = grind (arith, e)

started_says : (c now : ℕ) (criteria : Criteria) (r : Record) (b : Body) → Contains (answering c (reserves Rsm.ReserveStart (ReservationMove.Reserve c criteria) now r).out) b → teaches b ≡ None → ⊥
unfolding reserves reserve_step event_of teaches
started_says c now criteria r b i e = none_some r.id (sym e ∙ ap teaches (one_answer c c b (Body.ReserveResponse r.id) i).1)
  where
    none_some : (n : ℕ) → None ≡ Some n → ⊥
    none_some n q = cc

module _ (side : Place) (name parent : List ℕ) (now : ℕ) (x : ChildConnection) (d : Child) (n : ℕ) (m : Message) where
  abbrev first : Child
  first = goes_on d (first_records side name parent now x (Some n) d n m) (first_seen side name parent now x (Some n) d n m) (first_out side name parent now x (Some n) d n m)

  pub open_start : (c : ℕ) (q : ReserveRequest) → n < length d.records → (record_at n d.records).owner ≡ parent → (record_at n d.records).rsm ≡ Rsm.ReserveStart → (asked_criteria now q (record_at n d.records).committed ≡ None → ⊥) →
      m.body ≡ Body.Reserve q → m.header ≡ header_of parent name c → is_taken m.header d.seen ≡ false → x.reserve_request ≡ Some (sent c Kind.Reserve) → Link x (side_of parent name (Some n) d) → IsSeated parent name x (Some n) d →
      IsMate parent name x (Some n) (goes_on d (first_records side name parent now x (Some n) d n m) (first_seen side name parent now x (Some n) d n m) (first_out side name parent now x (Some n) d n m))
  unfolding record_of owed requested moves is_reservation
  open_start c q l owned start criteria body hd u r h f = by_criteria (asked_criteria now q row.committed) refl
    where
      row : Record
      row = record_at n d.records

      z : Moved
      z = first_move side name parent now x (Some n) d n m

      w : IsUnseen c Kind.Reserve x (side_of parent name (Some n) d)
      w = unseen_view c Kind.Reserve x (side_of parent name (Some n) d) h r (ap (λ z. is_taken z d.seen) (sym hd) ∙ u)

      t : IsTakenBy now c x (side_of parent name (Some n) d) (Body.Reserve q)
      t = reserve_taken now c x (side_of parent name (Some n) d) q start criteria r w

      taken : Link x (took_in c (side_of parent name (Some n) d) z)
      taken =
          subst (λ y. Link x (took_in c (side_of parent name (Some n) d) y))
          (sym (ap (λ b. moves_if side (requested now b m.header.correlation row) now row) body ∙ ap (λ b. moves_if side (requested now (Body.Reserve q) b row) now row) (ap (λ y. y.correlation) hd) ∙ taken_move side (Body.Reserve q) c now row t.move t.is))
          (Link.asked c Kind.Reserve r w.phase w.attempt t.pending)

      reserves_here : is_reservation (kind_of m.body) ≡ true
      reserves_here = ap (λ b. is_reservation (kind_of b)) body

      heeded : IsHeeded x c
      heeded = inl w.attempt

      opening : (a : Criteria) → asked_criteria now q row.committed ≡ Some a → IsOpening parent name x n first
      opening a e =
          record {
            c = c;
            asked = r;
            attempt = w.attempt;
            taken = ap (λ o. is_taken o (with_taken m.header d.seen)) (sym hd) ∙ taken_now m.header d.seen u;
            owes = λ k b. ap (λ y. owed c k y) (get_or-set_same d.records n z.rec no_record l ∙ ap (λ y. y.rec) moved_so) ∙ owes_y k b;
            says = λ b i g. by_part b g (about_cases (header_of parent name c) d.said (first_out side name parent now x (Some n) d n m) b i);
          }
        where
          y : Moved
          y = reserves Rsm.ReserveStart (ReservationMove.Reserve c a) now row

          moved_so : z ≡ y
          moved_so =
              ap (λ o. moves_if side o now row)
              (ap (λ b. requested now b m.header.correlation row) body ∙ ap (λ y. reserve_move m.header.correlation y) e ∙ ap (λ y. reserve_move y (Some a)) (ap (λ y. y.correlation) hd)) ∙
              ap (λ y. reserves y (ReservationMove.Reserve c a) now row) start

          alone_y : IsAlone c y.rec
          alone_y = subst (λ v. IsAlone c v.rec) moved_so (reservation_alone side m.body m.header.correlation now row c reserves_here (f.alone c heeded))

          owes_y : (k : ℕ) → is_teaching k ≡ false → owed c k y.rec ≡ 0
          owes_y k b = omega (arith, started_owes c k now a row b, alone_y.provision k, alone_y.life k)

          by_part : (b : Body) → teaches b ≡ None → Contains (about (header_of parent name c) d.said) b ⊎ Contains (about (header_of parent name c) (first_out side name parent now x (Some n) d n m)) b → ⊥
          by_part b g (inl j) = not_there (about (header_of parent name c) d.said) b w.none j
          by_part b g (inr j) = started_says c now a row b (subst (λ v. Contains (answering c v.out) b) moved_so (told_in side name parent now x (Some n) d n m c Kind.Reserve l refl owned hd u r c b j)) g

      by_criteria : (o : Option Criteria) → asked_criteria now q row.committed ≡ o → IsMate parent name x (Some n) first
      by_criteria None e = absurd (criteria e)
      by_criteria (Some a) e =
          record {
            linked = own_link side name parent now x (Some n) d n m c Kind.Reserve l refl owned hd u r taken;
            seated = own_seated side name parent now x (Some n) d n m c Kind.Reserve l refl owned hd u r reserves_here f;
            opened = λ k i j. subst (λ k. IsOpening parent name x k first) (same_some n k i) (opening a e);
          }

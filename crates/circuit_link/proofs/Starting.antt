-- A request that a record of the child takes: what its first move leaves of each view.
use Rattle.std.proofs.Common.{ℕ, ◌≡◌, ◌<◌, true, false, List, length, Contains, Option, Some, None, ◌⊎◌, inl, inr, refl, sym, ap, ◌∙◌, subst, arith, slice_set, get_or-set_same, get_or-set_other, ne_eqb}
use Rattle.std.proofs.lemmas.Bool.{cases_eq}
use Rattle.std.proofs.lemmas.List.{length-set}
use Rattle.nsi_primitive.specs.Messages.{kind_of}
use Rattle.nsi_primitive.specs.declared.message.Body.{Body}
use Rattle.nsi_primitive.specs.declared.message.Header.{Header}
use Rattle.nsi_primitive.specs.declared.message.Message.{Message}
use Rattle.nsi_primitive.specs.declared.state.Side.{Side as Place}
use Rattle.message_retry.specs.Taken.{is_taken, with_taken}
use Rattle.child_connection.specs.Views.{ChildConnection, is_open}
use Rattle.child_connection.specs.Holding.{is_reservation, IsHeeded}
use Rattle.connection_record.specs.declared.record.Record.{Record}
use Rattle.connection_record.specs.Applied.{moves_if, requested}
use Rattle.connection_record.specs.Courses.{IsAlone, IsReservationSame, answering, IsBeside, is_reservation_request}
use Rattle.connection_record.specs.Later.{IsLater}
use Rattle.connection_record.specs.Replies.{Moved, addressed}
use Rattle.connection_record.specs.Speaking.{no_ids, owed, Speaks, Names}
use Rattle.connection_record.specs.Ids.{is_id}
use Rattle.connection_record.proofs.Acts.{same_self}
use Rattle.connection_record.proofs.Beside.{request_beside, silent, still_silent}
use Rattle.connection_record.proofs.Growing.{moves_if_later}
use Rattle.connection_record.proofs.Naming.{moves_if_names}
use Rattle.connection_record.proofs.Saying.{takes_speaks}
use Rattle.agent_state.specs.State.{no_record, record_at}
use Rattle.circuit_link.specs.Children.{Child, goes_on, about, record_of}
use Rattle.circuit_link.specs.Headers.{header_of}
use Rattle.circuit_link.specs.Mates.{IsMate}
use Rattle.circuit_link.proofs.Abouts.{headers_same, addressed_in, taken_still, taken_apart}
use Rattle.circuit_link.proofs.Answering.{same_some, not_there}
use Rattle.circuit_link.proofs.Mild.{IsAside, aside_mate}

---- Another machine than the reservation's

pub reservation_kinds : (body : Body) → is_reservation_request body ≡ is_reservation (kind_of body)
unfolding is_reservation_request is_reservation
reservation_kinds body = grind arith

---- One record is put in its place

pub record_set : (rs : List Record) (n m : ℕ) (q : Record) → n < length rs → ((m ≡ n) × (record_at m (slice_set rs n q) ≡ q)) ⊎ ((m ≡ n → ⊥) × (record_at m (slice_set rs n q) ≡ record_at m rs))
record_set rs n m q l = by_number (cases_eq m n)
  where
    by_number : (m ≡ n) ⊎ (m ≡ n → ⊥) → ((m ≡ n) × (record_at m (slice_set rs n q) ≡ q)) ⊎ ((m ≡ n → ⊥) × (record_at m (slice_set rs n q) ≡ record_at m rs))
    by_number (inl e) = inl (e, ap (λ k. record_at k (slice_set rs n q)) e ∙ get_or-set_same rs n q no_record l)
    by_number (inr e) = inr (e, get_or-set_other rs n m q no_record e)

module _ (side : Place) (name parent : List ℕ) (now : ℕ) (x : ChildConnection) (place : Option ℕ) (d : Child) (n : ℕ) (m : Message) where
  abbrev pub row : Record
  row = record_at n d.records

  abbrev pub first_move : Moved
  first_move = moves_if side (requested now m.body m.header.correlation (record_at n d.records)) now (record_at n d.records)

  abbrev pub first_records : List Record
  first_records = slice_set d.records n first_move.rec

  abbrev pub first_seen : List Header
  first_seen = with_taken m.header d.seen

  abbrev pub first_out : List Message
  first_out = addressed name first_move.rec.owner first_move.out

  abbrev pub IsForeign : Type 0
  IsForeign = (c : ℕ) → IsHeeded x c → m.header ≡ header_of parent name c → ⊥

  pub later : IsLater row first_move.rec
  later = moves_if_later side (requested now m.body m.header.correlation row) now row

  names : Names row first_move
  names = moves_if_names side (requested now m.body m.header.correlation row) now row

  speaks : Speaks (Some m.header.correlation) no_ids row first_move
  speaks = takes_speaks side m.body m.header.correlation now row

  module _ (l : n < length d.records) where
    pub at : (k : ℕ) → ((k ≡ n) × (record_at k first_records ≡ first_move.rec)) ⊎ ((k ≡ n → ⊥) × (record_at k first_records ≡ record_at k d.records))
    at k = record_set d.records n k first_move.rec l

    pub within_after : (k : ℕ) → k < length d.records → k < length first_records
    within_after k h = subst (λ y. k < y) (sym (length-set d.records n first_move.rec)) h

    pub owner_after : (k : ℕ) → (record_at k first_records).owner ≡ (record_at k d.records).owner
    owner_after k = elim (at k) [
      | inl w ↦ ap (λ y. y.owner) w.1 ∙ later.owner ∙ ap (λ j. (record_at j d.records).owner) (sym w.0)
      | inr w ↦ ap (λ y. y.owner) w.1
    ]

    pub id_after : (k : ℕ) → (record_at k first_records).id ≡ (record_at k d.records).id
    id_after k = elim (at k) [
      | inl w ↦ ap (λ y. y.id) w.1 ∙ later.id ∙ ap (λ j. (record_at j d.records).id) (sym w.0)
      | inr w ↦ ap (λ y. y.id) w.1
    ]

    -- another correlation than the request's goes on to be owed nothing
    still_owes : (k c i : ℕ) → (k ≡ n → is_id (Some m.header.correlation) c ≡ false) → owed c i (record_at k d.records) ≡ 0 → owed c i (record_at k first_records) ≡ 0
    still_owes k c i other o = elim (at k) [
      | inl w ↦
          ap (λ y. owed c i y) w.1 ∙
          still_silent (Some m.header.correlation) no_ids row first_move c i speaks (other w.0) (ap (λ j. owed c i (record_at j d.records)) (sym w.0) ∙ o)
      | inr w ↦ ap (λ y. owed c i y) w.1 ∙ o
    ]

  other_correlation : IsForeign → m.header.provider ≡ name → m.header.requester ≡ parent → (c : ℕ) → IsHeeded x c → is_id (Some m.header.correlation) c ≡ false
  other_correlation foreign np q c i =
      ne_eqb c m.header.correlation (λ e. foreign c i (headers_same m.header.correlation c m.header.requester parent m.header.provider name (sym e) q np))

  seen_apart : IsForeign → is_taken m.header d.seen ≡ false → (c : ℕ) → is_open x.reserve_request c ≡ true → is_taken (header_of parent name c) first_seen ≡ is_taken (header_of parent name c) d.seen
  seen_apart foreign u c i = taken_apart (header_of parent name c) m.header d.seen u (λ e. foreign c (inr i) (sym e))

  -- another record takes it
  pub foreign_start : n < length d.records → (place ≡ Some n → ⊥) → (record_at n d.records).owner ≡ m.header.requester → m.header.provider ≡ name → is_taken m.header d.seen ≡ false → IsForeign →
      IsMate parent name x place d → IsMate parent name x place (goes_on d first_records first_seen first_out)
  unfolding record_of
  foreign_start l away ow np u foreign h = aside_mate parent name x place d first_records first_seen first_out v h
    where
      mine : (k : ℕ) → (record_at k d.records).owner ≡ parent → (c : ℕ) → IsHeeded x c → k ≡ n → is_id (Some m.header.correlation) c ≡ false
      mine k o c i e = other_correlation foreign np (sym ow ∙ ap (λ j. (record_at j d.records).owner) (sym e) ∙ o) c i

      at_own : (k : ℕ) → place ≡ Some k → record_at k first_records ≡ record_at k d.records
      at_own k e = elim (at l k) [ inl w ↦ absurd (away (e ∙ ap Some w.0)) | inr w ↦ w.1 ]

      quiet : (c : ℕ) (b : Body) → IsHeeded x c → Contains (about (header_of parent name c) first_out) b → ⊥
      quiet c b i j =
          let w = addressed_in name first_move.rec.owner parent c first_move.out b j in
          let o : row.owner ≡ parent = sym later.owner ∙ w.0 in
          not_there (answering c first_move.out) b (silent (Some m.header.correlation) no_ids row first_move c speaks (other_correlation foreign np (sym ow ∙ o) c i) (h.seated.others n away o c i)) w.1

      same_at : (o : Option ℕ) → place ≡ o → IsReservationSame (record_of o d.records) (record_of o first_records)
      same_at None e = same_self no_record
      same_at (Some k) e = subst (λ y. IsReservationSame (record_at k d.records) y) (sym (at_own k e)) (same_self (record_at k d.records))

      v : IsAside parent name x place d first_records first_seen first_out
      v =
          record {
            within = within_after l;
            owner = λ k _. owner_after l k;
            id = λ k _. id_after l k;
            others = λ k p o c i e.
                let o' : (record_at k d.records).owner ≡ parent = sym (owner_after l k) ∙ o in
                still_owes l k c e (mine k o' c i) (h.seated.others k p o' c i e);
            alone = λ k e c i a. subst (λ y. IsAlone c y) (sym (at_own k e)) a;
            taken = λ c t. taken_still (header_of parent name c) m.header d.seen u t;
            owes = λ k e c i j o. ap (λ y. owed c j y) (at_own k e) ∙ o;
            same = same_at place refl;
            silent = quiet;
            seen_same = seen_apart foreign u;
          }

  pub new_record : n < length d.records → place ≡ Some n → record_of place first_records ≡ first_move.rec
  unfolding record_of
  new_record l e = ap (λ o. record_of o first_records) e ∙ get_or-set_same d.records n first_move.rec no_record l

  pub old_record : place ≡ Some n → record_of place d.records ≡ row
  unfolding record_of
  old_record e = ap (λ o. record_of o d.records) e

  -- the own record takes it, for another machine
  pub beside_start : n < length d.records → place ≡ Some n → m.header.requester ≡ parent → m.header.provider ≡ name → is_taken m.header d.seen ≡ false → IsForeign → is_reservation (kind_of m.body) ≡ false →
      IsMate parent name x place d → IsMate parent name x place (goes_on d first_records first_seen first_out)
  beside_start l e q np u foreign kind h = aside_mate parent name x place d first_records first_seen first_out v h
    where
      b : IsBeside m.header.correlation row first_move
      b = request_beside side m.body m.header.correlation now row (reservation_kinds m.body ∙ kind)

      other : (c : ℕ) → IsHeeded x c → is_id (Some m.header.correlation) c ≡ false
      other c i = other_correlation foreign np q c i

      alone_row : (c : ℕ) → IsHeeded x c → IsAlone c row
      alone_row c i = subst (λ y. IsAlone c y) (old_record e) (h.seated.alone c i)

      here : (k : ℕ) → place ≡ Some k → record_at k first_records ≡ first_move.rec
      here k w = elim (at l k) [ inl y ↦ y.1 | inr y ↦ absurd (y.0 (same_some k n (sym w ∙ e))) ]

      quiet : (c : ℕ) (w : Body) → IsHeeded x c → Contains (about (header_of parent name c) first_out) w → ⊥
      quiet c w i j = not_there (answering c first_move.out) w (b.says c (other c i) (alone_row c i)) (addressed_in name first_move.rec.owner parent c first_move.out w j).1

      v : IsAside parent name x place d first_records first_seen first_out
      v =
          record {
            within = within_after l;
            owner = λ k _. owner_after l k;
            id = λ k _. id_after l k;
            others = λ k p o c i j. still_owes l k c j (λ _. other c i) (h.seated.others k p (sym (owner_after l k) ∙ o) c i j);
            alone = λ k w c i a. subst (λ y. IsAlone c y) (sym (here k w)) (b.alone c (other c i) (alone_row c i));
            taken = λ c t. taken_still (header_of parent name c) m.header d.seen u t;
            owes = λ k w c i j o. still_owes l k c j (λ _. other c i) o;
            same = subst (λ y. IsReservationSame y (record_of place first_records)) (sym (old_record e)) (subst (λ y. IsReservationSame row y) (sym (new_record l e)) b.same);
            silent = quiet;
            seen_same = seen_apart foreign u;
          }

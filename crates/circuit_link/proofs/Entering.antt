-- Whatever an entry of a child is, a view and its child stay mates: one that is another's passes the view by, and the view's own is its own.
use Rattle.std.proofs.Common.{ℕ, ◌≡◌, ◌<◌, true, false, List, [], ◌∷◌, ◌++◌, length, Option, Some, None, ◌⊎◌, inl, inr, refl, sym, ap, ◌∙◌, subst, arith, length-append, slice_set, true≢false}
use Rattle.std.proofs.lemmas.Bool.{cases_eq}
use Rattle.std.proofs.lemmas.List.{length-set}
use Rattle.nsi_primitive.specs.Messages.{kind_of, connection_of, is_request}
use Rattle.nsi_primitive.specs.declared.entry.Input.{Input}
use Rattle.nsi_primitive.specs.declared.kind.Kind.{Kind}
use Rattle.nsi_primitive.specs.declared.message.Header.{Header}
use Rattle.nsi_primitive.specs.declared.message.Message.{Message}
use Rattle.nsi_primitive.specs.declared.message.Service.{Service}
use Rattle.nsi_primitive.specs.declared.state.Side.{Side as Place}
use Rattle.message_retry.specs.Taken.{is_taken, with_taken}
use Rattle.child_connection.specs.Views.{ChildConnection, sent}
use Rattle.child_connection.specs.Holding.{is_reservation}
use Rattle.connection_record.specs.declared.record.Record.{Record}
use Rattle.connection_record.specs.Applied.{moves_if, requested}
use Rattle.connection_record.specs.Moves.{fresh, asked_criteria}
use Rattle.connection_record.specs.Refusal.{record_refusal}
use Rattle.connection_record.specs.Replies.{addressed}
use Rattle.connection_record.specs.Speaking.{owed}
use Rattle.agent_state.specs.Entries.{error_reply}
use Rattle.agent_state.specs.State.{no_record, record_at}
use Rattle.circuit_link.specs.Links.{Link}
use Rattle.circuit_link.specs.Sides.{took_in}
use Rattle.circuit_link.specs.Children.{Child, goes_on, record_of, side_of, IsFair}
use Rattle.circuit_link.specs.Headers.{header_of}
use Rattle.circuit_link.specs.Mates.{IsMate}
use Rattle.circuit_link.specs.Serving.{taken_by, IsTurn, IsAbout, IsFirst, Serves, IsForeign, IsOwn, LeavesAlone, IsPlaceAfter}
use Rattle.circuit_link.proofs.Answering.{same_some}
use Rattle.circuit_link.proofs.Coursing.{OwesNothingNew}
use Rattle.circuit_link.proofs.Opening.{last_here, last_there, fresh_owed, longer, longer_mate, new_link, new_seated, open_start}
use Rattle.circuit_link.proofs.Owning.{foreign_refused, foreign_seen, own_refused, own_link, own_seated}
use Rattle.circuit_link.proofs.Served.{courses_mate, turn_mate}
use Rattle.circuit_link.proofs.Starting.{foreign_start, beside_start}
use Rattle.circuit_link.proofs.Taking.{taking_link}

-- the message that came
same_message : (a b : Message) → Input.Got a ≡ Input.Got b → a ≡ b
same_message a b e = cc

none_some : (n : ℕ) → None ≡ Some n → ⊥
none_some n e = cc

at_place : (o : Option ℕ) (n : ℕ) → (o ≡ Some n) ⊎ (o ≡ Some n → ⊥)
at_place None n = inr (λ e. none_some n e)
at_place (Some k) n = by_number (cases_eq k n)
  where
    by_number : (k ≡ n) ⊎ (k ≡ n → ⊥) → (Some k ≡ Some n) ⊎ (Some k ≡ Some n → ⊥)
    by_number (inl e) = inl (ap Some e)
    by_number (inr e) = inr (λ w. e (same_some k n w))

-- the child after the first move of a request
abbrev begun : Place → List ℕ → ℕ → Child → ℕ → Message → Child
begun side name now d n m =
    goes_on d (slice_set d.records n (taken_by side now m (record_at n d.records)).rec) (with_taken m.header d.seen)
    (addressed name (taken_by side now m (record_at n d.records)).rec.owner (taken_by side now m (record_at n d.records)).out)

module _ (parent name : List ℕ) (x : ChildConnection) (place : Option ℕ) (d : Child) (fair : IsFair parent name d) (h : IsMate parent name x place d) where
  unowed : OwesNothingNew parent name d
  unowed c n o u k = fair.unowed c n k u o

  -- one with a record more
  module _ (id : ℕ) (owner : List ℕ) (s : Service) (source dest : ℕ) where
    abbrev grown : Child
    grown = longer d (fresh id owner s source dest)

    grown_unowed : OwesNothingNew parent name grown
    grown_unowed c n o u k = by_number (cases_eq n (length d.records))
      where
        by_number : (n ≡ length d.records) ⊎ (n ≡ length d.records → ⊥) → owed c k (record_at n grown.records) ≡ 0
        by_number (inl e) = ap (λ j. owed c k (record_at j grown.records)) e ∙ ap (λ y. owed c k y) (last_here d.records (fresh id owner s source dest) no_record) ∙ fresh_owed c k id owner s source dest
        by_number (inr e) =
            let same : record_at n grown.records ≡ record_at n d.records = last_there d.records (fresh id owner s source dest) no_record n e in
            ap (λ y. owed c k y) same ∙ unowed c n (sym (ap (λ y. y.owner) same) ∙ o) u k

    last_within : length d.records < length grown.records
    last_within = omega (arith, length-append d.records (fresh id owner s source dest ∷ []))

    last_is : record_at (length d.records) grown.records ≡ fresh id owner s source dest
    last_is = last_here d.records (fresh id owner s source dest) no_record

  unseated : place ≡ Some (length d.records) → ⊥
  unseated e = omega (arith, (h.seated.seated (length d.records) e).0)

  module _ (input : Input) (records : List Record) (seen : List Header) (out : List Message) where
    abbrev After : Option ℕ → Type 0
    After o = IsMate parent name x o (goes_on d records seen out)

    -- what is equal to what was done
    as_done : (o : Option ℕ) (rs : List Record) (hs : List Header) (ms : List Message) → records ≡ rs → seen ≡ hs → out ≡ ms → IsMate parent name x o (goes_on d rs hs ms) → After o
    as_done o rs hs ms a b c w = rw (a, b, c) w

    ---- Another's request

    pub passing_mate : Serves name input d records seen out → ((m : Message) → input ≡ Input.Got m → is_request m.body ≡ true → is_taken m.header d.seen ≡ false → IsForeign parent name x m × LeavesAlone name place m d) → After place
    passing_mate (Serves.acts e v) other = as_done place records d.seen out refl e refl (courses_mate parent name x place d records out v unowed h)
    passing_mate (Serves.leaves m w k r o) other =
        as_done place d.records (with_taken m.header d.seen) out r w.counted refl (foreign_seen Place.Provider name parent 0 x place d 0 m out o w.untaken (other m w.got w.request w.untaken).0 h)
    passing_mate (Serves.refuses m error now w v r o) other =
        as_done place d.records (with_taken m.header d.seen) (error_reply name m error ∷ []) r w.counted o
        (foreign_refused Place.Provider name parent 0 x place d 0 m error w.untaken (other m w.got w.request w.untaken).0 h)
    passing_mate (Serves.takes m n side now w a t) other =
        as_done place records (with_taken m.header d.seen) out refl w.counted refl
        (turn_mate side name parent now x place d n m records out a.within t unowed a.provider a.owner w.untaken (started (at_place place n)))
      where
        foreign : IsForeign parent name x m
        foreign = (other m w.got w.request w.untaken).0

        started : (place ≡ Some n) ⊎ (place ≡ Some n → ⊥) → IsMate parent name x place (begun side name now d n m)
        started (inr p) = foreign_start side name parent now x place d n m a.within p a.owner a.provider w.untaken foreign h
        started (inl e) =
            beside_start side name parent now x place d n m a.within e (sym a.owner ∙ (h.seated.seated n e).1) a.provider w.untaken foreign
            ((other m w.got w.request w.untaken).1 n a.id e a.provider a.names a.its_id a.owner) h
    passing_mate (Serves.opens m id s source dest side now w b t) other =
        as_done place records (with_taken m.header d.seen) out refl w.counted refl
        (turn_mate side name parent now x place (grown id m.header.requester s source dest) (length d.records) m records out (last_within id m.header.requester s source dest) t
        (grown_unowed id m.header.requester s source dest) b.provider (ap (λ y. y.owner) (last_is id m.header.requester s source dest)) w.untaken
        (foreign_start side name parent now x place (grown id m.header.requester s source dest) (length d.records) m (last_within id m.header.requester s source dest) unseated
        (ap (λ y. y.owner) (last_is id m.header.requester s source dest)) b.provider w.untaken (other m w.got w.request w.untaken).0
        (longer_mate name parent x place d id m.header.requester s source dest h)))

    ---- The view's own request

    abbrev pub Owned : Type 0
    Owned = (place' : Option ℕ) × IsMate parent name x place' (goes_on d records seen out) × IsPlaceAfter place place' d.records records

    stays : After place → Owned
    stays w = (place, w, inl refl)

    module _ (m : Message) (got : input ≡ Input.Got m) (own : IsOwn parent name x m) where
      same_as : (n : Message) → input ≡ Input.Got n → n ≡ m
      same_as n e = same_message n m (sym e ∙ got)

      kinds : is_reservation (kind_of m.body) ≡ true
      kinds = ap is_reservation own.its_kind ∙ own.reservation

      untaken_at : is_taken m.header d.seen ≡ false → is_taken (header_of parent name own.c) d.seen ≡ false
      untaken_at u = ap (λ z. is_taken z d.seen) (sym own.header) ∙ u

      ---- The own record takes it

      module _ (n : ℕ) (side : Place) (now : ℕ) (u : is_taken m.header d.seen ≡ false) (a : IsAbout now name m n d) where
        seat : place ≡ Some n
        seat = let w = h.seated.known a.id (sym own.connection ∙ a.names) in w.1 ∙ ap Some (fair.ids w.0 n (h.seated.seated w.0 w.1).0 a.within (w.2 ∙ sym a.its_id))

        owned : (record_at n d.records).owner ≡ parent
        owned = (h.seated.seated n seat).1

        here_is : record_of place d.records ≡ record_at n d.records
        unfolding record_of
        here_is = ap (λ o. record_of o d.records) seat

        fine : record_refusal now m.body (record_of place d.records) ≡ None
        fine = ap (λ r. record_refusal now m.body r) here_is ∙ a.unrefused

        taken : Link x (took_in own.c (side_of parent name place d) (taken_by side now m (record_at n d.records)))
        taken =
            subst (λ r. Link x (took_in own.c (side_of parent name place d) (taken_by side now m r))) here_is
            (subst (λ b. Link x (took_in own.c (side_of parent name place d) (moves_if side (requested now m.body b (record_of place d.records)) now (record_of place d.records)))) (sym (ap (λ (z : Header). z.correlation) own.header))
            (taking_link side m.body own.kind own.c now x (side_of parent name place d) own.its_kind own.reservation fine own.asked (untaken_at u) h.linked))

        some_none : Some a.id ≡ None → ⊥
        some_none e = cc

        own_started : IsMate parent name x place (begun side name now d n m)
        own_started =
            record {
              linked = own_link side name parent now x place d n m own.c own.kind a.within seat owned own.header u own.asked taken;
              seated = own_seated side name parent now x place d n m own.c own.kind a.within seat owned own.header u own.asked kinds h.seated;
              opened = λ k e g. absurd (some_none (sym a.names ∙ own.connection ∙ g));
            }

        own_turn : IsTurn side name now m n d.records records out → IsMate parent name x place (goes_on d records (with_taken m.header d.seen) out)
        own_turn t = turn_mate side name parent now x place d n m records out a.within t unowed a.provider a.owner u own_started

      ---- A record is opened for it

      module _ (id : ℕ) (s : Service) (source dest : ℕ) (side : Place) (now : ℕ) (u : is_taken m.header d.seen ≡ false) (b : IsFirst now name m) where
        owner_is : m.header.requester ≡ parent
        owner_is = ap (λ (z : Header). z.requester) own.header

        connectionless : x.connection ≡ None
        unfolding connection_of
        connectionless = sym own.connection ∙ ap connection_of b.body ∙ b.unnamed

        is_reserve : Kind.Reserve ≡ own.kind
        is_reserve = ap kind_of (sym b.body) ∙ own.its_kind

        asked_reserve : x.reserve_request ≡ Some (sent own.c Kind.Reserve)
        asked_reserve = own.asked ∙ ap (λ z. Some (sent own.c z)) (sym is_reserve)

        same_correlation : (a c : ℕ) → Some (sent a Kind.Reserve) ≡ Some (sent c Kind.Reserve) → a ≡ c
        same_correlation a c q = let w : sent a Kind.Reserve ≡ sent c Kind.Reserve = cc in ap (λ z. z.correlation) w

        placeless : (o : Option ℕ) → place ≡ o → place ≡ None
        placeless None e = e
        placeless (Some k) e =
            let g = h.opened k e connectionless in
            absurd (true≢false (sym g.taken ∙ ap (λ z. is_taken (header_of parent name z) d.seen) (same_correlation g.c own.c (sym g.asked ∙ asked_reserve)) ∙ untaken_at u))

        empty : place ≡ None
        empty = placeless place refl

        abbrev bigger : Child
        bigger = grown id m.header.requester s source dest

        last_one : record_at (length d.records) bigger.records ≡ fresh id m.header.requester s source dest
        last_one = last_is id m.header.requester s source dest

        opened_turn : IsTurn side name now m (length d.records) bigger.records records out → IsMate parent name x (Some (length d.records)) (goes_on d records (with_taken m.header d.seen) out)
        opened_turn t =
            turn_mate side name parent now x (Some (length d.records)) bigger (length d.records) m records out (last_within id m.header.requester s source dest) t
            (grown_unowed id m.header.requester s source dest) b.provider (ap (λ y. y.owner) last_one) u
            (open_start side name parent now x bigger (length d.records) m own.c b.reserve (last_within id m.header.requester s source dest) (ap (λ y. y.owner) last_one ∙ owner_is) (ap (λ y. y.rsm) last_one)
            (λ e. b.asks (sym (ap (λ y. asked_criteria now b.reserve y.committed) last_one) ∙ e)) b.body own.header u asked_reserve
            (new_link name parent x place d id m.header.requester s source dest empty h.linked) (new_seated name parent x place d id m.header.requester s source dest owner_is empty h.seated))

        longer_now : IsTurn side name now m (length d.records) bigger.records records out → length d.records < length records
        longer_now t = subst (λ k. length d.records < k) (sym (ap length t.records ∙ length-set bigger.records (length d.records) t.after)) (last_within id m.header.requester s source dest)

      pub own_mate : Serves name input d records seen out → Owned
      own_mate (Serves.acts e v) = stays (as_done place records d.seen out refl e refl (courses_mate parent name x place d records out v unowed h))
      own_mate (Serves.leaves n w k r o) = absurd (true≢false (sym kinds ∙ ap (λ (z : Message). is_reservation (kind_of z.body)) (sym (same_as n w.got)) ∙ k))
      own_mate (Serves.refuses n error now w v r o) =
          let e = same_as n w.got in
          stays
          (as_done place d.records (with_taken m.header d.seen) (error_reply name m error ∷ []) r (w.counted ∙ ap (λ (z : Message). with_taken z.header d.seen) e) (o ∙ ap (λ z. error_reply name z error ∷ []) e)
          (own_refused Place.Provider name parent 0 x place d 0 m error own.c own.kind (ap (λ (z : Message). is_taken z.header d.seen) (sym e) ∙ w.untaken) own.header own.asked unowed h))
      own_mate (Serves.takes n k side now w a t) =
          let e = same_as n w.got in
          stays
          (as_done place records (with_taken m.header d.seen) out refl (w.counted ∙ ap (λ (z : Message). with_taken z.header d.seen) e) refl
          (own_turn k side now (ap (λ (z : Message). is_taken z.header d.seen) (sym e) ∙ w.untaken) (subst (λ z. IsAbout now name z k d) e a) (subst (λ z. IsTurn side name now z k d.records records out) e t)))
      own_mate (Serves.opens n id s source dest side now w b t) =
          let e = same_as n w.got in
          let u : is_taken m.header d.seen ≡ false = ap (λ (z : Message). is_taken z.header d.seen) (sym e) ∙ w.untaken in
          let b' = subst (λ z. IsFirst now name z) e b in
          let t' = subst (λ (z : Message). IsTurn side name now z (length d.records) (d.records ++ fresh id z.header.requester s source dest ∷ []) records out) e t in (
            Some (length d.records),
            as_done (Some (length d.records)) records (with_taken m.header d.seen) out refl (w.counted ∙ ap (λ (z : Message). with_taken z.header d.seen) e) refl (opened_turn id s source dest side now u b' t'),
            inr (empty id s source dest side now u b', refl, longer_now id s source dest side now u b' t'),
          )

-- A request that isn't refused, at an agent of any kind that is asked.
use Rattle.std.proofs.Common.{ℕ, ◌≡◌, ◌<◌, ◌==◌, ◌&&◌, true, false, not, length, slice_get, option_and_then, List, Option, Some, None, refl, sym, ap, ◌∙◌, subst, arith, bytes_eq}
use Rattle.std.proofs.lemmas.Option.{get_or_from_slice_get, slice_get_within, slice_get-get_or}
use Rattle.std.proofs.lemmas.List.Quantifiers.{position-Some}
use Rattle.std.proofs.lemmas.Slice.Eq.{bytes_eq-Decides}
use Rattle.nsi_primitive.specs.Messages.{kind_of, connection_of, is_query}
use Rattle.nsi_primitive.specs.declared.kind.ErrorName.{ErrorName}
use Rattle.nsi_primitive.specs.declared.message.Body.{Body}
use Rattle.nsi_primitive.specs.declared.message.Message.{Message}
use Rattle.nsi_primitive.specs.declared.message.ReserveRequest.{ReserveRequest}
use Rattle.child_connection.specs.Holding.{is_reservation}
use Rattle.connection_record.specs.declared.record.Record.{Record}
use Rattle.connection_record.specs.Refusal.{refusal, record_refusal, first_refusal, unnamed_refusal, refused_if, or_else, about as refusal_about, named_refusal, record_for, place_of, points_of}
use Rattle.connection_record.specs.Unrefused.{IsTakenAt}
use Rattle.connection_record.proofs.Unrefused.{unrefused_agent, unrefused_at, first_criteria}
use Rattle.agent_state.specs.State.{no_record, record_at}
use Rattle.circuit_link.specs.Children.{Child}
use Rattle.circuit_link.specs.Serving.{IsAbout, IsFirst, IsRefused}

second_none : (a b : Option ErrorName) → or_else a b ≡ None → b ≡ None
second_none None b h = h
second_none (Some x) b h = absurd (cc)

-- the record that a request names
pub record IsFound (now : ℕ) (name : List ℕ) (m : Message) (id : ℕ) (d : Child) : Type 0 where
  pub place : ℕ
  pub found : place_of id m.header.requester d.records ≡ Some place
  pub about : IsAbout now name m place d

pub found_by : (now : ℕ) (name : List ℕ) (stp_of : List ℕ → Option ℕ) (m : Message) (id : ℕ) (d : Child) → connection_of m.body ≡ Some id → refusal now name stp_of d.records m ≡ None → IsFound now name m id d
found_by now name stp_of m id d c r =
    let t : IsTakenAt now m d.records id = unrefused_at now name stp_of d.records m id c r in
    let here : record_at t.place d.records ≡ t.own = get_or_from_slice_get d.records t.place t.own no_record t.there in
    record {
      place = t.place;
      found = t.found;
      about =
          record {
            within = slice_get_within d.records t.place t.own t.there;
            provider = unrefused_agent now name stp_of d.records m r;
            owner = ap (λ y. y.owner) here ∙ t.owner;
            id = id;
            names = c;
            its_id = ap (λ y. y.id) here ∙ t.named;
            unrefused = subst (λ y. record_refusal now m.body y ≡ None) (sym here) t.unrefused;
          };
    }

-- what a first reserve that isn't refused asks
pub first_by : (now : ℕ) (name : List ℕ) (stp_of : List ℕ → Option ℕ) (rs : List Record) (m : Message) (q : ReserveRequest) → m.body ≡ Body.Reserve q → q.connection ≡ None → refusal now name stp_of rs m ≡ None →
    IsFirst now name m × (points_of stp_of q ≡ None → ⊥)
unfolding refusal unnamed_refusal connection_of
first_by now name stp_of rs m q b c r = (record { provider = unrefused_agent now name stp_of rs m r; reserve = q; body = b; unnamed = c; asks = λ e. first_criteria now stp_of q unrefused e }, λ e. pointless unrefused e)
  where
    unnamed : refusal_about now (connection_of m.body) m.header.requester stp_of rs m.body ≡ None
    unnamed = second_none (refused_if (not (bytes_eq m.header.provider name)) ErrorName.WrongProvider) (refusal_about now (connection_of m.body) m.header.requester stp_of rs m.body) r

    unrefused : first_refusal now stp_of q ≡ None
    unrefused = sym (ap (λ o. refusal_about now o m.header.requester stp_of rs (Body.Reserve q)) c) ∙ sym (ap (λ z. refusal_about now (connection_of z) m.header.requester stp_of rs z) b) ∙ unnamed

    pointless : first_refusal now stp_of q ≡ None → points_of stp_of q ≡ None → ⊥
    pointless h e = grind (arith, h, e)

-- a request without a connection that is no reserve isn't the reservation's
pub unnamed_kind : (body : Body) → connection_of body ≡ None → ((q : ReserveRequest) → body ≡ Body.Reserve q → ⊥) → is_reservation (kind_of body) ≡ false
unfolding connection_of is_reservation
unnamed_kind (Body.Reserve q) c n = absurd (n q refl)
unnamed_kind (Body.ReserveCommit id) c n = absurd (cc)
unnamed_kind (Body.ReserveAbort id) c n = absurd (cc)
unnamed_kind _ c n = refl

-- nor is a query
pub query_kind : (body : Body) → is_query body ≡ true → is_reservation (kind_of body) ≡ false
unfolding is_reservation
query_kind body q = grind (arith, q)

pub reserve_unnamed : (body : Body) (q : ReserveRequest) → body ≡ Body.Reserve q → connection_of body ≡ None → q.connection ≡ None
unfolding connection_of
reserve_unnamed body q e c = sym (ap connection_of e) ∙ c

-- a request that is refused is refused as the record that it names says
pub refused_by : (now : ℕ) (name : List ℕ) (stp_of : List ℕ → Option ℕ) (m : Message) (error : ErrorName) (d : Child) → refusal now name stp_of d.records m ≡ Some error → IsRefused now name m error d
unfolding refusal
refused_by now name stp_of m error d r n id p c f = sym (ap (λ o. named_refusal now o m.body) row) ∙ at
  where
    right : bytes_eq m.header.provider name ≡ true
    right = (bytes_eq-Decides m.header.provider name).1 p

    named : refusal_about now (connection_of m.body) m.header.requester stp_of d.records m.body ≡ Some error
    named = sym (ap (λ b. or_else (refused_if (not b) ErrorName.WrongProvider) (refusal_about now (connection_of m.body) m.header.requester stp_of d.records m.body)) right) ∙ r

    at : named_refusal now (record_for id m.header.requester d.records) m.body ≡ Some error
    at = sym (ap (λ o. refusal_about now o m.header.requester stp_of d.records m.body) c) ∙ named

    found : n < length d.records
    found = (position-Some (λ y. (id == y.id) && bytes_eq m.header.requester y.owner) d.records n no_record f).0

    row : record_for id m.header.requester d.records ≡ Some (record_at n d.records)
    row = ap (λ o. option_and_then (λ k. slice_get d.records k) o) f ∙ slice_get-get_or d.records n no_record found

-- A request that is new makes one work wait at most, and that only where it is named.
use Rattle.std.proofs.Common.{◌≡◌, ◌∙◌, ◌≤◌, ◌<◌, inl, inr, ℕ, Bool, true, false, not, eqb, ◌&&◌, bytes_eq, List, [], ◌∷◌, Option, Some, None, arith, refl, sym, ap, subst, length, length-append, slice_get, unwrap_or, option_and_then}
use Rattle.std.proofs.lemmas.Bool.{and_parts, eqb-true}
use Rattle.std.proofs.lemmas.List.Quantifiers.{position-Some}
use Rattle.std.proofs.lemmas.List.Sums.{sum_by_push}
use Rattle.std.proofs.lemmas.Option.{slice_get-get_or, get_or_from_slice_get}
use Rattle.nsi_primitive.specs.Ids.{id_of}
use Rattle.nsi_primitive.specs.Messages.{is_request, is_query, connection_of, named_connection}
use Rattle.nsi_primitive.specs.declared.kind.ErrorName.{ErrorName}
use Rattle.nsi_primitive.specs.declared.state.Side.{Side}
use Rattle.nsi_primitive.specs.declared.message.Body.{Body}
use Rattle.nsi_primitive.specs.declared.message.Criteria.{Criteria}
use Rattle.nsi_primitive.specs.declared.message.Message.{Message}
use Rattle.nsi_primitive.specs.declared.message.ReserveRequest.{ReserveRequest}
use Rattle.message_retry.specs.Taken.{is_taken}
use Rattle.reserve_machine.specs.Table.{step as reserve_step}
use Rattle.connection_record.specs.declared.record.Record.{Record}
use Rattle.connection_record.specs.declared.apply.Move.{Move}
use Rattle.connection_record.specs.declared.moves.ReservationMove.{ReservationMove}
use Rattle.connection_record.specs.Replies.{Moved, addressed, stays}
use Rattle.connection_record.specs.Moves.{is_live, is_working, event_of, reserves, asked_criteria}
use Rattle.connection_record.specs.Applied.{moves, moves_if, requested, waits, is_provisioning, is_terminating, status_of, tells, reserve_move}
use Rattle.connection_record.specs.Refusal.{refusal, refused_if, or_else, about, named_refusal, place_of, points_of, record_for}
use Rattle.agent_state.specs.Entries.{error_reply, query_reply}
use Rattle.nsi_query.specs.Answers.{answer_to}
use Rattle.provider_agent.specs.Setting.{Setting}
use Rattle.provider_agent.specs.State.{State, Stepped, says, record_at, no_record}
use Rattle.provider_agent.specs.Steps.{receives, serves, answers, accepts, opens, opens_between, taken_at, with_new}
use Rattle.provider_agent.specs.Working.{works_in, works_among}
use Rattle.provider_agent.proofs.RecordPlaces.{push_here, push_cases, set_cases}
use Rattle.provider_agent.proofs.Turning.{told_keeps}
use Rattle.provider_agent.proofs.WaitingWork.{told_works}
use Rattle.provider_agent.proofs.RequestCases.{seen_with, new_record}
use Rattle.sole_requester.specs.Sole.{AreOwnedBy, or_that, first_named, named_by, WaitsAt, IsReceived}
use Rattle.sole_requester.proofs.Moving.{waits_nowhere, works_each, kept_few, kept_owners, kept_works, kept_only}

---- The record that a request names

second_none : (a b : Option ErrorName) → or_else a b ≡ None → b ≡ None
second_none None b h = h
second_none (Some x) b h = absurd (cc)

record IsNamed (m : Message) (records : List Record) (id n : ℕ) : Type 0 where
  place : place_of id m.header.requester records ≡ Some n
  within : n < length records
  id_is : (record_at n records).id ≡ id

named_at : (now : ℕ) (agent : List ℕ) (stp_of : List ℕ → Option ℕ) (records : List Record) (m : Message) (id : ℕ) → connection_of m.body ≡ Some id → refusal now agent stp_of records m ≡ None → (n : ℕ) × IsNamed m records id n
unfolding refusal
named_at now agent stp_of records m id c h = by_place (place_of id m.header.requester records) refl
  where
    about_none : about now (connection_of m.body) m.header.requester stp_of records m.body ≡ None
    about_none = second_none (refused_if (not (bytes_eq m.header.provider agent)) ErrorName.WrongProvider) (about now (connection_of m.body) m.header.requester stp_of records m.body) h

    named_none : named_refusal now (record_for id m.header.requester records) m.body ≡ None
    named_none = sym (ap (λ o. about now o m.header.requester stp_of records m.body) c) ∙ about_none

    by_place : (o : Option ℕ) → place_of id m.header.requester records ≡ o → (n : ℕ) × IsNamed m records id n
    by_place None e = absurd (let clash : Some ErrorName.Nonexistent ≡ None = sym (ap (λ p. named_refusal now (option_and_then (λ n. slice_get records n) p) m.body) e) ∙ named_none in cc)
    by_place (Some n) e =
        let found = position-Some (λ r. eqb id r.id && bytes_eq m.header.requester r.owner) records n no_record e in
        let same = and_parts (eqb id (record_at n records).id) (bytes_eq m.header.requester (record_at n records).owner) found.1 in
        (n, record { place = e; within = found.0; id_is = sym (eqb-true id (record_at n records).id same.0) })

---- What comes of it

module _ (setting : Setting) (stp_of : List ℕ → Option ℕ) (s : State) (m : Message) where
  abbrev Comes : Stepped → Type 0
  Comes x = IsReceived s m x.state x.out

  said : (out : List Message) → length out ≤ 4 → Comes (says (seen_with s m) out)
  said out few = record {
    few = few;
    owners = λ name is own. own;
    works = omega arith;
    only = λ none. waits_nowhere s.records (named_by m.body out) none;
    seen = refl;
    now = refl;
  }

  moved : (id n : ℕ) → connection_of m.body ≡ Some id → n < length s.records → (record_at n s.records).id ≡ id → Comes (taken_at setting (seen_with s m) n m)
  moved id n c lt same =
      let o : Option Move = requested s.now m.body m.header.correlation (record_at n s.records) in
      record {
        few = kept_few setting (seen_with s m) n o lt;
        owners = λ name is own. kept_owners setting (seen_with s m) n o lt name own;
        works = kept_works setting (seen_with s m) n o lt;
        only = λ none. subst (λ (at : Option ℕ). WaitsAt at (taken_at setting (seen_with s m) n m).state.records)
            (ap Some same ∙ sym (ap (λ p. or_that p (first_named (taken_at setting (seen_with s m) n m).out)) c))
            (kept_only setting (seen_with s m) n o lt none);
        seen = refl;
        now = refl;
      }

  module _ (q : ReserveRequest) (points : ℕ × ℕ) (is : m.body ≡ Body.Reserve q) (unnamed : connection_of m.body ≡ None) where
    abbrev own : Record
    own = new_record setting s m q points

    abbrev t : State
    t = with_new setting (seen_with s m) m q points

    abbrev place : ℕ
    place = length s.records

    there : record_at place t.records ≡ own
    there = get_or_from_slice_get t.records place own no_record (push_here s.records own)

    lt : place < length t.records
    lt = omega (arith, length-append s.records (own ∷ []))

    owners_then : (name : List ℕ) → m.header.requester ≡ name → AreOwnedBy name s.records → AreOwnedBy name t.records
    owners_then name e all k z h = elim (push_cases s.records k own z h) [
      | inl f ↦ ap (λ (r : Record). r.owner) (sym f.1) ∙ e
      | inr f ↦ all k z f
    ]

    own_works : works_in own ≡ 0
    unfolding waits is_live is_working is_provisioning is_terminating
    own_works = refl

    works_then : works_among t.records ≡ works_among s.records
    works_then = omega (arith, sum_by_push works_in s.records own, own_works)

    -- what the new record does and says
    abbrev does : Option Criteria → Moved
    does o = tells (status_of s.now own) (id_of setting.number t.next) s.now (moves_if Side.Provider (reserve_move m.header.correlation o) s.now own)

    abbrev says_of : Option Criteria → List Message
    says_of o = addressed setting.name (does o).rec.owner (does o).out

    named_by_move : (o : Option Criteria) → 1 ≤ works_in (does o).rec → Some (does o).rec.id ≡ first_named (says_of o)
    unfolding moves reserves reserve_step event_of tells first_named named_connection
    named_by_move None w = absurd (omega (arith, w, told_works (status_of s.now own) (id_of setting.number t.next) s.now (stays own), own_works))
    named_by_move (Some criteria) w =
        ap Some (told_keeps (λ (z : Record). z.id ≡ own.id) (status_of s.now own) (id_of setting.number t.next) s.now (moves Side.Provider (Move.Reservation (ReservationMove.Reserve m.header.correlation criteria)) s.now own) (λ notices. refl))

    abbrev answer_by : Body → Record → Moved
    answer_by body r = tells (status_of s.now r) (id_of setting.number t.next) s.now (moves_if Side.Provider (requested s.now body m.header.correlation r) s.now r)

    abbrev NamesNew : Body → Record → Type 0
    NamesNew body r = 1 ≤ works_in (answer_by body r).rec → Some (answer_by body r).rec.id ≡ first_named (addressed setting.name (answer_by body r).rec.owner (answer_by body r).out)

    names_reserve : NamesNew (Body.Reserve q) own
    unfolding requested
    names_reserve = named_by_move (asked_criteria s.now q own.committed)

    names_new : NamesNew m.body (record_at place t.records)
    names_new = subst (λ (r : Record). NamesNew m.body r) (sym there) (subst (λ (body : Body). NamesNew body own) (sym is) names_reserve)

    only_new : works_among s.records ≡ 0 → WaitsAt (named_by m.body (taken_at setting t place m).out) (taken_at setting t place m).state.records
    only_new none k z h w = elim (set_cases t.records place k (answer_by m.body (record_at place t.records)).rec z (record_at place t.records) (slice_get-get_or t.records place no_record lt) h) [
      | inl e ↦
          ap (λ (r : Record). Some r.id) (sym e.1)
          ∙ (names_new (subst (λ (r : Record). 1 ≤ works_in r) (sym e.1) w) ∙ sym (ap (λ p. or_that p (first_named (taken_at setting t place m).out)) unnamed))
      | inr f ↦ absurd (omega (arith, works_each t.records k z f, works_then, none, w))
    ]

    opened : Comes (taken_at setting t place m)
    opened =
        let o : Option Move = requested s.now m.body m.header.correlation (record_at place t.records) in
        record {
          few = kept_few setting t place o lt;
          owners = λ name e all. kept_owners setting t place o lt name (owners_then name e all);
          works = omega (arith, kept_works setting t place o lt, works_then);
          only = only_new;
          seen = refl;
          now = refl;
        }

  between : (o : Option (ℕ × ℕ)) (q : ReserveRequest) → m.body ≡ Body.Reserve q → connection_of m.body ≡ None → Comes (opens_between o setting (seen_with s m) m q)
  between None q is unnamed = said [] (omega arith)
  between (Some points) q is unnamed = opened q points is unnamed

  opening : (body : Body) → m.body ≡ body → connection_of m.body ≡ None → Comes (opens body setting stp_of (seen_with s m) m)
  opening (Body.Reserve q) is unnamed = between (points_of stp_of q) q is unnamed
  opening _ is unnamed = said [] (omega arith)

  accepting : (o : Option ℕ) → connection_of m.body ≡ o → refusal s.now setting.name stp_of s.records m ≡ None → Comes (accepts o setting stp_of (seen_with s m) m)
  accepting None e fine = opening m.body refl e
  accepting (Some id) e fine =
      let named = named_at s.now setting.name stp_of s.records m id e fine in
      subst (λ (k : ℕ). Comes (taken_at setting (seen_with s m) k m)) (sym (ap (λ o. unwrap_or o 0) named.1.place)) (moved id named.0 e named.1.within named.1.id_is)

  answering : (o : Option ErrorName) → refusal s.now setting.name stp_of s.records m ≡ o → Comes (answers o setting stp_of (seen_with s m) m)
  answering (Some error) e = said (error_reply setting.name m error ∷ []) (omega arith)
  answering None e = accepting (connection_of m.body) refl e

  serving : (b : Bool) → Comes (serves b setting stp_of (seen_with s m) m)
  serving true = said (query_reply setting.name m (answer_to setting.name s.now s.records m) ∷ []) (omega arith)
  serving false = answering (refusal s.now setting.name stp_of s.records m) refl

  pub received : is_request m.body ≡ true → is_taken m.header s.seen ≡ false → Comes (receives (is_request m.body) (is_taken m.header s.seen) setting stp_of s m)
  unfolding receives
  received asks new = subst (λ a. Comes (receives a (is_taken m.header s.seen) setting stp_of s m)) (sym asks) (subst (λ b. Comes (receives true b setting stp_of s m)) (sym new) (serving (is_query m.body)))

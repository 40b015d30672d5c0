-- What receiving a message comes to: nothing, the answer to a query, an error, a new record, or a move of a record that is there.
use Rattle.std.proofs.Common.{◌≡◌, ◌<◌, ◌∙◌, ℕ, Bool, true, false, List, [], ◌∷◌, Option, Some, None, refl, sym, ap, subst, not, eqb, ◌&&◌, bytes_eq, length, slice_get, unwrap_or, option_and_then}
use Rattle.std.proofs.lemmas.List.Quantifiers.{position-Some}
use Rattle.std.proofs.lemmas.Option.{slice_get-get_or}
use Rattle.nsi_primitive.specs.Ids.{id_of}
use Rattle.nsi_primitive.specs.Messages.{is_request, is_query, connection_of}
use Rattle.nsi_primitive.specs.declared.kind.ErrorName.{ErrorName}
use Rattle.nsi_primitive.specs.declared.message.Body.{Body}
use Rattle.nsi_primitive.specs.declared.message.Message.{Message}
use Rattle.nsi_primitive.specs.declared.message.ReserveRequest.{ReserveRequest}
use Rattle.message_retry.specs.Taken.{is_taken, with_taken}
use Rattle.connection_record.specs.declared.record.Record.{Record}
use Rattle.connection_record.specs.Moves.{is_live, fresh, service_of}
use Rattle.connection_record.specs.Refusal.{refusal, is_in_place, has_row, refused_if, or_else, about, named_refusal, record_refusal, modification_refusal, place_of, points_of, record_for}
use Rattle.nsi_query.specs.Answers.{answer_to}
use Rattle.provider_agent.specs.Setting.{Setting}
use Rattle.provider_agent.specs.State.{State, Stepped, unchanged, says, record_at, no_record, name_or}
use Rattle.agent_state.specs.Entries.{error_reply, query_reply}
use Rattle.provider_agent.specs.Steps.{receives, serves, answers, accepts, opens, opens_between, taken_at, with_new}

-- the state in which a request counts as seen
abbrev pub seen_with : State → Message → State
seen_with s m = record s { seen = with_taken m.header s.seen }

-- the record that a first reserve makes
abbrev pub new_record : Setting → State → Message → ReserveRequest → ℕ × ℕ → Record
new_record setting s m q points = fresh (id_of setting.number s.next) m.header.requester (service_of q (name_or q.source) (name_or q.dest)) points.0 points.1

second_none : (a b : Option ErrorName) → or_else a b ≡ None → b ≡ None
second_none None b h = h
second_none (Some x) b h = absurd (cc)

-- the place of the record that a request names, and that the request isn't refused there
record IsNamedAt (now : ℕ) (m : Message) (records : List Record) (id n : ℕ) : Type 0 where
  place_is : place_of id m.header.requester records ≡ Some n
  within : n < length records
  unrefused : modification_refusal now m.body (record_at n records) ≡ None

named_at : (now : ℕ) (agent : List ℕ) (stp_of : List ℕ → Option ℕ) (records : List Record) (m : Message) (id : ℕ) → connection_of m.body ≡ Some id → refusal now agent stp_of records m ≡ None → (n : ℕ) × IsNamedAt now m records id n
unfolding refusal
named_at now agent stp_of records m id c h = by_place (place_of id m.header.requester records) refl
  where
    about_none : about now (connection_of m.body) m.header.requester stp_of records m.body ≡ None
    about_none = second_none (refused_if (not (bytes_eq m.header.provider agent)) ErrorName.WrongProvider) (about now (connection_of m.body) m.header.requester stp_of records m.body) h

    named_none : named_refusal now (record_for id m.header.requester records) m.body ≡ None
    named_none = sym (ap (λ o. about now o m.header.requester stp_of records m.body) c) ∙ about_none

    by_place : (o : Option ℕ) → place_of id m.header.requester records ≡ o → (n : ℕ) × IsNamedAt now m records id n
    by_place None e = absurd (let clash : Some ErrorName.Nonexistent ≡ None = sym (ap (λ p. named_refusal now (option_and_then (λ n. slice_get records n) p) m.body) e) ∙ named_none in cc)
    by_place (Some n) e =
        let within = (position-Some (λ r. eqb id r.id && bytes_eq m.header.requester r.owner) records n no_record e).0 in
        let there : slice_get records n ≡ Some (record_at n records) = slice_get-get_or records n no_record within in
        let fine : record_refusal now m.body (record_at n records) ≡ None =
        sym (ap (λ p. named_refusal now (option_and_then (λ n. slice_get records n) p) m.body) e ∙ ap (λ x. named_refusal now x m.body) there) ∙ named_none
        in
        (n, record { place_is = e; within = within; unrefused = third (record_at n records) fine })
      where
        third : (r : Record) → record_refusal now m.body r ≡ None → modification_refusal now m.body r ≡ None
        third r g = second_none (refused_if (not (is_in_place m.body r && has_row m.body r)) ErrorName.InvalidTransition) (modification_refusal now m.body r)
            (second_none (refused_if (not (is_live r.lsm)) ErrorName.Gone) (or_else (refused_if (not (is_in_place m.body r && has_row m.body r)) ErrorName.InvalidTransition) (modification_refusal now m.body r)) g)

-- what holds of each of these holds of what is received
pub record IsInEachCase (setting : Setting) (stp_of : List ℕ → Option ℕ) (s : State) (m : Message) (P : Stepped → Type 0) : Type 0 where
  pub ignored : P (unchanged s)
  pub unopened : P (unchanged (seen_with s m))
  pub told : is_query m.body ≡ true → P (says (seen_with s m) (query_reply setting.name m (answer_to setting.name s.now s.records m) ∷ []))
  pub refused : (error : ErrorName) → refusal s.now setting.name stp_of s.records m ≡ Some error → P (says (seen_with s m) (error_reply setting.name m error ∷ []))
  pub opened : (q : ReserveRequest) (points : ℕ × ℕ) → m.body ≡ Body.Reserve q → points_of stp_of q ≡ Some points → P (taken_at setting (with_new setting (seen_with s m) m q points) (length s.records) m)
  pub moved : (n : ℕ) → n < length s.records → modification_refusal s.now m.body (record_at n s.records) ≡ None → P (taken_at setting (seen_with s m) n m)

pub received_by : (setting : Setting) (stp_of : List ℕ → Option ℕ) (s : State) (m : Message) (P : Stepped → Type 0) → IsInEachCase setting stp_of s m P → P (receives (is_request m.body) (is_taken m.header s.seen) setting stp_of s m)
unfolding receives
received_by setting stp_of s m P each = by_seen (is_request m.body) (is_taken m.header s.seen)
  where
    between : (o : Option (ℕ × ℕ)) (q : ReserveRequest) → m.body ≡ Body.Reserve q → points_of stp_of q ≡ o → P (opens_between o setting (seen_with s m) m q)
    between None q e are = each.unopened
    between (Some points) q e are = each.opened q points e are

    opening : (body : Body) → m.body ≡ body → P (opens body setting stp_of (seen_with s m) m)
    opening (Body.Reserve q) e = between (points_of stp_of q) q e refl
    opening _ e = each.unopened

    accepting : (o : Option ℕ) → connection_of m.body ≡ o → refusal s.now setting.name stp_of s.records m ≡ None → P (accepts o setting stp_of (seen_with s m) m)
    accepting None e r = opening m.body refl
    accepting (Some id) e r =
        let named = named_at s.now setting.name stp_of s.records m id e r in
        subst (λ (k : ℕ). P (taken_at setting (seen_with s m) k m)) (sym (ap (λ o. unwrap_or o 0) named.1.place_is)) (each.moved named.0 named.1.within named.1.unrefused)

    answering : (o : Option ErrorName) → refusal s.now setting.name stp_of s.records m ≡ o → P (answers o setting stp_of (seen_with s m) m)
    answering (Some error) r = each.refused error r
    answering None r = accepting (connection_of m.body) refl r

    serving : (b : Bool) → is_query m.body ≡ b → P (serves b setting stp_of (seen_with s m) m)
    serving true e = each.told e
    serving false e = answering (refusal s.now setting.name stp_of s.records m) refl

    by_seen : (a b : Bool) → P (receives a b setting stp_of s m)
    by_seen true false = serving (is_query m.body) refl
    by_seen true true = each.ignored
    by_seen false true = each.ignored
    by_seen false false = each.ignored

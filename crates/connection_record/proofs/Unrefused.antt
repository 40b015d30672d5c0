-- What is known of a request that isn't refused.
use Rattle.std.proofs.Common.{ℕ, ◌≡◌, ◌∙◌, Bool, true, false, not, eqb, eqb-true, get_or, ◌&&◌, List, [], Option, Some, None, ◌⊎◌, refl, sym, ap, arith, bytes_eq, slice_get, option_and_then}
use Rattle.std.proofs.lemmas.List.Quantifiers.{position-Some}
use Rattle.std.proofs.lemmas.Option.{slice_get-get_or}
use Rattle.std.proofs.lemmas.Slice.Eq.{bytes_eq-Decides}
use Rattle.nsi_primitive.specs.Messages.{connection_of}
use Rattle.nsi_primitive.specs.declared.kind.Directionality.{Directionality}
use Rattle.nsi_primitive.specs.declared.kind.ErrorName.{ErrorName}
use Rattle.nsi_primitive.specs.declared.state.Rsm.{Rsm}
use Rattle.nsi_primitive.specs.declared.message.Body.{Body}
use Rattle.nsi_primitive.specs.declared.message.Message.{Message}
use Rattle.nsi_primitive.specs.declared.message.ReserveRequest.{ReserveRequest}
use Rattle.reserve_machine.specs.Table.{step}
use Rattle.connection_record.specs.declared.record.Record.{Record}
use Rattle.connection_record.specs.Moves.{is_live, asked_criteria, fresh}
use Rattle.connection_record.specs.Refusal.{has_row, is_in_place, record_refusal, modification_refusal, first_refusal, refused_if, or_else, refusal, about, named_refusal, record_for, place_of}
use Rattle.connection_record.specs.Unrefused.{IsFitFor, IsTakenAt}

second_none : (a b : Option ErrorName) → or_else a b ≡ None → b ≡ None
second_none None b h = h
second_none (Some x) b h = absurd (cc)

both_true : (a b : Bool) (error : ErrorName) → refused_if (not (a && b)) error ≡ None → (a ≡ true) × (b ≡ true)
both_true true true error h = (refl, refl)
both_true true false error h = absurd (cc)
both_true false b error h = absurd (cc)

not_refused : (a : Bool) (error : ErrorName) → refused_if (not a) error ≡ None → a ≡ true
not_refused true error h = refl
not_refused false error h = absurd (cc)

first_none : (a b : Option ErrorName) → or_else a b ≡ None → a ≡ None
first_none None b h = refl
first_none (Some x) b h = absurd (cc)

pub unrefused_fits : (now : ℕ) (body : Body) (r : Record) → record_refusal now body r ≡ None → IsFitFor now body r
unrefused_fits now body r h = record { live = not_refused (is_live r.lsm) ErrorName.Gone gone; in_place = both.0; row = both.1; modification = second_none place (modification_refusal now body r) later }
  where
    place : Option ErrorName
    place = refused_if (not (is_in_place body r && has_row body r)) ErrorName.InvalidTransition

    gone : refused_if (not (is_live r.lsm)) ErrorName.Gone ≡ None
    gone = first_none (refused_if (not (is_live r.lsm)) ErrorName.Gone) (or_else place (modification_refusal now body r)) h

    later : or_else place (modification_refusal now body r) ≡ None
    later = second_none (refused_if (not (is_live r.lsm)) ErrorName.Gone) (or_else place (modification_refusal now body r)) h

    both : (is_in_place body r ≡ true) × (has_row body r ≡ true)
    both = both_true (is_in_place body r) (has_row body r) ErrorName.InvalidTransition (first_none place (modification_refusal now body r) later)

pub reserve_row : (q : ReserveRequest) (r : Record) → has_row (Body.Reserve q) r ≡ true → r.rsm ≡ Rsm.ReserveStart
unfolding has_row step
reserve_row q r h = grind arith

pub commit_row : (id : ℕ) (r : Record) → has_row (Body.ReserveCommit id) r ≡ true → r.rsm ≡ Rsm.ReserveHeld
unfolding has_row step
commit_row id r h = grind arith

pub abort_row : (id : ℕ) (r : Record) → has_row (Body.ReserveAbort id) r ≡ true → (r.rsm ≡ Rsm.ReserveHeld) ⊎ (r.rsm ≡ Rsm.ReserveFailed) ⊎ (r.rsm ≡ Rsm.ReserveTimeout)
unfolding has_row step
abort_row id r h = grind arith

-- a reserve that isn't refused asks for criteria
pub unrefused_criteria : (now : ℕ) (q : ReserveRequest) (r : Record) → modification_refusal now (Body.Reserve q) r ≡ None → asked_criteria now q r.committed ≡ None → ⊥
unfolding modification_refusal
unrefused_criteria now q r h e = grind (arith, h, e)

pub first_criteria : (now : ℕ) (stp_of : List ℕ → Option ℕ) (q : ReserveRequest) → first_refusal now stp_of q ≡ None → asked_criteria now q [] ≡ None → ⊥
first_criteria now stp_of q h e = grind (arith, h, e)

---- At an agent

pub unrefused_agent : (now : ℕ) (agent : List ℕ) (stp_of : List ℕ → Option ℕ) (records : List Record) (m : Message) → refusal now agent stp_of records m ≡ None → m.header.provider ≡ agent
unfolding refusal
unrefused_agent now agent stp_of records m h =
    (bytes_eq-Decides m.header.provider agent).0
    (not_refused (bytes_eq m.header.provider agent) ErrorName.WrongProvider
    (first_none (refused_if (not (bytes_eq m.header.provider agent)) ErrorName.WrongProvider) (about now (connection_of m.body) m.header.requester stp_of records m.body) h))

-- some record
abbrev nobody : Record
nobody = fresh 0 [] (record { source = []; dest = []; directionality = Directionality.Bidirectional; symmetric = None; global = None; description = None }) 0 0

both_parts : (a b : Bool) → (a && b) ≡ true → (a ≡ true) × (b ≡ true)
both_parts true true h = (refl, refl)
both_parts true false h = absurd (cc)
both_parts false b h = absurd (cc)

pub unrefused_at : (now : ℕ) (agent : List ℕ) (stp_of : List ℕ → Option ℕ) (records : List Record) (m : Message) (id : ℕ) → connection_of m.body ≡ Some id →
    refusal now agent stp_of records m ≡ None → IsTakenAt now m records id
unfolding refusal
unrefused_at now agent stp_of records m id c h = by_place (place_of id m.header.requester records) refl
  where
    about_none : about now (connection_of m.body) m.header.requester stp_of records m.body ≡ None
    about_none =
        second_none (refused_if (not (bytes_eq m.header.provider agent)) ErrorName.WrongProvider)
        (about now (connection_of m.body) m.header.requester stp_of records m.body) h

    named_none : named_refusal now (record_for id m.header.requester records) m.body ≡ None
    named_none = sym (ap (λ o. about now o m.header.requester stp_of records m.body) c) ∙ about_none

    by_place : (o : Option ℕ) → place_of id m.header.requester records ≡ o → IsTakenAt now m records id
    by_place None e =
        absurd
        (let clash : Some ErrorName.Nonexistent ≡ None = sym (ap (λ p. named_refusal now (option_and_then (λ n. slice_get records n) p) m.body) e) ∙ named_none in cc)
    by_place (Some n) e =
        let found = position-Some (λ r. eqb id r.id && bytes_eq m.header.requester r.owner) records n nobody e in
        let row : Record = get_or records n nobody in
        let parts = both_parts (eqb id row.id) (bytes_eq m.header.requester row.owner) found.1 in
        let there : slice_get records n ≡ Some row = slice_get-get_or records n nobody found.0 in
        record {
          place = n;
          own = row;
          found = e;
          there = there;
          named = sym (eqb-true id row.id parts.0);
          owner = sym ((bytes_eq-Decides m.header.requester row.owner).0 parts.1);
          unrefused = sym (ap (λ p. named_refusal now (option_and_then (λ n. slice_get records n) p) m.body) e ∙ ap (λ x. named_refusal now x m.body) there) ∙ named_none;
        }

-- Which requests are refused, and why: the first that applies.
use Rattle.std.specs.Prelude.{ℕ, Bool, true, false, not, List, Option, Some, None, ◌==◌, ◌&&◌, nat_le, is_some, is_none, bytes_eq, option_and_then, slice_get, position}
use Rattle.nsi_base.specs.Range.{span_of}
use Rattle.nsi_primitive.specs.Messages.{connection_of, start_at}
use Rattle.nsi_primitive.specs.declared.kind.Directionality.{Directionality}
use Rattle.nsi_primitive.specs.declared.kind.ErrorName.{ErrorName}
use Rattle.nsi_primitive.specs.declared.state.Lsm.{Lsm}
use Rattle.nsi_primitive.specs.declared.state.Side.{Side}
use Rattle.nsi_primitive.specs.declared.message.Body.{Body}
use Rattle.nsi_primitive.specs.declared.message.Criteria.{Criteria}
use Rattle.nsi_primitive.specs.declared.message.Message.{Message}
use Rattle.nsi_primitive.specs.declared.message.ReserveRequest.{ReserveRequest}
use Rattle.reserve_machine.specs.declared.table.RsmEvent.{RsmEvent}
use Rattle.reserve_machine.specs.Table.{step}
use Rattle.provision_machine.specs.declared.table.PsmEvent.{PsmEvent}
use Rattle.provision_machine.specs.Table.{step as provision_step}
use Rattle.lifecycle_machine.specs.declared.table.LsmEvent.{LsmEvent}
use Rattle.lifecycle_machine.specs.Table.{step as lifecycle_step}
use Rattle.connection_record.specs.declared.record.Record.{Record}
use Rattle.connection_record.specs.Demand.{last}
use Rattle.connection_record.specs.Moves.{is_live}

abbrev pub refused_if : Bool → ErrorName → Option ErrorName
refused_if true error = Some error
refused_if false error = None

-- the first of the two that applies
abbrev pub or_else : Option ErrorName → Option ErrorName → Option ErrorName
or_else None second = second
or_else (Some first) second = Some first

-- the place of the record with an id, of an owner: an agent answers for a connection only to the one that reserved it
abbrev pub place_of : ℕ → List ℕ → List Record → Option ℕ
place_of id owner records = position (λ r. (id == r.id) && bytes_eq owner r.owner) records

abbrev pub is_created : Lsm → Bool
is_created Lsm.Created = true
is_created _ = false

-- whether the machine's table has a row for a request; both sides have rows for a provision and a release in the same states
unfoldable pub has_row : Body → Record → Bool
has_row (Body.Reserve _) r = is_some (step r.rsm RsmEvent.Reserve)
has_row (Body.ReserveCommit _) r = is_some (step r.rsm RsmEvent.Commit)
has_row (Body.ReserveAbort _) r = is_some (step r.rsm RsmEvent.Abort)
has_row (Body.Provision _) r = is_some (provision_step Side.Provider r.psm PsmEvent.Provision)
has_row (Body.Release _) r = is_some (provision_step Side.Provider r.psm PsmEvent.Release)
has_row (Body.Terminate _) r = is_some (lifecycle_step r.lsm LsmEvent.Terminate)
has_row _ r = true

-- whether a request fits the life of the connection: reserve, commit and provision belong to a created one, a mixed one isn't reserved again, and what is provisioned was committed
unfoldable pub is_in_place : Body → Record → Bool
is_in_place (Body.Reserve _) r = is_created r.lsm && not r.mixed
is_in_place (Body.ReserveCommit _) r = is_created r.lsm
is_in_place (Body.Provision _) r = is_created r.lsm && is_some (last r.committed)
is_in_place _ r = true

-- whether a key that may be absent says the same as what is there
abbrev pub agrees : Option (List ℕ) → List ℕ → Bool
agrees None name = true
agrees (Some given) name = bytes_eq given name

abbrev pub is_same_direction : Directionality → Directionality → Bool
is_same_direction Directionality.Bidirectional Directionality.Bidirectional = true
is_same_direction Directionality.Unidirectional Directionality.Unidirectional = true
is_same_direction _ _ = false

abbrev pub direction_agrees : Option Directionality → Directionality → Bool
direction_agrees None kept = true
direction_agrees (Some given) kept = is_same_direction given kept

-- whether a modification keeps the points and the direction
abbrev pub keeps_service : ReserveRequest → Record → Bool
keeps_service q r = agrees q.source r.service.source && (agrees q.dest r.service.dest && direction_agrees q.directionality r.service.directionality)

-- a version that isn't larger than the last committed, or that can't be raised
abbrev pub version_refusal : Option ℕ → Option Criteria → Option ErrorName
version_refusal (Some given) (Some c) = refused_if (nat_le given c.version) ErrorName.VersionLow
version_refusal None (Some c) = refused_if (nat_le 2147483647 c.version) ErrorName.Version
version_refusal given None = None

-- a schedule without a second, where the reserve comes at that second
abbrev pub schedule_refusal : (now : ℕ) → ReserveRequest → Option ErrorName
schedule_refusal now q = refused_if (is_none (span_of (start_at now q) q.end)) ErrorName.Schedule

abbrev pub both : Option ℕ → Option ℕ → Option (ℕ × ℕ)
both None dest = None
both (Some source) None = None
both (Some source) (Some dest) = Some (source, dest)

-- the two points that a first reserve names, where both are known
abbrev pub points_of : (List ℕ → Option ℕ) → ReserveRequest → Option (ℕ × ℕ)
points_of stp_of q = both (option_and_then stp_of q.source) (option_and_then stp_of q.dest)

-- a first reserve, which names no connection
abbrev pub first_refusal : (now : ℕ) → (List ℕ → Option ℕ) → ReserveRequest → Option ErrorName
first_refusal now stp_of q = or_else (schedule_refusal now q) (refused_if (is_none (points_of stp_of q)) ErrorName.UnknownStp)

-- a request without a connection
unfoldable pub unnamed_refusal : (now : ℕ) → Body → (List ℕ → Option ℕ) → Option ErrorName
unnamed_refusal now (Body.Reserve q) stp_of = first_refusal now stp_of q
unnamed_refusal now _ stp_of = None

-- a modification, after all that is asked of every request
unfoldable pub modification_refusal : (now : ℕ) → Body → Record → Option ErrorName
modification_refusal now (Body.Reserve q) r =
    or_else (refused_if (not (keeps_service q r)) ErrorName.Payload) (or_else (schedule_refusal now q) (version_refusal q.version (last r.committed)))
modification_refusal now _ r = None

-- a request about a record
abbrev pub record_refusal : (now : ℕ) → Body → Record → Option ErrorName
record_refusal now body r =
    or_else (refused_if (not (is_live r.lsm)) ErrorName.Gone)
    (or_else (refused_if (not (is_in_place body r && has_row body r)) ErrorName.InvalidTransition) (modification_refusal now body r))

-- the record has to be there, and the owner's
abbrev pub named_refusal : (now : ℕ) → Option Record → Body → Option ErrorName
named_refusal now None body = Some ErrorName.Nonexistent
named_refusal now (Some r) body = record_refusal now body r

abbrev pub record_for : ℕ → List ℕ → List Record → Option Record
record_for id owner records = option_and_then (λ n. slice_get records n) (place_of id owner records)

abbrev pub about : (now : ℕ) → Option ℕ → List ℕ → (List ℕ → Option ℕ) → List Record → Body → Option ErrorName
about now None owner stp_of records body = unnamed_refusal now body stp_of
about now (Some id) owner stp_of records body = named_refusal now (record_for id owner records) body

-- why an agent refuses a request that comes at a second, or that it doesn't
unfoldable pub refusal : (now : ℕ) → List ℕ → (List ℕ → Option ℕ) → List Record → Message → Option ErrorName
refusal now agent stp_of records m =
    or_else (refused_if (not (bytes_eq m.header.provider agent)) ErrorName.WrongProvider)
    (about now (connection_of m.body) m.header.requester stp_of records m.body)

-- The laws of a record.
use Rattle.std.specs.Prelude.{ℕ, ◌≡◌, ◌≤◌, ◌+◌, false, List, [], Option, Some, None, ◌⊎◌}
use Rattle.nsi_primitive.specs.Messages.{connection_of}
use Rattle.nsi_primitive.specs.declared.plane.Plane.{Plane}
use Rattle.nsi_primitive.specs.declared.state.Machine.{Machine}
use Rattle.nsi_primitive.specs.declared.state.Side.{Side}
use Rattle.nsi_primitive.specs.declared.message.Body.{Body}
use Rattle.nsi_primitive.specs.declared.message.Cause.{Cause}
use Rattle.nsi_primitive.specs.declared.message.Message.{Message}
use Rattle.nsi_primitive.specs.declared.message.ReserveRequest.{ReserveRequest}
use Rattle.nsi_primitive.specs.declared.message.Service.{Service}
use Rattle.reserve_machine.specs.Table.{step as reserve_step}
use Rattle.provision_machine.specs.Table.{step as provision_step}
use Rattle.lifecycle_machine.specs.Table.{step as lifecycle_step}
use Rattle.connection_record.specs.declared.record.Record.{Record}
use Rattle.connection_record.specs.declared.life.LifecycleMove.{LifecycleMove}
use Rattle.connection_record.specs.declared.moves.Origin.{Origin}
use Rattle.connection_record.specs.declared.moves.Reply.{Reply}
use Rattle.connection_record.specs.declared.moves.ReservationMove.{ReservationMove}
use Rattle.connection_record.specs.declared.provisioning.ProvisionMove.{ProvisionMove}
use Rattle.connection_record.specs.declared.apply.Move.{Move}
use Rattle.connection_record.specs.Courses.{answering, is_reservation_request, IsBeside, IsAct, Course, IsAfter}
use Rattle.connection_record.specs.Lives.{provision_event, provisions, lifecycle_event, lives}
use Rattle.connection_record.specs.Moves.{event_of, reserves, fresh, asked_criteria}
use Rattle.connection_record.specs.Order.{IsInOrder, HasPoints}
use Rattle.connection_record.specs.Refusal.{refusal, record_refusal, modification_refusal, first_refusal}
use Rattle.connection_record.specs.Replies.{Moved}
use Rattle.connection_record.specs.Speaking.{owed, begun_of, drawn_of, no_ids, drawn_if, Speaks, Names}
use Rattle.connection_record.specs.Ids.{is_id}
use Rattle.connection_record.specs.Tabled.{FollowsRow}
use Rattle.connection_record.specs.Applied.{moves, moves_if, requested, work_of, closes, ticked, is_told, tells}
use Rattle.connection_record.specs.Unrefused.{IsFitFor, IsTakenAt}

---- Order

abbrev pub FreshIsInOrder : Type 0
FreshIsInOrder = (id : ℕ) (owner : List ℕ) (service : Service) (source dest : ℕ) → IsInOrder (fresh id owner service source dest)

abbrev pub MovesKeepOrder : Type 0
MovesKeepOrder = (side : Side) (move : Move) (before : Plane) (c now : ℕ) (r : Record) → IsInOrder r → IsInOrder (tells before c now (moves side move now r)).rec

abbrev pub TicksKeepOrder : Type 0
TicksKeepOrder = (origin : Origin) (before : Plane) (c now : ℕ) (r : Record) → IsInOrder r → IsInOrder (tells before c now (ticked origin now r)).rec

-- what a record in order may still answer is under a correlation that it has
abbrev pub OwedIsKept : Type 0
OwedIsKept = (c n : ℕ) (r : Record) → IsInOrder r → 1 ≤ owed c n r →
    (r.reserve_request ≡ Some c) ⊎ (r.attempt ≡ Some c) ⊎ (r.provision_request ≡ Some c) ⊎ (r.lifecycle_request ≡ Some c)

---- Points

abbrev pub MovesKeepPoints : Type 0
MovesKeepPoints =
    (stp_of : List ℕ → Option ℕ) (side : Side) (move : Move) (before : Plane) (c now : ℕ) (r : Record) → HasPoints stp_of r →
    HasPoints stp_of (tells before c now (moves side move now r)).rec

abbrev pub TicksKeepPoints : Type 0
TicksKeepPoints =
    (stp_of : List ℕ → Option ℕ) (origin : Origin) (before : Plane) (c now : ℕ) (r : Record) → HasPoints stp_of r →
    HasPoints stp_of (tells before c now (ticked origin now r)).rec

---- What a record says

abbrev pub MovesSpeak : Type 0
MovesSpeak = (side : Side) (move : Move) (now : ℕ) (r : Record) → Speaks (begun_of move) (drawn_of move) r (moves side move now r)

-- a request begins nothing but itself
abbrev pub RequestsSpeak : Type 0
RequestsSpeak = (side : Side) (body : Body) (c now : ℕ) (r : Record) → Speaks (Some c) no_ids r (moves_if side (requested now body c r) now r)

abbrev pub WorksSpeak : Type 0
WorksSpeak =
    (side : Side) (machine : Machine) (lack : Option Cause) (agent : List ℕ) (deadline now : ℕ) (r : Record) →
    Speaks None no_ids r (moves_if side (work_of machine r lack agent deadline) now r)

abbrev pub TicksSpeak : Type 0
TicksSpeak = (origin : Origin) (now : ℕ) (r : Record) → Speaks None no_ids r (ticked origin now r)

-- a change of the data plane is told under the id that is drawn for it
abbrev pub TellingSpeaks : Type 0
TellingSpeaks =
    (before : Plane) (begun : Option ℕ) (drawn : ℕ → ℕ) (c now : ℕ) (r : Record) (x : Moved) → Speaks begun drawn r x →
    Speaks begun (λ d. drawn d + drawn_if (is_told before now x.rec) c d) r (tells before c now x)

abbrev pub MovesName : Type 0
MovesName = (side : Side) (move : Move) (now : ℕ) (r : Record) → Names r (moves side move now r)

abbrev pub TicksName : Type 0
TicksName = (origin : Origin) (now : ℕ) (r : Record) → Names r (ticked origin now r)

abbrev pub TellingNames : Type 0
TellingNames = (before : Plane) (c now : ℕ) (r : Record) (x : Moved) → Names r x → Names r (tells before c now x)

---- What an agent does by itself

abbrev pub WorksAct : Type 0
WorksAct =
    (side : Side) (machine : Machine) (lack : Option Cause) (agent : List ℕ) (deadline now : ℕ) (r : Record) →
    IsAct r (moves_if side (work_of machine r lack agent deadline) now r)

abbrev pub ForcesAct : Type 0
ForcesAct = (side : Side) (c : ℕ) (origin : Origin) (now : ℕ) (r : Record) → IsAct r (moves side (Move.Lifecycle (LifecycleMove.Force c origin)) now r)

abbrev pub ClosesAct : Type 0
ClosesAct = (agent : List ℕ) (side : Side) (now : ℕ) (r : Record) → IsAct r (closes agent side now r)

abbrev pub TicksAct : Type 0
TicksAct = (origin : Origin) (now : ℕ) (r : Record) → IsAct r (ticked origin now r)

abbrev pub TellingActs : Type 0
TellingActs = (before : Plane) (c now : ℕ) (r : Record) (x : Moved) → IsAct r x → IsAct r (tells before c now x)

-- a request to another machine leaves the reservation alone
abbrev pub RequestsLeave : Type 0
RequestsLeave =
    (side : Side) (body : Body) (c now : ℕ) (r : Record) → is_reservation_request body ≡ false → IsBeside c r (moves_if side (requested now body c r) now r)

-- what owes nothing under a correlation, and begins nothing there, answers nothing under it
abbrev pub OwingIsSaying : Type 0
OwingIsSaying =
    (begun : Option ℕ) (drawn : ℕ → ℕ) (r : Record) (x : Moved) (c : ℕ) → Speaks begun drawn r x → is_id begun c ≡ false → ((n : ℕ) → owed c n r ≡ 0) →
    answering c x.out ≡ []

abbrev pub CoursesKeep : Type 0
CoursesKeep = (r q : Record) (out : List Reply) → Course r q out → IsAfter r q out

---- Refusals

abbrev pub UnrefusedFits : Type 0
UnrefusedFits = (now : ℕ) (body : Body) (r : Record) → record_refusal now body r ≡ None → IsFitFor now body r

-- a reserve that isn't refused asks for criteria
abbrev pub ModificationAsks : Type 0
ModificationAsks = (now : ℕ) (q : ReserveRequest) (r : Record) → modification_refusal now (Body.Reserve q) r ≡ None → asked_criteria now q r.committed ≡ None → ⊥

abbrev pub FirstAsks : Type 0
FirstAsks = (now : ℕ) (stp_of : List ℕ → Option ℕ) (q : ReserveRequest) → first_refusal now stp_of q ≡ None → asked_criteria now q [] ≡ None → ⊥

abbrev pub UnrefusedNamesAgent : Type 0
UnrefusedNamesAgent =
    (now : ℕ) (agent : List ℕ) (stp_of : List ℕ → Option ℕ) (records : List Record) (m : Message) → refusal now agent stp_of records m ≡ None → m.header.provider ≡ agent

abbrev pub UnrefusedIsTaken : Type 0
UnrefusedIsTaken =
    (now : ℕ) (agent : List ℕ) (stp_of : List ℕ → Option ℕ) (records : List Record) (m : Message) (id : ℕ) → connection_of m.body ≡ Some id →
    refusal now agent stp_of records m ≡ None → IsTakenAt now m records id

---- The written tables

abbrev pub ReservesByTable : Type 0
ReservesByTable =
    (move : ReservationMove) (now : ℕ) (r : Record) → IsInOrder r →
    FollowsRow (reserve_step r.rsm (event_of move)) r.rsm (reserves r.rsm move now r).rec.rsm r (reserves r.rsm move now r)

abbrev pub ProvisionsByTable : Type 0
ProvisionsByTable =
    (side : Side) (move : ProvisionMove) (now : ℕ) (r : Record) →
    FollowsRow (provision_step side r.psm (provision_event move)) r.psm (provisions side r.psm move now r).rec.psm r (provisions side r.psm move now r)

abbrev pub LivesByTable : Type 0
LivesByTable =
    (move : LifecycleMove) (now : ℕ) (r : Record) →
    FollowsRow (lifecycle_step r.lsm (lifecycle_event move)) r.lsm (lives r.lsm move now r).rec.lsm r (lives r.lsm move now r)

-- What is done to a record at once: a move of one of its machines, its end, or what a tick brings; and the change of its data plane, which is told then.
use Rattle.std.specs.Prelude.{ℕ, ◌+◌, Bool, true, false, ◌&&◌, List, [], ◌∷◌, length, Option, Some, None, option_map, is_some, if◌then◌else◌}
use Rattle.nsi_primitive.specs.declared.kind.ErrorName.{ErrorName}
use Rattle.nsi_primitive.specs.declared.kind.Kind.{Kind}
use Rattle.nsi_primitive.specs.declared.plane.Plane.{Plane}
use Rattle.nsi_primitive.specs.declared.state.Machine.{Machine}
use Rattle.nsi_primitive.specs.declared.state.Rsm.{Rsm}
use Rattle.nsi_primitive.specs.declared.state.Psm.{Psm}
use Rattle.nsi_primitive.specs.declared.state.Lsm.{Lsm}
use Rattle.nsi_primitive.specs.declared.state.Side.{Side}
use Rattle.nsi_primitive.specs.declared.message.Body.{Body}
use Rattle.nsi_primitive.specs.declared.message.Cause.{Cause}
use Rattle.nsi_primitive.specs.declared.message.Criteria.{Criteria}
use Rattle.nsi_primitive.specs.declared.message.Exception.{Exception}
use Rattle.dataplane_state.specs.Plane.{status, announces}
use Rattle.connection_record.specs.declared.record.Record.{Record}
use Rattle.connection_record.specs.declared.moves.Origin.{Origin}
use Rattle.connection_record.specs.declared.moves.ReservationMove.{ReservationMove}
use Rattle.connection_record.specs.declared.provisioning.ProvisionMove.{ProvisionMove}
use Rattle.connection_record.specs.declared.life.LifecycleMove.{LifecycleMove}
use Rattle.connection_record.specs.declared.apply.Move.{Move}
use Rattle.connection_record.specs.Replies.{Moved, stays, reply, noted, plain, then_moves}
use Rattle.connection_record.specs.Demand.{last}
use Rattle.connection_record.specs.Moves.{reserves, reserves_if, asked_criteria, hold_end, is_due, is_live, is_working, worked}
use Rattle.connection_record.specs.Lives.{provisions, provisions_if, lives, lives_if}

---- The end of a connection

-- what answers an open request of the reservation machine when the connection ends
unfoldable pub reservation_closing : Rsm → Exception → Option ReservationMove
reservation_closing Rsm.ReserveChecking gone = Some (ReservationMove.Lack gone)
reservation_closing Rsm.ReserveCommitting gone = Some (ReservationMove.Spoiled gone false)
reservation_closing Rsm.ReserveAborting gone = Some ReservationMove.Freed
reservation_closing _ gone = None

-- what answers an open request of the provision machine then
unfoldable pub provision_closing : Psm → Exception → Option ProvisionMove
provision_closing Psm.Provisioning gone = Some (ProvisionMove.Spoiled gone)
provision_closing Psm.Releasing gone = Some (ProvisionMove.Spoiled gone)
provision_closing _ gone = None

abbrev pub closes_reservation : List ℕ → ℕ → Record → Moved
closes_reservation agent now r = reserves_if (reservation_closing r.rsm (plain agent ErrorName.Gone)) now r

abbrev pub closes_provision : List ℕ → Side → ℕ → Record → Moved
closes_provision agent side now r = provisions_if side (provision_closing r.psm (plain agent ErrorName.Gone)) now r

-- open requests are answered, and then the terminate is
unfoldable pub closes : List ℕ → Side → ℕ → Record → Moved
closes agent side now r =
    then_moves (then_moves (closes_reservation agent now r) (λ x. closes_provision agent side now x)) (λ x. lives x.lsm LifecycleMove.Done now x)

---- One move

-- a row of one of the three tables, or the end of the connection
unfoldable pub moves : Side → Move → ℕ → Record → Moved
moves side (Move.Reservation m) now r = reserves r.rsm m now r
moves side (Move.Provision m) now r = provisions side r.psm m now r
moves side (Move.Lifecycle m) now r = lives r.lsm m now r
moves side (Move.Close agent) now r = closes agent side now r

abbrev pub moves_if : Side → Option Move → ℕ → Record → Moved
moves_if side None now r = stays r
moves_if side (Some move) now r = moves side move now r

---- Requests

abbrev pub reserve_move : ℕ → Option Criteria → Option Move
reserve_move c None = None
reserve_move c (Some criteria) = Some (Move.Reservation (ReservationMove.Reserve c criteria))

-- the move that a request is, where it is taken at that second
unfoldable pub requested : (now : ℕ) → Body → ℕ → Record → Option Move
requested now (Body.Reserve q) c r = reserve_move c (asked_criteria now q r.committed)
requested now (Body.ReserveCommit _) c r = Some (Move.Reservation (ReservationMove.Commit c))
requested now (Body.ReserveAbort _) c r = Some (Move.Reservation (ReservationMove.Abort c))
requested now (Body.Provision _) c r = Some (Move.Provision (ProvisionMove.Provision c))
requested now (Body.Release _) c r = Some (Move.Provision (ProvisionMove.Release c))
requested now (Body.Terminate _) c r = Some (Move.Lifecycle (LifecycleMove.Terminate c))
requested now _ c r = None

---- Waiting work

-- whether the provision machine has work to do
unfoldable pub is_provisioning : Psm → Bool
is_provisioning Psm.Provisioning = true
is_provisioning Psm.Releasing = true
is_provisioning _ = false

unfoldable pub is_terminating : Lsm → Bool
is_terminating Lsm.Terminating = true
is_terminating _ = false

-- whether a machine of a record has work to do: a connection that ends has only that of its end, and an ended one has none
unfoldable pub waits : Machine → Record → Bool
waits Machine.Reserve r = is_live r.lsm && is_working r.rsm
waits Machine.Provision r = is_live r.lsm && is_provisioning r.psm
waits Machine.Lifecycle r = is_terminating r.lsm

abbrev pub first_of : (reserve provision lifecycle : Bool) → Option Machine
first_of reserve provision lifecycle =
    if reserve then Some Machine.Reserve else if provision then Some Machine.Provision else if lifecycle then Some Machine.Lifecycle else None

-- the first machine that has work to do
unfoldable pub first_machine : Record → Option Machine
first_machine r = first_of (waits Machine.Reserve r) (waits Machine.Provision r) (waits Machine.Lifecycle r)

abbrev pub has_work : Record → Bool
has_work r = is_some (first_machine r)

-- the move that a provider's work on the provision machine makes
unfoldable pub provided : Psm → Option ProvisionMove
provided Psm.Provisioning = Some ProvisionMove.Done
provided Psm.Releasing = Some ProvisionMove.Done
provided _ = None

-- the move that a provider's work on a machine makes
unfoldable pub work_of : Machine → Record → Option Cause → List ℕ → ℕ → Option Move
work_of Machine.Reserve r lack agent deadline = option_map Move.Reservation (worked r.rsm lack agent deadline)
work_of Machine.Provision r lack agent deadline = option_map Move.Provision (provided r.psm)
work_of Machine.Lifecycle r lack agent deadline = Some (Move.Close agent)

---- Time

abbrev pub end_of : Option Criteria → Option ℕ
end_of None = None
end_of (Some c) = Some c.interval.end

-- a committed schedule that has ended by now
abbrev pub schedule_end : Option Criteria → ℕ → Option LifecycleMove
schedule_end c now = if is_due (end_of c) now then Some LifecycleMove.EndTime else None

-- a tick at a record: a hold that is over ends, and then a connection whose schedule is over
unfoldable pub ticks : (is_live : Bool) → Origin → ℕ → Record → Moved
ticks true origin now r = then_moves (reserves_if (hold_end r.rsm r.deadline now origin) now r) (λ x. lives_if (schedule_end (last x.committed) now) now x)
ticks false origin now r = stays r

abbrev pub ticked : Origin → ℕ → Record → Moved
ticked origin now r = ticks (is_live r.lsm) origin now r

---- The data plane

-- the status of the record's data plane at a second
abbrev pub status_of : ℕ → Record → Plane
status_of now r = status r.psm r.lsm (last r.committed) now

-- whether it is told that the data plane was so before
abbrev pub is_told : Plane → ℕ → Record → Bool
is_told before now r = announces before (status_of now r)

-- a change of the data plane, told under a correlation
unfoldable pub tells_plane : Bool → Plane → ℕ → ℕ → Record → Moved
tells_plane true p c now r =
    record {
      rec = record r { notices = noted Kind.DataPlaneStateChange c now r.notices };
      out =
          reply c
          (Body.DataPlaneStateChange
          (record { active = p.active; connection = r.id; notification = length r.notices + 1; time = now; version = p.version; consistent = p.consistent })) ∷ [];
    }
tells_plane false p c now r = stays r

-- a move, and the change that it made of the data plane
unfoldable pub tells : (before : Plane) (c now : ℕ) → Moved → Moved
tells before c now x = then_moves x (λ r. tells_plane (is_told before now r) (status_of now r) c now r)

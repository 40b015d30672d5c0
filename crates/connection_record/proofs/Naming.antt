-- What a record says names its own connection.
use Rattle.std.proofs.Common.{ℕ, ◌≡◌, Bool, true, false, List, Option, Some, None, ◌==◌, refl, ap, ◌∙◌, arith, if◌then◌else◌}
use Rattle.nsi_primitive.specs.Messages.{named_connection}
use Rattle.nsi_primitive.specs.declared.state.Rsm.{Rsm}
use Rattle.nsi_primitive.specs.declared.state.Psm.{Psm}
use Rattle.nsi_primitive.specs.declared.state.Lsm.{Lsm}
use Rattle.nsi_primitive.specs.declared.state.Side.{Side}
use Rattle.nsi_primitive.specs.declared.kind.ErrorName.{ErrorName}
use Rattle.nsi_primitive.specs.declared.message.Criteria.{Criteria}
use Rattle.nsi_primitive.specs.declared.plane.Plane.{Plane}
use Rattle.reserve_machine.specs.Table.{step as reserve_step}
use Rattle.provision_machine.specs.Table.{step as provision_step}
use Rattle.lifecycle_machine.specs.Table.{step as lifecycle_step}
use Rattle.connection_record.specs.declared.record.Record.{Record}
use Rattle.connection_record.specs.declared.moves.Origin.{Origin}
use Rattle.connection_record.specs.declared.moves.ReservationMove.{ReservationMove}
use Rattle.connection_record.specs.declared.provisioning.ProvisionMove.{ProvisionMove}
use Rattle.connection_record.specs.declared.life.LifecycleMove.{LifecycleMove}
use Rattle.connection_record.specs.declared.apply.Move.{Move}
use Rattle.connection_record.specs.Replies.{Moved, stays, then_moves, plain}
use Rattle.connection_record.specs.Demand.{last}
use Rattle.connection_record.specs.Moves.{event_of, reserves, reserves_if, hold_end, is_due}
use Rattle.connection_record.specs.Lives.{provision_event, lifecycle_event, provisions, provisions_if, lives, lives_if}
use Rattle.connection_record.specs.Applied.{closes, closes_reservation, closes_provision, reservation_closing, provision_closing, moves, moves_if, ticks, schedule_end, end_of, tells_plane, tells, is_told, status_of}
use Rattle.connection_record.specs.Speaking.{tally, misnames, Names}
use Rattle.connection_record.proofs.Saying.{tally_append}

pub then_names : (r : Record) (x : Moved) (next : Record → Moved) → Names r x → Names x.rec (next x.rec) → Names r (then_moves x next)
then_names r x next a b =
    record {
      id = b.id ∙ a.id;
      names = omega (arith, tally_append (misnames r.id) x.out (next x.rec).out, a.names, ap (λ z. tally (misnames z) (next x.rec).out) a.id, b.names);
    }

pub stays_names : (r : Record) → Names r (stays r)
unfolding tally
stays_names r = record { id = refl; names = refl }

reserves_id : (k : Rsm) (move : ReservationMove) (now : ℕ) (r : Record) → (reserves k move now r).rec.id ≡ r.id
unfolding reserves reserve_step event_of
reserves_id k move now r = grind arith

same_id : (id : ℕ) → (id == id) ≡ true
same_id id = grind arith

reserves_misnames : (k : Rsm) (move : ReservationMove) (now : ℕ) (r : Record) → tally (misnames r.id) (reserves k move now r).out ≡ 0
unfolding reserves reserve_step event_of tally named_connection
reserves_misnames k move now r = let e = same_id r.id in grind (arith, e)

pub reserves_names : (move : ReservationMove) (now : ℕ) (r : Record) → Names r (reserves r.rsm move now r)
reserves_names move now r = record { id = reserves_id r.rsm move now r; names = reserves_misnames r.rsm move now r }

provisions_id : (side : Side) (k : Psm) (move : ProvisionMove) (now : ℕ) (r : Record) → (provisions side k move now r).rec.id ≡ r.id
unfolding provisions provision_step provision_event
provisions_id side k move now r = grind arith

provisions_misnames : (side : Side) (k : Psm) (move : ProvisionMove) (now : ℕ) (r : Record) → tally (misnames r.id) (provisions side k move now r).out ≡ 0
unfolding provisions provision_step provision_event tally named_connection
provisions_misnames side k move now r = grind arith

pub provisions_names : (side : Side) (move : ProvisionMove) (now : ℕ) (r : Record) → Names r (provisions side r.psm move now r)
provisions_names side move now r = record { id = provisions_id side r.psm move now r; names = provisions_misnames side r.psm move now r }

lives_id : (k : Lsm) (move : LifecycleMove) (now : ℕ) (r : Record) → (lives k move now r).rec.id ≡ r.id
unfolding lives lifecycle_step lifecycle_event
lives_id k move now r = grind arith

lives_misnames : (k : Lsm) (move : LifecycleMove) (now : ℕ) (r : Record) → tally (misnames r.id) (lives k move now r).out ≡ 0
unfolding lives lifecycle_step lifecycle_event tally named_connection
lives_misnames k move now r = grind arith

pub lives_names : (move : LifecycleMove) (now : ℕ) (r : Record) → Names r (lives r.lsm move now r)
lives_names move now r = record { id = lives_id r.lsm move now r; names = lives_misnames r.lsm move now r }

pub reserves_if_names : (o : Option ReservationMove) (now : ℕ) (r : Record) → Names r (reserves_if o now r)
reserves_if_names None now r = stays_names r
reserves_if_names (Some move) now r = reserves_names move now r

pub provisions_if_names : (side : Side) (o : Option ProvisionMove) (now : ℕ) (r : Record) → Names r (provisions_if side o now r)
provisions_if_names side None now r = stays_names r
provisions_if_names side (Some move) now r = provisions_names side move now r

pub closes_names : (agent : List ℕ) (side : Side) (now : ℕ) (r : Record) → Names r (closes agent side now r)
unfolding closes
closes_names agent side now r =
    let x : Moved = closes_reservation agent now r in
    let y : Moved = then_moves x (λ z. closes_provision agent side now z) in
    then_names r y (λ z. lives z.lsm LifecycleMove.Done now z)
    (then_names r x (λ z. closes_provision agent side now z)
    (reserves_if_names (reservation_closing r.rsm (plain agent ErrorName.Gone)) now r)
    (provisions_if_names side (provision_closing x.rec.psm (plain agent ErrorName.Gone)) now x.rec))
    (lives_names LifecycleMove.Done now y.rec)

pub moves_names : (side : Side) (move : Move) (now : ℕ) (r : Record) → Names r (moves side move now r)
unfolding moves
moves_names side (Move.Reservation m) now r = reserves_names m now r
moves_names side (Move.Provision m) now r = provisions_names side m now r
moves_names side (Move.Lifecycle m) now r = lives_names m now r
moves_names side (Move.Close agent) now r = closes_names agent side now r

pub moves_if_names : (side : Side) (o : Option Move) (now : ℕ) (r : Record) → Names r (moves_if side o now r)
moves_if_names side None now r = stays_names r
moves_if_names side (Some move) now r = moves_names side move now r

lives_end_names : (c : Option Criteria) (now : ℕ) (r : Record) → Names r (lives_if (schedule_end c now) now r)
lives_end_names c now r = end_if (is_due (end_of c) now)
  where
    end_if : (due : Bool) → Names r (lives_if (if due then Some LifecycleMove.EndTime else None) now r)
    end_if true = lives_names LifecycleMove.EndTime now r
    end_if false = stays_names r

pub ticks_names : (live : Bool) (origin : Origin) (now : ℕ) (r : Record) → Names r (ticks live origin now r)
unfolding ticks
ticks_names false origin now r = stays_names r
ticks_names true origin now r =
    then_names r (reserves_if (hold_end r.rsm r.deadline now origin) now r) (λ x. lives_if (schedule_end (last x.committed) now) now x)
    (reserves_if_names (hold_end r.rsm r.deadline now origin) now r)
    (lives_end_names _ now _)

plane_id : (told : Bool) (p : Plane) (c now : ℕ) (r : Record) → (tells_plane told p c now r).rec.id ≡ r.id
unfolding tells_plane
plane_id told p c now r = grind arith

plane_misnames : (told : Bool) (p : Plane) (c now : ℕ) (r : Record) → tally (misnames r.id) (tells_plane told p c now r).out ≡ 0
unfolding tells_plane tally named_connection
plane_misnames told p c now r = let e = same_id r.id in grind (arith, e)

pub plane_names : (told : Bool) (p : Plane) (c now : ℕ) (r : Record) → Names r (tells_plane told p c now r)
plane_names told p c now r = record { id = plane_id told p c now r; names = plane_misnames told p c now r }

pub tells_names : (before : Plane) (c now : ℕ) (r : Record) (x : Moved) → Names r x → Names r (tells before c now x)
unfolding tells
tells_names before c now r x h =
    then_names r x (λ y. tells_plane (is_told before now y) (status_of now y) c now y) h (plane_names (is_told before now x.rec) (status_of now x.rec) c now x.rec)

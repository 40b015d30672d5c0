-- What leaves the reservation machine alone.
use Rattle.std.proofs.Common.{ℕ, Bool, arith}
use Rattle.nsi_primitive.specs.declared.plane.Plane.{Plane}
use Rattle.nsi_primitive.specs.declared.state.Lsm.{Lsm}
use Rattle.nsi_primitive.specs.declared.state.Psm.{Psm}
use Rattle.nsi_primitive.specs.declared.state.Side.{Side}
use Rattle.provision_machine.specs.Table.{step as provision_step}
use Rattle.lifecycle_machine.specs.Table.{step as lifecycle_step}
use Rattle.connection_record.specs.declared.record.Record.{Record}
use Rattle.connection_record.specs.declared.life.LifecycleMove.{LifecycleMove}
use Rattle.connection_record.specs.declared.provisioning.ProvisionMove.{ProvisionMove}
use Rattle.connection_record.specs.Courses.{IsReservationSame}
use Rattle.connection_record.specs.Lives.{provision_event, lifecycle_event, provisions, lives}
use Rattle.connection_record.specs.Applied.{tells_plane}

pub provisions_core : (side : Side) (k : Psm) (move : ProvisionMove) (now : ℕ) (r : Record) → IsReservationSame r (provisions side k move now r).rec
unfolding provisions provision_step provision_event
provisions_core side k move now r = grind arith

pub lives_core : (k : Lsm) (move : LifecycleMove) (now : ℕ) (r : Record) → IsReservationSame r (lives k move now r).rec
unfolding lives lifecycle_step lifecycle_event
lives_core k move now r = grind arith

pub plane_core : (told : Bool) (p : Plane) (c now : ℕ) (r : Record) → IsReservationSame r (tells_plane told p c now r).rec
unfolding tells_plane
plane_core told p c now r = grind arith

-- Whatever is done to a record, it is a later form of itself: its id, its owner and its service stay, and so does what it had committed.
use Rattle.std.proofs.Common.{ℕ, Bool, true, false, List, Option, Some, None, refl}
use Rattle.std.proofs.Math.Seq.{take-append_seam, take-length}
use Rattle.nsi_primitive.specs.declared.kind.ErrorName.{ErrorName}
use Rattle.nsi_primitive.specs.declared.plane.Plane.{Plane}
use Rattle.nsi_primitive.specs.declared.state.Side.{Side}
use Rattle.connection_record.specs.declared.record.Record.{Record}
use Rattle.connection_record.specs.declared.life.LifecycleMove.{LifecycleMove}
use Rattle.connection_record.specs.declared.moves.Origin.{Origin}
use Rattle.connection_record.specs.declared.moves.ReservationMove.{ReservationMove}
use Rattle.connection_record.specs.declared.provisioning.ProvisionMove.{ProvisionMove}
use Rattle.connection_record.specs.declared.apply.Move.{Move}
use Rattle.connection_record.specs.Demand.{last}
use Rattle.connection_record.specs.Later.{IsLater}
use Rattle.connection_record.specs.Lives.{provisions_if, lives, lives_if}
use Rattle.connection_record.specs.Moves.{reserves_if, hold_end, is_live}
use Rattle.connection_record.specs.Replies.{Moved, plain}
use Rattle.connection_record.specs.Applied.{closes_reservation, closes_provision, reservation_closing, provision_closing, closes, moves, moves_if, schedule_end, ticks, ticked, status_of, is_told, tells_plane, tells}
use Rattle.connection_record.proofs.Growing.{later_refl, later_trans, reserves_later, provisions_later, lives_later}

pub reserves_if_later : (o : Option ReservationMove) (now : ℕ) (r : Record) → IsLater r (reserves_if o now r).rec
reserves_if_later None now r = later_refl r
reserves_if_later (Some move) now r = reserves_later r.rsm move now r

provisions_if_later : (side : Side) (o : Option ProvisionMove) (now : ℕ) (r : Record) → IsLater r (provisions_if side o now r).rec
provisions_if_later side None now r = later_refl r
provisions_if_later side (Some move) now r = provisions_later side r.psm move now r

pub lives_if_later : (o : Option LifecycleMove) (now : ℕ) (r : Record) → IsLater r (lives_if o now r).rec
lives_if_later None now r = later_refl r
lives_if_later (Some move) now r = lives_later r.lsm move now r

closes_later : (agent : List ℕ) (side : Side) (now : ℕ) (r : Record) → IsLater r (closes agent side now r).rec
unfolding closes
closes_later agent side now r =
    let a : Moved = closes_reservation agent now r in
    let b : Moved = closes_provision agent side now a.rec in
    later_trans r b.rec (lives b.rec.lsm LifecycleMove.Done now b.rec).rec
    (later_trans r a.rec b.rec (reserves_if_later (reservation_closing r.rsm (plain agent ErrorName.Gone)) now r) (provisions_if_later side (provision_closing a.rec.psm (plain agent ErrorName.Gone)) now a.rec))
    (lives_later b.rec.lsm LifecycleMove.Done now b.rec)

pub moves_later : (side : Side) (move : Move) (now : ℕ) (r : Record) → IsLater r (moves side move now r).rec
unfolding moves
moves_later side (Move.Reservation m) now r = reserves_later r.rsm m now r
moves_later side (Move.Provision m) now r = provisions_later side r.psm m now r
moves_later side (Move.Lifecycle m) now r = lives_later r.lsm m now r
moves_later side (Move.Close agent) now r = closes_later agent side now r

pub moves_if_later : (side : Side) (o : Option Move) (now : ℕ) (r : Record) → IsLater r (moves_if side o now r).rec
moves_if_later side None now r = later_refl r
moves_if_later side (Some move) now r = moves_later side move now r

pub ticked_later : (origin : Origin) (now : ℕ) (r : Record) → IsLater r (ticked origin now r).rec
unfolding ticks
ticked_later origin now r = by_life (is_live r.lsm)
  where
    ended : Record
    ended = (reserves_if (hold_end r.rsm r.deadline now origin) now r).rec

    by_life : (b : Bool) → IsLater r (ticks b origin now r).rec
    by_life false = later_refl r
    by_life true = later_trans r ended (lives_if (schedule_end (last ended.committed) now) now ended).rec (reserves_if_later (hold_end r.rsm r.deadline now origin) now r) (lives_if_later (schedule_end (last ended.committed) now) now ended)

tells_plane_later : (b : Bool) (p : Plane) (c now : ℕ) (r : Record) → IsLater r (tells_plane b p c now r).rec
unfolding tells_plane
tells_plane_later true p c now r = record {
  id = refl;
  owner = refl;
  service = refl;
  source = refl;
  dest = refl;
  committed = take-length r.committed;
  notices = take-append_seam r.notices _;
  results = take-length r.results;
}
tells_plane_later false p c now r = later_refl r

-- and the change of its data plane is told behind it
pub told_later : (p : Plane) (c now : ℕ) (r : Record) (x : Moved) → IsLater r x.rec → IsLater r (tells p c now x).rec
unfolding tells
told_later p c now r x h = later_trans r x.rec (tells_plane (is_told p now x.rec) (status_of now x.rec) c now x.rec).rec h (tells_plane_later (is_told p now x.rec) (status_of now x.rec) c now x.rec)

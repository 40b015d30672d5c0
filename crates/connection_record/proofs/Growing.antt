-- Each move makes a later form of the record.
use Rattle.std.proofs.Common.{ℕ, ◌≡◌, ◌≤◌, ◌∙◌, List, length, take, min, sym, ap, arith, Bool, true, false, Option, Some, None}
use Rattle.std.proofs.Math.Seq.{take-append_seam, take-take}
use Rattle.std.proofs.lemmas.List.{take_all, length-take}
use Rattle.nsi_primitive.specs.declared.kind.ErrorName.{ErrorName}
use Rattle.nsi_primitive.specs.declared.plane.Plane.{Plane}
use Rattle.nsi_primitive.specs.declared.state.Rsm.{Rsm}
use Rattle.nsi_primitive.specs.declared.state.Psm.{Psm}
use Rattle.nsi_primitive.specs.declared.state.Lsm.{Lsm}
use Rattle.nsi_primitive.specs.declared.state.Side.{Side}
use Rattle.reserve_machine.specs.Table.{step as reserve_step}
use Rattle.provision_machine.specs.Table.{step as provision_step}
use Rattle.lifecycle_machine.specs.Table.{step as lifecycle_step}
use Rattle.connection_record.specs.declared.record.Record.{Record}
use Rattle.connection_record.specs.declared.moves.Origin.{Origin}
use Rattle.connection_record.specs.declared.moves.ReservationMove.{ReservationMove}
use Rattle.connection_record.specs.declared.provisioning.ProvisionMove.{ProvisionMove}
use Rattle.connection_record.specs.declared.life.LifecycleMove.{LifecycleMove}
use Rattle.connection_record.specs.declared.apply.Move.{Move}
use Rattle.connection_record.specs.Later.{IsLater}
use Rattle.connection_record.specs.Demand.{last}
use Rattle.connection_record.specs.Replies.{Moved, plain}
use Rattle.connection_record.specs.Moves.{event_of, reserves, reserves_if, hold_end}
use Rattle.connection_record.specs.Lives.{provision_event, lifecycle_event, provisions, provisions_if, lives, lives_if}
use Rattle.connection_record.specs.Applied.{reservation_closing, provision_closing, closes_reservation, closes_provision, closes, moves, moves_if, schedule_end, ticks, is_told, status_of, tells_plane, tells}

take_self : {X : Type 0} (xs : List X) → take (length xs) xs ≡ xs
take_self xs = take_all (length xs) xs (omega arith)

-- a front of a front
front_trans : {X : Type 0} (a b c : List X) → take (length a) b ≡ a → take (length b) c ≡ b → take (length a) c ≡ a
front_trans a b c e f =
    let least : length a ≡ min (length a) (length b) = ap length (sym e) ∙ length-take (length a) b in
    let fewer : length a ≤ length b = omega arith in
    sym (take-take (length a) (length b) c fewer) ∙ ap (λ xs. take (length a) xs) f ∙ e

pub later_refl : (r : Record) → IsLater r r
later_refl r = grind (arith, take_self)

pub later_trans : (a b c : Record) → IsLater a b → IsLater b c → IsLater a c
later_trans a b c e f =
    record {
      id = f.id ∙ e.id;
      owner = f.owner ∙ e.owner;
      service = f.service ∙ e.service;
      source = f.source ∙ e.source;
      dest = f.dest ∙ e.dest;
      committed = front_trans a.committed b.committed c.committed e.committed f.committed;
      notices = front_trans a.notices b.notices c.notices e.notices f.notices;
      results = front_trans a.results b.results c.results e.results f.results;
    }

pub reserves_later : (k : Rsm) (move : ReservationMove) (now : ℕ) (r : Record) → IsLater r (reserves k move now r).rec
unfolding reserves reserve_step event_of
reserves_later k move now r = grind (arith, take-append_seam, take_self)

pub provisions_later : (side : Side) (k : Psm) (move : ProvisionMove) (now : ℕ) (r : Record) → IsLater r (provisions side k move now r).rec
unfolding provisions provision_step provision_event
provisions_later side k move now r = grind (arith, take-append_seam, take_self)

pub lives_later : (k : Lsm) (move : LifecycleMove) (now : ℕ) (r : Record) → IsLater r (lives k move now r).rec
unfolding lives lifecycle_step lifecycle_event
lives_later k move now r = grind (arith, take-append_seam, take_self)

pub reserves_if_later : (move : Option ReservationMove) (now : ℕ) (r : Record) → IsLater r (reserves_if move now r).rec
reserves_if_later None now r = later_refl r
reserves_if_later (Some move) now r = reserves_later r.rsm move now r

pub provisions_if_later : (side : Side) (move : Option ProvisionMove) (now : ℕ) (r : Record) → IsLater r (provisions_if side move now r).rec
provisions_if_later side None now r = later_refl r
provisions_if_later side (Some move) now r = provisions_later side r.psm move now r

pub lives_if_later : (move : Option LifecycleMove) (now : ℕ) (r : Record) → IsLater r (lives_if move now r).rec
lives_if_later None now r = later_refl r
lives_if_later (Some move) now r = lives_later r.lsm move now r

-- the end of a connection is three moves
pub closes_later : (agent : List ℕ) (side : Side) (now : ℕ) (r : Record) → IsLater r (closes agent side now r).rec
unfolding closes
closes_later agent side now r =
    let reserved : Record = (closes_reservation agent now r).rec in
    let released : Record = (closes_provision agent side now reserved).rec in
    later_trans r reserved (lives released.lsm LifecycleMove.Done now released).rec
    (reserves_if_later (reservation_closing r.rsm (plain agent ErrorName.Gone)) now r)
    (later_trans reserved released (lives released.lsm LifecycleMove.Done now released).rec
    (provisions_if_later side (provision_closing reserved.psm (plain agent ErrorName.Gone)) now reserved)
    (lives_later released.lsm LifecycleMove.Done now released))

pub moves_later : (side : Side) (move : Move) (now : ℕ) (r : Record) → IsLater r (moves side move now r).rec
unfolding moves
moves_later side (Move.Reservation move) now r = reserves_later r.rsm move now r
moves_later side (Move.Provision move) now r = provisions_later side r.psm move now r
moves_later side (Move.Lifecycle move) now r = lives_later r.lsm move now r
moves_later side (Move.Close agent) now r = closes_later agent side now r

pub moves_if_later : (side : Side) (o : Option Move) (now : ℕ) (r : Record) → IsLater r (moves_if side o now r).rec
moves_if_later side None now r = later_refl r
moves_if_later side (Some move) now r = moves_later side move now r

pub ticks_later : (live : Bool) (origin : Origin) (now : ℕ) (r : Record) → IsLater r (ticks live origin now r).rec
unfolding ticks
ticks_later false origin now r = later_refl r
ticks_later true origin now r =
    let held : Record = (reserves_if (hold_end r.rsm r.deadline now origin) now r).rec in
    later_trans r held (lives_if (schedule_end (last held.committed) now) now held).rec
    (reserves_if_later (hold_end r.rsm r.deadline now origin) now r)
    (lives_if_later (schedule_end (last held.committed) now) now held)

pub tells_plane_later : (told : Bool) (p : Plane) (c now : ℕ) (r : Record) → IsLater r (tells_plane told p c now r).rec
unfolding tells_plane
tells_plane_later told p c now r = grind (arith, take-append_seam, take_self)

-- to tell a change is a further step of the same record
pub tells_later : (before : Plane) (c now : ℕ) (r : Record) (x : Moved) → IsLater r x.rec → IsLater r (tells before c now x).rec
unfolding tells
tells_later before c now r x later =
    later_trans r x.rec (tells_plane (is_told before now x.rec) (status_of now x.rec) c now x.rec).rec later
    (tells_plane_later (is_told before now x.rec) (status_of now x.rec) c now x.rec)

-- Whatever is done to a record leaves it in order.
use Rattle.std.proofs.Common.{ℕ, ◌≡◌, Bool, true, false, List, Option, Some, None, arith, refl, sym, ap, ◌∙◌}
use Rattle.std.specs.Prelude.{is_some}
use Rattle.nsi_primitive.specs.declared.kind.ErrorName.{ErrorName}
use Rattle.nsi_primitive.specs.declared.plane.Plane.{Plane}
use Rattle.nsi_primitive.specs.declared.state.Lsm.{Lsm}
use Rattle.nsi_primitive.specs.declared.state.Psm.{Psm}
use Rattle.nsi_primitive.specs.declared.state.Rsm.{Rsm}
use Rattle.nsi_primitive.specs.declared.state.Side.{Side}
use Rattle.nsi_primitive.specs.declared.message.Exception.{Exception}
use Rattle.nsi_primitive.specs.declared.message.Service.{Service}
use Rattle.reserve_machine.specs.Table.{step as reserve_step}
use Rattle.provision_machine.specs.Table.{step as provision_step}
use Rattle.lifecycle_machine.specs.Table.{step as lifecycle_step}
use Rattle.connection_record.specs.declared.record.Record.{Record}
use Rattle.connection_record.specs.declared.life.LifecycleMove.{LifecycleMove}
use Rattle.connection_record.specs.declared.moves.Origin.{Origin}
use Rattle.connection_record.specs.declared.moves.ReservationMove.{ReservationMove}
use Rattle.connection_record.specs.declared.provisioning.ProvisionMove.{ProvisionMove}
use Rattle.connection_record.specs.declared.apply.Move.{Move}
use Rattle.connection_record.specs.Courses.{IsReservationSame}
use Rattle.connection_record.specs.Demand.{last}
use Rattle.connection_record.specs.Later.{IsLater}
use Rattle.connection_record.specs.Lives.{provision_event, lifecycle_event, provisions, provisions_if, lives, lives_if}
use Rattle.connection_record.specs.Moves.{event_of, reserves, reserves_if, hold_end, is_working, fresh}
use Rattle.connection_record.specs.Order.{is_pending, IsInOrder, HasPoints}
use Rattle.connection_record.specs.Replies.{Moved, plain}
use Rattle.connection_record.specs.Applied.{closes_reservation, closes_provision, reservation_closing, provision_closing, closes, moves, moves_if, is_provisioning, is_terminating, schedule_end, ticks, is_told, status_of, tells_plane, tells}
use Rattle.connection_record.proofs.Frames.{provisions_core, lives_core}

pub fresh_in_order : (id : ℕ) (owner : List ℕ) (service : Service) (source dest : ℕ) → IsInOrder (fresh id owner service source dest)
unfolding is_working is_provisioning is_terminating is_pending
fresh_in_order id owner service source dest =
    record { reserve_request = refl; provision_request = refl; lifecycle_request = refl; pending = refl; attempt = λ e. absurd (cc) }

---- The reservation machine

reserves_request : (k : Rsm) (move : ReservationMove) (now : ℕ) (r : Record) → r.rsm ≡ k → is_some r.reserve_request ≡ is_working r.rsm →
    is_some (reserves k move now r).rec.reserve_request ≡ is_working (reserves k move now r).rec.rsm
unfolding reserves reserve_step event_of is_working
reserves_request k move now r e h = grind (arith, e, h)

reserves_pending : (k : Rsm) (move : ReservationMove) (now : ℕ) (r : Record) → r.rsm ≡ k → is_some r.pending ≡ is_pending r.rsm →
    is_some (reserves k move now r).rec.pending ≡ is_pending (reserves k move now r).rec.rsm
unfolding reserves reserve_step event_of is_pending
reserves_pending k move now r e h = grind (arith, e, h)

reserves_attempt : (k : Rsm) (move : ReservationMove) (now : ℕ) (r : Record) → r.rsm ≡ k → (is_pending r.rsm ≡ true → is_some r.attempt ≡ true) →
    is_pending (reserves k move now r).rec.rsm ≡ true → is_some (reserves k move now r).rec.attempt ≡ true
unfolding reserves reserve_step event_of is_pending
reserves_attempt k move now r e h p = grind (arith, e, h, p)

-- what the other machines have of a record
record AreOthersSame (r q : Record) : Type 0 where
  psm : q.psm ≡ r.psm
  lsm : q.lsm ≡ r.lsm
  provision_request : q.provision_request ≡ r.provision_request
  lifecycle_request : q.lifecycle_request ≡ r.lifecycle_request

reserves_others : (k : Rsm) (move : ReservationMove) (now : ℕ) (r : Record) → AreOthersSame r (reserves k move now r).rec
unfolding reserves reserve_step event_of
reserves_others k move now r = grind arith

pub reserves_in_order : (k : Rsm) (move : ReservationMove) (now : ℕ) (r : Record) → r.rsm ≡ k → IsInOrder r → IsInOrder (reserves k move now r).rec
reserves_in_order k move now r e h =
    let same : AreOthersSame r (reserves k move now r).rec = reserves_others k move now r in
    record {
      reserve_request = reserves_request k move now r e h.reserve_request;
      provision_request = ap is_some same.provision_request ∙ h.provision_request ∙ sym (ap is_provisioning same.psm);
      lifecycle_request = ap is_some same.lifecycle_request ∙ h.lifecycle_request ∙ sym (ap is_terminating same.lsm);
      pending = reserves_pending k move now r e h.pending;
      attempt = λ p. reserves_attempt k move now r e h.attempt p;
    }

pub reserves_if_in_order : (o : Option ReservationMove) (now : ℕ) (r : Record) → IsInOrder r → IsInOrder (reserves_if o now r).rec
reserves_if_in_order None now r h = h
reserves_if_in_order (Some move) now r h = reserves_in_order r.rsm move now r refl h

---- The other machines

same_reservation : (r q : Record) → IsReservationSame r q → is_some q.provision_request ≡ is_provisioning q.psm → is_some q.lifecycle_request ≡ is_terminating q.lsm → IsInOrder r → IsInOrder q
same_reservation r q same provision life h =
    record {
      reserve_request = ap is_some same.request ∙ h.reserve_request ∙ sym (ap is_working same.rsm);
      provision_request = provision;
      lifecycle_request = life;
      pending = ap is_some same.pending ∙ h.pending ∙ sym (ap is_pending same.rsm);
      attempt = λ p. ap is_some same.attempt ∙ h.attempt (sym (ap is_pending same.rsm) ∙ p);
    }

provisions_request : (side : Side) (k : Psm) (move : ProvisionMove) (now : ℕ) (r : Record) → r.psm ≡ k → is_some r.provision_request ≡ is_provisioning r.psm →
    is_some (provisions side k move now r).rec.provision_request ≡ is_provisioning (provisions side k move now r).rec.psm
unfolding provisions provision_step provision_event is_provisioning
provisions_request side k move now r e h = grind (arith, e, h)

provisions_life : (side : Side) (k : Psm) (move : ProvisionMove) (now : ℕ) (r : Record) → is_some r.lifecycle_request ≡ is_terminating r.lsm →
    is_some (provisions side k move now r).rec.lifecycle_request ≡ is_terminating (provisions side k move now r).rec.lsm
unfolding provisions provision_step provision_event
provisions_life side k move now r h = grind (arith, h)

pub provisions_in_order : (side : Side) (k : Psm) (move : ProvisionMove) (now : ℕ) (r : Record) → r.psm ≡ k → IsInOrder r → IsInOrder (provisions side k move now r).rec
provisions_in_order side k move now r e h =
    same_reservation r (provisions side k move now r).rec (provisions_core side k move now r) (provisions_request side k move now r e h.provision_request)
    (provisions_life side k move now r h.lifecycle_request) h

pub provisions_if_in_order : (side : Side) (o : Option ProvisionMove) (now : ℕ) (r : Record) → IsInOrder r → IsInOrder (provisions_if side o now r).rec
provisions_if_in_order side None now r h = h
provisions_if_in_order side (Some move) now r h = provisions_in_order side r.psm move now r refl h

lives_provision : (k : Lsm) (move : LifecycleMove) (now : ℕ) (r : Record) → is_some r.provision_request ≡ is_provisioning r.psm →
    is_some (lives k move now r).rec.provision_request ≡ is_provisioning (lives k move now r).rec.psm
unfolding lives lifecycle_step lifecycle_event
lives_provision k move now r h = grind (arith, h)

lives_request : (k : Lsm) (move : LifecycleMove) (now : ℕ) (r : Record) → r.lsm ≡ k → is_some r.lifecycle_request ≡ is_terminating r.lsm →
    is_some (lives k move now r).rec.lifecycle_request ≡ is_terminating (lives k move now r).rec.lsm
unfolding lives lifecycle_step lifecycle_event is_terminating
lives_request k move now r e h = grind (arith, e, h)

pub lives_in_order : (k : Lsm) (move : LifecycleMove) (now : ℕ) (r : Record) → r.lsm ≡ k → IsInOrder r → IsInOrder (lives k move now r).rec
lives_in_order k move now r e h =
    same_reservation r (lives k move now r).rec (lives_core k move now r) (lives_provision k move now r h.provision_request)
    (lives_request k move now r e h.lifecycle_request) h

pub lives_if_in_order : (o : Option LifecycleMove) (now : ℕ) (r : Record) → IsInOrder r → IsInOrder (lives_if o now r).rec
lives_if_in_order None now r h = h
lives_if_in_order (Some move) now r h = lives_in_order r.lsm move now r refl h

---- All of them

pub closes_in_order : (agent : List ℕ) (side : Side) (now : ℕ) (r : Record) → IsInOrder r → IsInOrder (closes agent side now r).rec
unfolding closes
closes_in_order agent side now r h =
    let gone : Exception = plain agent ErrorName.Gone in
    let a : Moved = closes_reservation agent now r in
    let b : Moved = closes_provision agent side now a.rec in
    lives_in_order b.rec.lsm LifecycleMove.Done now b.rec refl
    (provisions_if_in_order side (provision_closing a.rec.psm gone) now a.rec (reserves_if_in_order (reservation_closing r.rsm gone) now r h))

pub moves_in_order : (side : Side) (move : Move) (now : ℕ) (r : Record) → IsInOrder r → IsInOrder (moves side move now r).rec
unfolding moves
moves_in_order side (Move.Reservation move) now r h = reserves_in_order r.rsm move now r refl h
moves_in_order side (Move.Provision move) now r h = provisions_in_order side r.psm move now r refl h
moves_in_order side (Move.Lifecycle move) now r h = lives_in_order r.lsm move now r refl h
moves_in_order side (Move.Close agent) now r h = closes_in_order agent side now r h

pub moves_if_in_order : (side : Side) (o : Option Move) (now : ℕ) (r : Record) → IsInOrder r → IsInOrder (moves_if side o now r).rec
moves_if_in_order side None now r h = h
moves_if_in_order side (Some move) now r h = moves_in_order side move now r h

pub ticks_in_order : (live : Bool) (origin : Origin) (now : ℕ) (r : Record) → IsInOrder r → IsInOrder (ticks live origin now r).rec
unfolding ticks
ticks_in_order false origin now r h = h
ticks_in_order true origin now r h =
    let held : Record = (reserves_if (hold_end r.rsm r.deadline now origin) now r).rec in
    lives_if_in_order (schedule_end (last held.committed) now) now held (reserves_if_in_order (hold_end r.rsm r.deadline now origin) now r h)

-- to tell a change counts a notice, and nothing else
tells_plane_in_order : (told : Bool) (p : Plane) (c now : ℕ) (r : Record) → IsInOrder r → IsInOrder (tells_plane told p c now r).rec
unfolding tells_plane
tells_plane_in_order true p c now r h =
    record {
      reserve_request = h.reserve_request;
      provision_request = h.provision_request;
      lifecycle_request = h.lifecycle_request;
      pending = h.pending;
      attempt = λ q. h.attempt q;
    }
tells_plane_in_order false p c now r h = h

pub tells_in_order : (before : Plane) (c now : ℕ) (x : Moved) → IsInOrder x.rec → IsInOrder (tells before c now x).rec
unfolding tells
tells_in_order before c now x h = tells_plane_in_order (is_told before now x.rec) (status_of now x.rec) c now x.rec h

---- Points

-- what is done to a record changes neither its service nor its points
pub later_points : (stp_of : List ℕ → Option ℕ) (r q : Record) → IsLater r q → HasPoints stp_of r → HasPoints stp_of q
later_points stp_of r q later h =
    record {
      source = ap (λ (s : Service). stp_of s.source) later.service ∙ h.source ∙ ap Some (sym later.source);
      dest = ap (λ (s : Service). stp_of s.dest) later.service ∙ h.dest ∙ ap Some (sym later.dest);
    }

pub fresh_points : (stp_of : List ℕ → Option ℕ) (id : ℕ) (owner : List ℕ) (service : Service) (source dest : ℕ) →
    stp_of service.source ≡ Some source → stp_of service.dest ≡ Some dest → HasPoints stp_of (fresh id owner service source dest)
fresh_points stp_of id owner service source dest e f = record { source = e; dest = f }

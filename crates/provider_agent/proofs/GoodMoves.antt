-- Whatever is done to a record leaves it good.
use Rattle.std.proofs.Common.{◌≡◌, ◌<◌, ◌∙◌, ℕ, Bool, true, false, List, Option, Some, None, IfSome, IsSome, arith, refl, sym, ap, subst, append-nil}
use Rattle.nsi_primitive.specs.Printable.{IsShort}
use Rattle.nsi_primitive.specs.declared.kind.ErrorName.{ErrorName}
use Rattle.nsi_primitive.specs.declared.plane.Plane.{Plane}
use Rattle.nsi_primitive.specs.declared.state.Lsm.{Lsm}
use Rattle.nsi_primitive.specs.declared.state.Psm.{Psm}
use Rattle.nsi_primitive.specs.declared.state.Rsm.{Rsm}
use Rattle.nsi_primitive.specs.declared.state.Side.{Side}
use Rattle.nsi_primitive.specs.declared.message.Criteria.{Criteria}
use Rattle.nsi_primitive.specs.declared.message.Exception.{Exception}
use Rattle.nsi_primitive.specs.declared.message.Service.{Service}
use Rattle.reserve_machine.specs.Table.{step as reserve_step}
use Rattle.provision_machine.specs.Table.{step as provision_step}
use Rattle.lifecycle_machine.specs.Table.{step as lifecycle_step}
use Rattle.connection_record.specs.declared.record.Record.{Record}
use Rattle.connection_record.specs.declared.life.LifecycleMove.{LifecycleMove}
use Rattle.connection_record.specs.declared.moves.Origin.{Origin}
use Rattle.connection_record.specs.declared.moves.ReservationMove.{ReservationMove}
use Rattle.connection_record.specs.declared.provisioning.ProvisionMove.{ProvisionMove}
use Rattle.connection_record.specs.declared.apply.Move.{Move}
use Rattle.connection_record.specs.Demand.{last}
use Rattle.connection_record.specs.Lives.{provision_event, lifecycle_event, provisions, provisions_if, lives, lives_if}
use Rattle.connection_record.specs.Moves.{event_of, reserves, reserves_if, committed_with, hold_end, is_live}
use Rattle.connection_record.specs.Replies.{Moved, plain}
use Rattle.connection_record.specs.Order.{IsInOrder}
use Rattle.connection_record.specs.Rising.{AreRising, IsAboveLast}
use Rattle.connection_record.specs.Applied.{closes_reservation, closes_provision, reservation_closing, provision_closing, closes, moves, moves_if, schedule_end, ticks, ticked, tells}
use Rattle.connection_record.proofs.Growing.{reserves_later}
use Rattle.connection_record.proofs.InOrder.{reserves_in_order, provisions_in_order, lives_in_order}
use Rattle.connection_record.proofs.Rising.{rising_more}
use Rattle.provider_agent.specs.Good.{is_asking, IsGoodRecord}
use Rattle.provider_agent.proofs.Turning.{told_keeps}

---- The reservation machine

-- what is asked is above what is committed
abbrev pub IsFittingReservation : ReservationMove → Record → Type 0
IsFittingReservation (ReservationMove.Reserve c criteria) r = IfSome (last r.committed) (λ l. l.version < criteria.version)
IsFittingReservation _ r = Unit {0}

rising_with : (committed : List Criteria) (pending : Option Criteria) → AreRising committed → IsAboveLast pending committed → AreRising (committed_with committed pending)
rising_with committed None rising above = subst AreRising (sym (append-nil committed)) rising
rising_with committed (Some c) rising above = rising_more committed c rising above

reserves_rising : (k : Rsm) (move : ReservationMove) (now : ℕ) (r : Record) → IsGoodRecord r → AreRising (reserves k move now r).rec.committed
unfolding reserves reserve_step event_of
reserves_rising k move now r g = grind (arith, rising_with)

reserves_above : (k : Rsm) (move : ReservationMove) (now : ℕ) (r : Record) → IsGoodRecord r → IsFittingReservation move r → IsAboveLast (reserves k move now r).rec.pending (reserves k move now r).rec.committed
unfolding reserves reserve_step event_of
reserves_above k move now r g f = grind arith

reserves_asking : (k : Rsm) (move : ReservationMove) (now : ℕ) (r : Record) → r.rsm ≡ k → IsGoodRecord r → is_asking (reserves k move now r).rec.rsm ≡ true → IsSome (reserves k move now r).rec.pending
unfolding reserves reserve_step event_of
reserves_asking k move now r e g a = grind arith

pub reserves_good : (k : Rsm) (move : ReservationMove) (now : ℕ) (r : Record) → r.rsm ≡ k → IsGoodRecord r → IsFittingReservation move r → IsGoodRecord (reserves k move now r).rec
reserves_good k move now r e g f =
    let same = (reserves_later k move now r).service in
    record {
      rising = reserves_rising k move now r g;
      above = reserves_above k move now r g f;
      asking = reserves_asking k move now r e g;
      description = subst (λ (x : Service). IsShort 256 x.description) (sym same) g.description;
      global = subst (λ (x : Service). IsShort 128 x.global) (sym same) g.global;
      in_order = reserves_in_order k move now r e g.in_order;
    }

reserves_if_good : (o : Option ReservationMove) (now : ℕ) (r : Record) → IsGoodRecord r → IfSome o (λ m. IsFittingReservation m r) → IsGoodRecord (reserves_if o now r).rec
reserves_if_good None now r g f = g
reserves_if_good (Some move) now r g f = reserves_good r.rsm move now r refl g f

---- The other machines

-- the service, what is committed and what is asked are the same
pub record IsSameReservation (a b : Record) : Type 0 where
  pub service : a.service ≡ b.service
  pub committed : a.committed ≡ b.committed
  pub pending : a.pending ≡ b.pending
  pub rsm : a.rsm ≡ b.rsm

good_same : (a b : Record) → IsSameReservation a b → IsInOrder a → IsGoodRecord b → IsGoodRecord a
good_same a b same order g = record {
  rising = subst AreRising (sym same.committed) g.rising;
  above = subst (λ p. IsAboveLast p a.committed) (sym same.pending) (subst (IsAboveLast b.pending) (sym same.committed) g.above);
  asking = λ h. subst (λ (p : Option Criteria). IsSome p) (sym same.pending) (g.asking (sym (ap is_asking same.rsm) ∙ h));
  description = subst (λ (x : Service). IsShort 256 x.description) (sym same.service) g.description;
  global = subst (λ (x : Service). IsShort 128 x.global) (sym same.service) g.global;
  in_order = order;
}

pub provisions_same : (side : Side) (k : Psm) (move : ProvisionMove) (now : ℕ) (r : Record) → IsSameReservation (provisions side k move now r).rec r
unfolding provisions provision_step provision_event
provisions_same side k move now r = grind arith

pub lives_same : (k : Lsm) (move : LifecycleMove) (now : ℕ) (r : Record) → IsSameReservation (lives k move now r).rec r
unfolding lives lifecycle_step lifecycle_event
lives_same k move now r = grind arith

provisions_if_good : (side : Side) (o : Option ProvisionMove) (now : ℕ) (r : Record) → IsGoodRecord r → IsGoodRecord (provisions_if side o now r).rec
provisions_if_good side None now r g = g
provisions_if_good side (Some move) now r g = good_same (provisions side r.psm move now r).rec r (provisions_same side r.psm move now r) (provisions_in_order side r.psm move now r refl g.in_order) g

lives_if_good : (o : Option LifecycleMove) (now : ℕ) (r : Record) → IsGoodRecord r → IsGoodRecord (lives_if o now r).rec
lives_if_good None now r g = g
lives_if_good (Some move) now r g = good_same (lives r.lsm move now r).rec r (lives_same r.lsm move now r) (lives_in_order r.lsm move now r refl g.in_order) g

---- All of them

closing_fits : (k : Rsm) (gone : Exception) (r : Record) → IfSome (reservation_closing k gone) (λ m. IsFittingReservation m r)
unfolding reservation_closing
closing_fits k gone r = grind arith

closes_good : (agent : List ℕ) (side : Side) (now : ℕ) (r : Record) → IsGoodRecord r → IsGoodRecord (closes agent side now r).rec
unfolding closes
closes_good agent side now r g =
    let gone : Exception = plain agent ErrorName.Gone in
    let a : Moved = closes_reservation agent now r in
    let b : Moved = closes_provision agent side now a.rec in
    lives_if_good (Some LifecycleMove.Done) now b.rec (provisions_if_good side (provision_closing a.rec.psm gone) now a.rec (reserves_if_good (reservation_closing r.rsm gone) now r g (closing_fits r.rsm gone r)))

-- what is asked is above what is committed, and every other move fits
abbrev pub IsFitting : Move → Record → Type 0
IsFitting (Move.Reservation m) r = IsFittingReservation m r
IsFitting _ r = Unit {0}

-- A fitting move leaves a record good,
pub moves_good : (side : Side) (move : Move) (now : ℕ) (r : Record) → IsGoodRecord r → IsFitting move r → IsGoodRecord (moves side move now r).rec
unfolding moves
moves_good side (Move.Reservation m) now r g f = reserves_good r.rsm m now r refl g f
moves_good side (Move.Provision m) now r g f = provisions_if_good side (Some m) now r g
moves_good side (Move.Lifecycle m) now r g f = lives_if_good (Some m) now r g
moves_good side (Move.Close agent) now r g f = closes_good agent side now r g

pub moves_if_good : (side : Side) (o : Option Move) (now : ℕ) (r : Record) → IsGoodRecord r → IfSome o (λ m. IsFitting m r) → IsGoodRecord (moves_if side o now r).rec
moves_if_good side None now r g f = g
moves_if_good side (Some move) now r g f = moves_good side move now r g f

hold_end_fits : (k : Rsm) (deadline : Option ℕ) (now : ℕ) (origin : Origin) (r : Record) → IfSome (hold_end k deadline now origin) (λ m. IsFittingReservation m r)
unfolding hold_end
hold_end_fits k deadline now origin r = grind arith

-- and so does a tick,
pub ticked_good : (origin : Origin) (now : ℕ) (r : Record) → IsGoodRecord r → IsGoodRecord (ticked origin now r).rec
unfolding ticks
ticked_good origin now r g = by_life (is_live r.lsm)
  where
    ended : Record
    ended = (reserves_if (hold_end r.rsm r.deadline now origin) now r).rec

    by_life : (b : Bool) → IsGoodRecord (ticks b origin now r).rec
    by_life false = g
    by_life true = lives_if_good (schedule_end (last ended.committed) now) now ended (reserves_if_good (hold_end r.rsm r.deadline now origin) now r g (hold_end_fits r.rsm r.deadline now origin r))

-- and telling the change of the data plane.
pub told_good : (p : Plane) (c now : ℕ) (x : Moved) → IsGoodRecord x.rec → IsGoodRecord (tells p c now x).rec
told_good p c now x g = told_keeps IsGoodRecord p c now x (λ notices. record {
  rising = g.rising;
  above = g.above;
  asking = g.asking;
  description = g.description;
  global = g.global;
  in_order = record {
    reserve_request = g.in_order.reserve_request;
    provision_request = g.in_order.provision_request;
    lifecycle_request = g.in_order.lifecycle_request;
    pending = g.in_order.pending;
    attempt = g.in_order.attempt;
  };
})

-- Each machine of a record moves as its table says, and says what the table says; where the table has no row nothing changes.
use Rattle.std.proofs.Common.{ℕ, ◌≡◌, Option, Some, None, arith}
use Rattle.std.specs.Prelude.{is_some}
use Rattle.nsi_primitive.specs.declared.state.Rsm.{Rsm}
use Rattle.nsi_primitive.specs.declared.state.Psm.{Psm}
use Rattle.nsi_primitive.specs.declared.state.Lsm.{Lsm}
use Rattle.nsi_primitive.specs.declared.state.Side.{Side}
use Rattle.nsi_primitive.specs.declared.message.Criteria.{Criteria}
use Rattle.reserve_machine.specs.Table.{step as reserve_step}
use Rattle.provision_machine.specs.Table.{step as provision_step}
use Rattle.lifecycle_machine.specs.Table.{step as lifecycle_step}
use Rattle.connection_record.specs.declared.record.Record.{Record}
use Rattle.connection_record.specs.declared.moves.ReservationMove.{ReservationMove}
use Rattle.connection_record.specs.declared.provisioning.ProvisionMove.{ProvisionMove}
use Rattle.connection_record.specs.declared.life.LifecycleMove.{LifecycleMove}
use Rattle.connection_record.specs.Order.{is_pending}
use Rattle.connection_record.specs.Replies.{stays}
use Rattle.connection_record.specs.Moves.{event_of, reserves}
use Rattle.connection_record.specs.Tabled.{next_or, message_of, kinds}
use Rattle.connection_record.specs.Lives.{provision_event, provisions, lifecycle_event, lives}

-- what is checked is there
abbrev pub IsAtHand : Rsm → Option Criteria → Type 0
IsAtHand Rsm.ReserveChecking None = ⊥
IsAtHand _ pending = Unit {0}

pub at_hand : (k : Rsm) (pending : Option Criteria) → is_some pending ≡ is_pending k → IsAtHand k pending
unfolding is_pending
at_hand Rsm.ReserveChecking None e = absurd (cc)
at_hand Rsm.ReserveChecking (Some c) e = tt
at_hand Rsm.ReserveStart pending e = tt
at_hand Rsm.ReserveFailed pending e = tt
at_hand Rsm.ReserveHeld pending e = tt
at_hand Rsm.ReserveCommitting pending e = tt
at_hand Rsm.ReserveTimeout pending e = tt
at_hand Rsm.ReserveAborting pending e = tt

---- The reservation machine

pub reserves_next : (k : Rsm) (move : ReservationMove) (now : ℕ) (r : Record) → r.rsm ≡ k → IsAtHand k r.pending →
    (reserves k move now r).rec.rsm ≡ next_or k (reserve_step k (event_of move))
unfolding reserves reserve_step event_of
reserves_next k move now r e h = grind arith

pub reserves_says : (k : Rsm) (move : ReservationMove) (now : ℕ) (r : Record) → IsAtHand k r.pending → kinds (reserves k move now r).out ≡ message_of (reserve_step k (event_of move))
unfolding reserves reserve_step event_of
reserves_says k move now r h = grind arith

pub reserves_without_row : (k : Rsm) (move : ReservationMove) (now : ℕ) (r : Record) → reserve_step k (event_of move) ≡ None → reserves k move now r ≡ stays r
unfolding reserves reserve_step event_of
reserves_without_row k move now r e = grind arith

---- The provision machine

pub provisions_next : (side : Side) (k : Psm) (move : ProvisionMove) (now : ℕ) (r : Record) → r.psm ≡ k →
    (provisions side k move now r).rec.psm ≡ next_or k (provision_step side k (provision_event move))
unfolding provisions provision_step provision_event
provisions_next side k move now r e = grind arith

pub provisions_says : (side : Side) (k : Psm) (move : ProvisionMove) (now : ℕ) (r : Record) →
    kinds (provisions side k move now r).out ≡ message_of (provision_step side k (provision_event move))
unfolding provisions provision_step provision_event
provisions_says side k move now r = grind arith

pub provisions_without_row : (side : Side) (k : Psm) (move : ProvisionMove) (now : ℕ) (r : Record) → provision_step side k (provision_event move) ≡ None →
    provisions side k move now r ≡ stays r
unfolding provisions provision_step provision_event
provisions_without_row side k move now r e = grind arith

---- The lifecycle machine

pub lives_next : (k : Lsm) (move : LifecycleMove) (now : ℕ) (r : Record) → r.lsm ≡ k → (lives k move now r).rec.lsm ≡ next_or k (lifecycle_step k (lifecycle_event move))
unfolding lives lifecycle_step lifecycle_event
lives_next k move now r e = grind arith

pub lives_says : (k : Lsm) (move : LifecycleMove) (now : ℕ) (r : Record) → kinds (lives k move now r).out ≡ message_of (lifecycle_step k (lifecycle_event move))
unfolding lives lifecycle_step lifecycle_event
lives_says k move now r = grind arith

pub lives_without_row : (k : Lsm) (move : LifecycleMove) (now : ℕ) (r : Record) → lifecycle_step k (lifecycle_event move) ≡ None → lives k move now r ≡ stays r
unfolding lives lifecycle_step lifecycle_event
lives_without_row k move now r e = grind arith

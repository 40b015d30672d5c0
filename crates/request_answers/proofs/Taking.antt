-- A request that isn't refused is worked on from then on, or answered at once.
use Rattle.std.proofs.Common.{ℕ, ◌≡◌, ◌⊎◌, true, false, Option, Some, None, refl, arith}
use Rattle.nsi_primitive.specs.Messages.{kind_of, is_request, is_query}
use Rattle.nsi_primitive.specs.declared.kind.Kind.{Kind}
use Rattle.nsi_primitive.specs.declared.message.Body.{Body}
use Rattle.nsi_primitive.specs.declared.message.Criteria.{Criteria}
use Rattle.nsi_primitive.specs.declared.message.ReserveRequest.{ReserveRequest}
use Rattle.nsi_primitive.specs.declared.state.Rsm.{Rsm}
use Rattle.nsi_primitive.specs.declared.state.Side.{Side}
use Rattle.reserve_machine.specs.Table.{step as reserve_step}
use Rattle.provision_machine.specs.Table.{step as provision_step}
use Rattle.lifecycle_machine.specs.Table.{step as lifecycle_step}
use Rattle.connection_record.specs.declared.record.Record.{Record}
use Rattle.connection_record.specs.declared.apply.Move.{Move}
use Rattle.connection_record.specs.declared.life.LifecycleMove.{LifecycleMove}
use Rattle.connection_record.specs.declared.moves.ReservationMove.{ReservationMove}
use Rattle.connection_record.specs.declared.provisioning.ProvisionMove.{ProvisionMove}
use Rattle.connection_record.specs.Applied.{moves, moves_if, requested, reserve_move, is_terminating}
use Rattle.connection_record.specs.Lives.{provision_event, lifecycle_event, provisions, lives}
use Rattle.connection_record.specs.Moves.{event_of, reserves, asked_criteria, is_live}
use Rattle.connection_record.specs.Refusal.{has_row}
use Rattle.connection_record.specs.Unrefused.{IsFitFor}
use Rattle.connection_record.proofs.Unrefused.{reserve_row, commit_row, abort_row, unrefused_criteria}
use Rattle.request_answers.specs.Answers.{is_answer}
use Rattle.request_answers.specs.Open.{works_on}
use Rattle.request_answers.proofs.Carrying.{is_told_of, is_carried}

takes_reserve : (side : Side) (criteria : Criteria) (c now : ℕ) (r : Record) → r.rsm ≡ Rsm.ReserveStart → is_live r.lsm ≡ true →
    is_carried Kind.Reserve c (moves side (Move.Reservation (ReservationMove.Reserve c criteria)) now r) ≡ true
unfolding moves reserves reserve_step event_of works_on is_live is_told_of is_answer
takes_reserve side criteria c now r e l = grind (arith, e, l)

takes_commit : (side : Side) (c now : ℕ) (r : Record) → r.rsm ≡ Rsm.ReserveHeld → is_live r.lsm ≡ true → is_carried Kind.ReserveCommit c (moves side (Move.Reservation (ReservationMove.Commit c)) now r) ≡ true
unfolding moves reserves reserve_step event_of works_on is_live is_told_of is_answer
takes_commit side c now r e l = grind (arith, e, l)

takes_abort : (side : Side) (c now : ℕ) (r : Record) → (r.rsm ≡ Rsm.ReserveHeld) ⊎ (r.rsm ≡ Rsm.ReserveFailed) ⊎ (r.rsm ≡ Rsm.ReserveTimeout) → is_live r.lsm ≡ true →
    is_carried Kind.ReserveAbort c (moves side (Move.Reservation (ReservationMove.Abort c)) now r) ≡ true
unfolding moves reserves reserve_step event_of works_on is_live is_told_of is_answer
takes_abort side c now r e l = grind (arith, e, l)

takes_provision : (side : Side) (id c now : ℕ) (r : Record) → has_row (Body.Provision id) r ≡ true → is_live r.lsm ≡ true →
    is_carried Kind.Provision c (moves side (Move.Provision (ProvisionMove.Provision c)) now r) ≡ true
unfolding has_row moves provisions provision_step provision_event works_on is_live is_told_of is_answer
takes_provision side id c now r e l = grind (arith, e, l)

takes_release : (side : Side) (id c now : ℕ) (r : Record) → has_row (Body.Release id) r ≡ true → is_live r.lsm ≡ true →
    is_carried Kind.Release c (moves side (Move.Provision (ProvisionMove.Release c)) now r) ≡ true
unfolding has_row moves provisions provision_step provision_event works_on is_live is_told_of is_answer
takes_release side id c now r e l = grind (arith, e, l)

takes_terminate : (side : Side) (id c now : ℕ) (r : Record) → has_row (Body.Terminate id) r ≡ true →
    is_carried Kind.Terminate c (moves side (Move.Lifecycle (LifecycleMove.Terminate c)) now r) ≡ true
unfolding has_row moves lives lifecycle_step lifecycle_event works_on is_terminating is_told_of is_answer
takes_terminate side id c now r e = grind (arith, e)

-- a reserve that asks for criteria
pub reserve_taken : (side : Side) (q : ReserveRequest) (c now : ℕ) (r : Record) → r.rsm ≡ Rsm.ReserveStart → is_live r.lsm ≡ true → (asked_criteria now q r.committed ≡ None → ⊥) →
    is_carried Kind.Reserve c (moves_if side (requested now (Body.Reserve q) c r) now r) ≡ true
unfolding requested
reserve_taken side q c now r e l some = by (asked_criteria now q r.committed) refl
  where
    by : (o : Option Criteria) → asked_criteria now q r.committed ≡ o → is_carried Kind.Reserve c (moves_if side (reserve_move c o) now r) ≡ true
    by None is = absurd (some is)
    by (Some criteria) is = takes_reserve side criteria c now r e l

pub request_taken : (side : Side) (body : Body) (c now : ℕ) (r : Record) → is_request body ≡ true → is_query body ≡ false → IsFitFor now body r →
    is_carried (kind_of body) c (moves_if side (requested now body c r) now r) ≡ true
unfolding requested
request_taken side (Body.Reserve q) c now r a b fit = reserve_taken side q c now r (reserve_row q r fit.row) fit.live (unrefused_criteria now q r fit.modification)
request_taken side (Body.ReserveCommit id) c now r a b fit = takes_commit side c now r (commit_row id r fit.row) fit.live
request_taken side (Body.ReserveAbort id) c now r a b fit = takes_abort side c now r (abort_row id r fit.row) fit.live
request_taken side (Body.Provision id) c now r a b fit = takes_provision side id c now r fit.row fit.live
request_taken side (Body.Release id) c now r a b fit = takes_release side id c now r fit.row fit.live
request_taken side (Body.Terminate id) c now r a b fit = takes_terminate side id c now r fit.row
request_taken side _ c now r a b fit = absurd (cc)

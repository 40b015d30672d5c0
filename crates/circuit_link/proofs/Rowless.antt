-- What records say has no rows.
use Rattle.std.proofs.Common.{ℕ, ◌≡◌, Bool, true, false, List, Option, Some, None, refl, arith, ◌==◌, ◌&&◌, ◌||◌}
use Rattle.nsi_primitive.specs.Kinds.{kind_number}
use Rattle.nsi_primitive.specs.Messages.{has_rows}
use Rattle.nsi_primitive.specs.declared.message.Body.{Body}
use Rattle.nsi_primitive.specs.declared.message.Criteria.{Criteria}
use Rattle.nsi_primitive.specs.declared.state.Lsm.{Lsm}
use Rattle.nsi_primitive.specs.declared.state.Psm.{Psm}
use Rattle.nsi_primitive.specs.declared.state.Rsm.{Rsm}
use Rattle.nsi_primitive.specs.declared.state.Side.{Side}
use Rattle.reserve_machine.specs.Table.{step as reserve_step}
use Rattle.provision_machine.specs.Table.{step as provision_step}
use Rattle.lifecycle_machine.specs.Table.{step as lifecycle_step}
use Rattle.connection_record.specs.declared.record.Record.{Record}
use Rattle.connection_record.specs.declared.life.LifecycleMove.{LifecycleMove}
use Rattle.connection_record.specs.declared.moves.Reply.{Reply}
use Rattle.connection_record.specs.declared.moves.ReservationMove.{ReservationMove}
use Rattle.connection_record.specs.declared.provisioning.ProvisionMove.{ProvisionMove}
use Rattle.connection_record.specs.Applied.{reserve_move, moves, moves_if, requested}
use Rattle.connection_record.specs.Courses.{IsAct, Course}
use Rattle.connection_record.specs.Lives.{provision_event, provisions, lifecycle_event, lives}
use Rattle.connection_record.specs.Moves.{event_of, reserves, asked_criteria}
use Rattle.connection_record.specs.Replies.{Moved}
use Rattle.connection_record.specs.Speaking.{tally, is_asking, is_noting, is_answering, number_of, answers_as, owed, owed_reserve, owed_provision, owed_life}
use Rattle.connection_record.proofs.Courses.{course_after}
use Rattle.circuit_link.proofs.Abouts.{AreRowless}
use Rattle.circuit_link.proofs.Answering.{tally_there, counted_as}

---- What is done by itself: no record owes rows

-- the numbers of the kinds with rows
abbrev is_for_rows : ℕ → Bool
is_for_rows n = (n == 21) || ((n == 23) || ((n == 25) || (n == 27)))

rows_number : (b : Body) → has_rows b ≡ true → is_for_rows (number_of b) ≡ true
unfolding number_of kind_number
rows_number (Body.QuerySummaryConfirmed more rows) e = refl
rows_number (Body.QueryNotificationConfirmed c more rows) e = refl
rows_number (Body.QueryResultConfirmed c more rows) e = refl
rows_number (Body.QueryRecursiveConfirmed c more rows) e = refl
rows_number _ e = absurd (cc)

reserve_unowed : (k : Rsm) (c n : ℕ) (r : Record) → is_for_rows n ≡ true → owed_reserve k c n r ≡ 0
unfolding owed_reserve kind_number
reserve_unowed k c n r e = grind (arith, e)

provision_unowed : (k : Psm) (c n : ℕ) (r : Record) → is_for_rows n ≡ true → owed_provision k c n r ≡ 0
unfolding owed_provision kind_number
provision_unowed k c n r e = grind (arith, e)

life_unowed : (k : Lsm) (c n : ℕ) (r : Record) → is_for_rows n ≡ true → owed_life k c n r ≡ 0
unfolding owed_life kind_number
life_unowed k c n r e = grind (arith, e)

rows_unowed : (b : Body) (c : ℕ) (r : Record) → has_rows b ≡ true → owed c (number_of b) r ≡ 0
unfolding owed
rows_unowed b c r h =
    let e = rows_number b h in
    omega (arith, reserve_unowed r.rsm c (number_of b) r e, provision_unowed r.psm c (number_of b) r e, life_unowed r.lsm c (number_of b) r e)

pub rows_answer : (b : Body) → has_rows b ≡ true → is_answering b ≡ true
unfolding is_answering is_asking is_noting
rows_answer b e = grind (arith, e)

pub course_rowless : (r q : Record) (out : List Reply) → Course r q out → AreRowless out
course_rowless r q out course y i = by_test (has_rows y.body) refl
  where
    here : has_rows y.body ≡ true → (is_answering y.body && (y.correlation == y.correlation)) ≡ true
    here e = both (is_answering y.body) (y.correlation == y.correlation) (rows_answer y.body e) (grind arith)
      where
        both : (a b : Bool) → a ≡ true → b ≡ true → (a && b) ≡ true
        both a b p q = rw (p, q) refl

    by_test : (t : Bool) → has_rows y.body ≡ t → t ≡ false
    by_test false e = refl
    by_test true e =
        let n : ℕ = number_of y.body in
        let t = tally_there (answers_as y.correlation n) y out i (counted_as y.correlation y (here e)) in
        absurd (omega (arith, t, (course_after r q out course).owes y.correlation n, rows_unowed y.body y.correlation r e))

pub act_rowless : (r : Record) (y : Moved) → IsAct r y → AreRowless y.out
act_rowless r y a = course_rowless r y.rec y.out (Course.does r y a)

---- What is said to a request that is taken

abbrev with_rows : Reply → Bool
with_rows y = has_rows y.body

untallied : (out : List Reply) → tally with_rows out ≡ 0 → AreRowless out
untallied out z y i = by_test (has_rows y.body) refl
  where
    by_test : (t : Bool) → has_rows y.body ≡ t → t ≡ false
    by_test false e = refl
    by_test true e = absurd (omega (arith, z, tally_there with_rows y out i e))

reserves_rows : (k : Rsm) (move : ReservationMove) (now : ℕ) (r : Record) → tally with_rows (reserves k move now r).out ≡ 0
unfolding reserves reserve_step event_of tally
reserves_rows k move now r = grind arith

provisions_rows : (side : Side) (k : Psm) (move : ProvisionMove) (now : ℕ) (r : Record) → tally with_rows (provisions side k move now r).out ≡ 0
unfolding provisions provision_step provision_event tally
provisions_rows side k move now r = grind arith

lives_rows : (k : Lsm) (move : LifecycleMove) (now : ℕ) (r : Record) → tally with_rows (lives k move now r).out ≡ 0
unfolding lives lifecycle_step lifecycle_event tally
lives_rows k move now r = grind arith

taken_rows : (side : Side) (b : Body) (c now : ℕ) (r : Record) → tally with_rows (moves_if side (requested now b c r) now r).out ≡ 0
unfolding requested moves tally
taken_rows side (Body.Reserve q) c now r = by_criteria (asked_criteria now q r.committed)
  where
    by_criteria : (o : Option Criteria) → tally with_rows (moves_if side (reserve_move c o) now r).out ≡ 0
    by_criteria None = refl
    by_criteria (Some p) = reserves_rows r.rsm (ReservationMove.Reserve c p) now r
taken_rows side (Body.ReserveCommit id) c now r = reserves_rows r.rsm (ReservationMove.Commit c) now r
taken_rows side (Body.ReserveAbort id) c now r = reserves_rows r.rsm (ReservationMove.Abort c) now r
taken_rows side (Body.Provision id) c now r = provisions_rows side r.psm (ProvisionMove.Provision c) now r
taken_rows side (Body.Release id) c now r = provisions_rows side r.psm (ProvisionMove.Release c) now r
taken_rows side (Body.Terminate id) c now r = lives_rows r.lsm (LifecycleMove.Terminate c) now r
taken_rows side _ c now r = refl

pub taken_rowless : (side : Side) (b : Body) (c now : ℕ) (r : Record) → AreRowless (moves_if side (requested now b c r) now r).out
taken_rowless side b c now r = untallied (moves_if side (requested now b c r) now r).out (taken_rows side b c now r)

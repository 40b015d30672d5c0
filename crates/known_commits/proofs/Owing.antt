-- Which records owe the confirmation of a commit, and that no other ones give it.
use Rattle.std.proofs.Common.{ℕ, ◌≡◌, ◌∙◌, ◌≤◌, ◌⊎◌, inl, inr, Some, None, Option, List, [], Contains, ap, sym, subst, arith, refl}
use Rattle.nsi_primitive.specs.Kinds.{kind_number}
use Rattle.nsi_primitive.specs.declared.kind.Kind.{Kind}
use Rattle.nsi_primitive.specs.declared.message.Body.{Body}
use Rattle.nsi_primitive.specs.declared.message.Criteria.{Criteria}
use Rattle.nsi_primitive.specs.declared.message.ReserveRequest.{ReserveRequest}
use Rattle.nsi_primitive.specs.declared.state.Lsm.{Lsm}
use Rattle.nsi_primitive.specs.declared.state.Psm.{Psm}
use Rattle.nsi_primitive.specs.declared.state.Rsm.{Rsm}
use Rattle.nsi_primitive.specs.declared.state.Side.{Side}
use Rattle.reserve_machine.specs.Table.{step as reserve_step}
use Rattle.provision_machine.specs.Table.{step as provision_step}
use Rattle.lifecycle_machine.specs.Table.{step as lifecycle_step}
use Rattle.connection_record.specs.declared.life.LifecycleMove.{LifecycleMove}
use Rattle.connection_record.specs.declared.moves.ReservationMove.{ReservationMove}
use Rattle.connection_record.specs.declared.moves.Reply.{Reply}
use Rattle.connection_record.specs.declared.provisioning.ProvisionMove.{ProvisionMove}
use Rattle.connection_record.specs.declared.record.Record.{Record}
use Rattle.connection_record.specs.Applied.{reserve_move, moves, moves_if, requested}
use Rattle.connection_record.specs.Courses.{Course, IsReservationSame, answering, is_reservation_request}
use Rattle.connection_record.specs.Lives.{lifecycle_event, lives, provision_event, provisions}
use Rattle.connection_record.specs.Moves.{asked_criteria, event_of, reserves}
use Rattle.connection_record.specs.Speaking.{answers_as, is_answering, is_asking, is_noting, number_of, owed, owed_life, owed_provision, owed_reserve, tally}
use Rattle.connection_record.proofs.Beside.{request_beside}
use Rattle.connection_record.proofs.Courses.{course_after}
use Rattle.circuit_link.proofs.Answering.{IsReplied, counted_as, replied_of, tally_there}

-- the number of its kind
abbrev pub confirming : ℕ
confirming = kind_number Kind.ReserveCommitConfirmed

---- What owes it

reserve_owes : (k : Rsm) (c : ℕ) (r : Record) → 1 ≤ owed_reserve k c confirming r → k ≡ Rsm.ReserveCommitting
unfolding owed_reserve kind_number
reserve_owes k c r o = grind (arith, o)

provision_owes : (k : Psm) (c : ℕ) (r : Record) → owed_provision k c confirming r ≡ 0
unfolding owed_provision kind_number
provision_owes k c r = grind arith

life_owes : (k : Lsm) (c : ℕ) (r : Record) → owed_life k c confirming r ≡ 0
unfolding owed_life kind_number
life_owes k c r = grind arith

only_reserve : (c : ℕ) (r : Record) → owed c confirming r ≡ owed_reserve r.rsm c confirming r
unfolding owed
only_reserve c r = omega (arith, provision_owes r.psm c r, life_owes r.lsm c r)

-- a record that owes it is committing
pub owes_committing : (c : ℕ) (r : Record) → 1 ≤ owed c confirming r → r.rsm ≡ Rsm.ReserveCommitting
owes_committing c r o = reserve_owes r.rsm c r (omega (arith, o, only_reserve c r))

-- and owes it under the request that it works on
reserve_under : (k : Rsm) (c d : ℕ) (r : Record) → r.reserve_request ≡ Some d → 1 ≤ owed_reserve k c confirming r → c ≡ d
unfolding owed_reserve kind_number
reserve_under k c d r e o = grind (arith, e, o)

owes_under : (c d : ℕ) (r : Record) → r.reserve_request ≡ Some d → 1 ≤ owed c confirming r → c ≡ d
owes_under c d r e o = reserve_under r.rsm c d r e (omega (arith, o, only_reserve c r))

---- A request

-- What owes it once a request is taken owed it before; or the request is a commit, under that correlation.
abbrev pub Owes : Record → Body → (d c : ℕ) → Record → Type 0
Owes r b d c q = 1 ≤ owed c confirming q → (1 ≤ owed c confirming r) ⊎ ((c ≡ d) × (id : ℕ) × (b ≡ Body.ReserveCommit id))

owes_itself : (r : Record) (b : Body) (d c : ℕ) → Owes r b d c r
owes_itself r b d c o = inl o

reserve_same : (k : Rsm) (c : ℕ) (r q : Record) → q.reserve_request ≡ r.reserve_request → q.attempt ≡ r.attempt → owed_reserve k c confirming q ≡ owed_reserve k c confirming r
unfolding owed_reserve
reserve_same k c r q e f = grind (arith, e, f)

owes_same : (r : Record) (b : Body) (d c : ℕ) (q : Record) → IsReservationSame r q → Owes r b d c q
owes_same r b d c q s o =
    let e : owed_reserve q.rsm c confirming q ≡ owed_reserve r.rsm c confirming r =
    ap (λ (k : Rsm). owed_reserve k c confirming q) s.rsm ∙ reserve_same r.rsm c r q s.request s.attempt
    in
    inl (omega (arith, o, only_reserve c q, only_reserve c r, e))

-- one that isn't committing owes nothing
owes_none : (k : Rsm) (r : Record) (b : Body) (d c : ℕ) (q : Record) → q.rsm ≡ k → (k ≡ Rsm.ReserveCommitting → ⊥) → Owes r b d c q
owes_none k r b d c q e never o = absurd (never (sym e ∙ owes_committing c q o))

reserve_taken : (k : Rsm) (a : ReserveRequest) (d now c : ℕ) (p : Criteria) (r : Record) → r.rsm ≡ k → Owes r (Body.Reserve a) d c (reserves k (ReservationMove.Reserve d p) now r).rec
unfolding reserves reserve_step event_of
reserve_taken Rsm.ReserveStart a d now c p r s = owes_none Rsm.ReserveChecking r (Body.Reserve a) d c _ refl (λ e. cc)
reserve_taken Rsm.ReserveChecking a d now c p r s = owes_itself r (Body.Reserve a) d c
reserve_taken Rsm.ReserveHeld a d now c p r s = owes_itself r (Body.Reserve a) d c
reserve_taken Rsm.ReserveFailed a d now c p r s = owes_itself r (Body.Reserve a) d c
reserve_taken Rsm.ReserveCommitting a d now c p r s = owes_itself r (Body.Reserve a) d c
reserve_taken Rsm.ReserveTimeout a d now c p r s = owes_itself r (Body.Reserve a) d c
reserve_taken Rsm.ReserveAborting a d now c p r s = owes_itself r (Body.Reserve a) d c

commit_taken : (k : Rsm) (id d now c : ℕ) (r : Record) → r.rsm ≡ k → Owes r (Body.ReserveCommit id) d c (reserves k (ReservationMove.Commit d) now r).rec
unfolding reserves reserve_step event_of
commit_taken Rsm.ReserveHeld id d now c r s = λ o. inr (owes_under c d _ refl o, id, refl)
commit_taken Rsm.ReserveStart id d now c r s = owes_itself r (Body.ReserveCommit id) d c
commit_taken Rsm.ReserveChecking id d now c r s = owes_itself r (Body.ReserveCommit id) d c
commit_taken Rsm.ReserveFailed id d now c r s = owes_itself r (Body.ReserveCommit id) d c
commit_taken Rsm.ReserveCommitting id d now c r s = owes_itself r (Body.ReserveCommit id) d c
commit_taken Rsm.ReserveTimeout id d now c r s = owes_itself r (Body.ReserveCommit id) d c
commit_taken Rsm.ReserveAborting id d now c r s = owes_itself r (Body.ReserveCommit id) d c

abort_taken : (k : Rsm) (id d now c : ℕ) (r : Record) → r.rsm ≡ k → Owes r (Body.ReserveAbort id) d c (reserves k (ReservationMove.Abort d) now r).rec
unfolding reserves reserve_step event_of
abort_taken Rsm.ReserveHeld id d now c r s = owes_none Rsm.ReserveAborting r (Body.ReserveAbort id) d c _ refl (λ e. cc)
abort_taken Rsm.ReserveFailed id d now c r s = owes_none Rsm.ReserveAborting r (Body.ReserveAbort id) d c _ refl (λ e. cc)
abort_taken Rsm.ReserveTimeout id d now c r s = owes_none Rsm.ReserveAborting r (Body.ReserveAbort id) d c _ refl (λ e. cc)
abort_taken Rsm.ReserveStart id d now c r s = owes_itself r (Body.ReserveAbort id) d c
abort_taken Rsm.ReserveChecking id d now c r s = owes_itself r (Body.ReserveAbort id) d c
abort_taken Rsm.ReserveCommitting id d now c r s = owes_itself r (Body.ReserveAbort id) d c
abort_taken Rsm.ReserveAborting id d now c r s = owes_itself r (Body.ReserveAbort id) d c

pub taken_owes : (b : Body) (side : Side) (d now c : ℕ) (r : Record) → Owes r b d c (moves_if side (requested now b d r) now r).rec
unfolding requested moves is_reservation_request
taken_owes (Body.Reserve a) side d now c r = by (asked_criteria now a r.committed)
  where
    by : (o : Option Criteria) → Owes r (Body.Reserve a) d c (moves_if side (reserve_move d o) now r).rec
    by None = owes_itself r (Body.Reserve a) d c
    by (Some p) = reserve_taken r.rsm a d now c p r refl
taken_owes (Body.ReserveCommit id) side d now c r = commit_taken r.rsm id d now c r refl
taken_owes (Body.ReserveAbort id) side d now c r = abort_taken r.rsm id d now c r refl
taken_owes (Body.Provision id) side d now c r = owes_same r (Body.Provision id) d c _ (request_beside side (Body.Provision id) d now r refl).same
taken_owes (Body.Release id) side d now c r = owes_same r (Body.Release id) d c _ (request_beside side (Body.Release id) d now r refl).same
taken_owes (Body.Terminate id) side d now c r = owes_same r (Body.Terminate id) d c _ (request_beside side (Body.Terminate id) d now r refl).same
taken_owes b side d now c r = owes_itself r b d c

---- What a request makes it say

reserve_says : (k : Rsm) (d now c : ℕ) (p : Criteria) (r : Record) → tally (answers_as c confirming) (reserves k (ReservationMove.Reserve d p) now r).out ≡ 0
unfolding reserves reserve_step event_of tally number_of kind_number is_answering is_asking is_noting
reserve_says k d now c p r = grind arith

commit_says : (k : Rsm) (d now c : ℕ) (r : Record) → tally (answers_as c confirming) (reserves k (ReservationMove.Commit d) now r).out ≡ 0
unfolding reserves reserve_step event_of tally
commit_says k d now c r = grind arith

abort_says : (k : Rsm) (d now c : ℕ) (r : Record) → tally (answers_as c confirming) (reserves k (ReservationMove.Abort d) now r).out ≡ 0
unfolding reserves reserve_step event_of tally
abort_says k d now c r = grind arith

provision_says : (side : Side) (k : Psm) (move : ProvisionMove) (now c : ℕ) (r : Record) → tally (answers_as c confirming) (provisions side k move now r).out ≡ 0
unfolding provisions provision_step provision_event tally number_of kind_number is_answering is_asking is_noting
provision_says side k move now c r = grind arith

life_says : (k : Lsm) (move : LifecycleMove) (now c : ℕ) (r : Record) → tally (answers_as c confirming) (lives k move now r).out ≡ 0
unfolding lives lifecycle_step lifecycle_event tally number_of kind_number is_answering is_asking is_noting
life_says k move now c r = grind arith

none_says : (c : ℕ) → tally (answers_as c confirming) [] ≡ 0
unfolding tally
none_says c = refl

-- no request is confirmed as a commit where it is taken
pub taken_says : (b : Body) (side : Side) (d now c : ℕ) (r : Record) → tally (answers_as c confirming) (moves_if side (requested now b d r) now r).out ≡ 0
unfolding requested moves
taken_says (Body.Reserve a) side d now c r = by (asked_criteria now a r.committed)
  where
    by : (o : Option Criteria) → tally (answers_as c confirming) (moves_if side (reserve_move d o) now r).out ≡ 0
    by None = none_says c
    by (Some p) = reserve_says r.rsm d now c p r
taken_says (Body.ReserveCommit id) side d now c r = commit_says r.rsm d now c r
taken_says (Body.ReserveAbort id) side d now c r = abort_says r.rsm d now c r
taken_says (Body.Provision id) side d now c r = provision_says side r.psm (ProvisionMove.Provision d) now c r
taken_says (Body.Release id) side d now c r = provision_says side r.psm (ProvisionMove.Release d) now c r
taken_says (Body.Terminate id) side d now c r = life_says r.lsm (LifecycleMove.Terminate d) now c r
taken_says b side d now c r = none_says c

---- What is said

its_number : (b : Body) (id : ℕ) → b ≡ Body.ReserveCommitConfirmed id → number_of b ≡ confirming
unfolding number_of
its_number b id e = ap number_of e

pub said_counts : (c id : ℕ) (out : List Reply) → Contains (answering c out) (Body.ReserveCommitConfirmed id) → 1 ≤ tally (answers_as c confirming) out
said_counts c id out i =
    let y : IsReplied c (Body.ReserveCommitConfirmed id) out = replied_of c (Body.ReserveCommitConfirmed id) out i in
    subst (λ (n : ℕ). 1 ≤ tally (answers_as c n) out) (its_number y.reply.body id y.body)
    (tally_there (answers_as c (number_of y.reply.body)) y.reply out y.there (counted_as c y.reply y.answers))

-- what a record does by itself confirms only a commit that it owes that
pub course_says : (r q : Record) (out : List Reply) → Course r q out → (c id : ℕ) → Contains (answering c out) (Body.ReserveCommitConfirmed id) → 1 ≤ owed c confirming r
course_says r q out course c id i = omega (arith, said_counts c id out i, (course_after r q out course).owes c confirming)

-- and owes it only where it did
pub course_owes : (r q : Record) (out : List Reply) → Course r q out → (c : ℕ) → 1 ≤ owed c confirming q → 1 ≤ owed c confirming r
course_owes r q out course c o = omega (arith, o, (course_after r q out course).owes c confirming)

-- What is said, and what is left to say, as numbers: a measure that rises by requests alone.
use Rattle.std.specs.Prelude.{ℕ, ◌+◌, ◌*◌, ◌≤◌, nat_lt, Bool, true, false, not, List, [], ◌∷◌, length, Option, Some, None, sum_by, if◌then◌else◌}
use Rattle.nsi_primitive.specs.declared.message.Body.{Body}
use Rattle.nsi_primitive.specs.declared.message.Criteria.{Criteria}
use Rattle.nsi_primitive.specs.declared.message.Message.{Message}
use Rattle.nsi_primitive.specs.declared.state.Rsm.{Rsm}
use Rattle.nsi_primitive.specs.declared.state.Psm.{Psm}
use Rattle.nsi_primitive.specs.declared.state.Lsm.{Lsm}
use Rattle.connection_record.specs.declared.moves.Reply.{Reply}
use Rattle.connection_record.specs.declared.record.Record.{Record}
use Rattle.connection_record.specs.Demand.{last}
use Rattle.connection_record.specs.Speaking.{tally, is_asking, is_answering}
use Rattle.agent_state.specs.declared.parent.Due.{Due}
use Rattle.agent_state.specs.State.{State, AgentState}

---- What is said

-- how many messages one comes to at most: a change of the data plane is told once more by each of four aggregators above
abbrev pub cost : Body → ℕ
cost (Body.DataPlaneStateChange change) = 5
cost body = 1

unfoldable pub replies_cost : List Reply → ℕ
replies_cost [] = 0
replies_cost (x ∷ xs) = cost x.body + replies_cost xs

unfoldable pub messages_cost : List Message → ℕ
messages_cost [] = 0
messages_cost (m ∷ ms) = cost m.body + messages_cost ms

-- what an agent says by itself: answers, and that a connection was ended by force; no request, and nothing that a child or its silence causes
abbrev pub is_own : Body → Bool
is_own (Body.ErrorEvent event) = true
is_own body = is_answering body

abbrev pub says_own : Message → Bool
says_own m = is_own m.body

-- that a request is late
abbrev pub is_late_notice : Body → Bool
is_late_notice (Body.MessageDeliveryTimeout late) = true
is_late_notice body = false

abbrev pub says_late : Message → Bool
says_late m = is_late_notice m.body

abbrev pub asks : Message → Bool
asks m = is_asking m.body

---- What is left to say

-- of the reservation machine: an answer, and that the hold has ended; of a commit the answer, that the data plane changes then, and twice more
-- as the schedule begins and ends
unfoldable pub left_reserve : Rsm → ℕ
left_reserve Rsm.ReserveChecking = 2
left_reserve Rsm.ReserveHeld = 1
left_reserve Rsm.ReserveCommitting = 16
left_reserve Rsm.ReserveAborting = 1
left_reserve _ = 0

-- an answer, and that the data plane changes then
unfoldable pub left_provision : Psm → ℕ
left_provision Psm.Provisioning = 6
left_provision Psm.Releasing = 6
left_provision _ = 0

-- that it has ended by force, or an answer; and that the data plane changes then
unfoldable pub left_life : Lsm → ℕ
left_life Lsm.Created = 6
left_life Lsm.Terminating = 6
left_life _ = 0

-- how often a schedule still begins or ends
unfoldable pub changes : Option Criteria → ℕ → ℕ
changes None now = 0
changes (Some c) now = if nat_lt now c.interval.start then 2 else if nat_lt now c.interval.end then 1 else 0

-- all that a provider's record may still say, if no request comes
unfoldable pub left : ℕ → Record → ℕ
left now r = left_reserve r.rsm + (left_provision r.psm + (left_life r.lsm + 5 * changes (last r.committed) now))

abbrev pub left_by : ℕ → List Record → ℕ
left_by now rs = sum_by (left now) rs

-- the same of an aggregator's record, whose data plane changes by its children alone
unfoldable pub own_left : Record → ℕ
own_left r = left_reserve r.rsm + (left_provision r.psm + left_life r.lsm)

abbrev pub own_left_by : List Record → ℕ
own_left_by rs = sum_by own_left rs

-- whether a request to a child may still be told to be late
abbrev pub is_untold : Due → Bool
is_untold d = not d.is_told

---- A step

-- what a request is worth: all that it makes one agent say, and what aggregators say of that
abbrev pub worth : ℕ
worth = 30

-- what is said and still left to say was left, or is paid by requests that are taken for the first time
pub record IsPaid (old new : State) (out : List Message) : Type 0 where
  pub paid : messages_cost out + (left_by new.now new.records + worth * length old.seen) ≤ left_by old.now old.records + worth * length new.seen

-- the same of an aggregator, for what it says by itself; a query that waits is left to answer
pub record IsPaidByOwn (old new : AgentState) (out : List Message) : Type 0 where
  pub paid : tally says_own out + (own_left_by new.base.records + length new.queries + worth * length old.base.seen) ≤ own_left_by old.base.records + length old.queries + worth * length new.base.seen

-- what is told to be late, and what still may be, was asked
pub record IsLateByAsking (old new : AgentState) (out : List Message) : Type 0 where
  pub late : tally says_late out + tally is_untold new.dues ≤ tally is_untold old.dues + tally asks out

-- What is the same of an entry at each agent.
use Rattle.std.specs.Prelude.{ℕ, Bool, true, false, List, Option, Some, None, ◌==◌, nat_le, bytes_eq}
use Rattle.nsi_primitive.specs.Messages.{connection_of}
use Rattle.nsi_primitive.specs.declared.kind.ErrorName.{ErrorName}
use Rattle.nsi_primitive.specs.declared.entry.Input.{Input}
use Rattle.nsi_primitive.specs.declared.message.Body.{Body}
use Rattle.nsi_primitive.specs.declared.message.Message.{Message}
use Rattle.message_retry.specs.Retry.{Retry}
use Rattle.connection_record.specs.Replies.{plain}
use Rattle.agent_state.specs.State.{State}

-- a tick may go on to a later second, all else happens now
abbrev pub is_on_time : Input → ℕ → ℕ → Bool
is_on_time Input.Tick second now = nat_le now second
is_on_time _ second now = second == now

-- an agent takes so many entries
abbrev pub most_entries : ℕ
most_entries = 4194304

-- a query about a connection and all that is below it
abbrev pub is_recursive : Body → Bool
is_recursive (Body.QueryRecursive id) = true
is_recursive _ = false

-- a refused request is answered by an error under its own header
abbrev pub error_reply : List ℕ → Message → ErrorName → Message
error_reply agent m error = record { header = m.header; body = Body.Error (connection_of m.body) (plain agent error) }

-- the answer to a query: an error where another agent is asked, or where there is nothing to answer
abbrev pub reply_by : (is_own : Bool) → Option Body → List ℕ → Message → Message
reply_by true (Some body) agent m = record { header = m.header; body = body }
reply_by true None agent m = error_reply agent m ErrorName.Nonexistent
reply_by false answer agent m = error_reply agent m ErrorName.WrongProvider

abbrev pub query_reply : List ℕ → Message → Option Body → Message
query_reply agent m answer = reply_by (bytes_eq m.header.provider agent) answer agent m

---- Messages that wait, and messages that were taken

abbrev pub retry_of : State → Retry
retry_of s = record { waiting = s.waiting; seen = s.seen; heard = s.heard }

abbrev pub with_retry : Retry → State → State
with_retry t s = record s { waiting = t.waiting; seen = t.seen; heard = t.heard }

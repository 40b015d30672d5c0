-- The queries of a requester.
use Rattle.std.specs.Prelude.{ℕ, Option, Some, None, option_and_then}
use Rattle.nsi_primitive.specs.declared.ask.NumbersAsked.{NumbersAsked}
use Rattle.nsi_primitive.specs.declared.ask.What.{What}
use Rattle.nsi_primitive.specs.declared.message.Body.{Body}
use Rattle.nsi_primitive.specs.declared.message.Message.{Message}
use Rattle.nsi_primitive.specs.declared.message.NumberRange.{NumberRange}
use Rattle.agent_state.specs.declared.parent.View.{View}
use Rattle.requester_agent.specs.Setting.{Setting}

-- the numbers that are asked for: both ends, or neither
abbrev pub range_of : ℕ → Option NumbersAsked → NumberRange
range_of id None = record { connection = id; end = None; start = None }
range_of id (Some numbers) = record { connection = id; end = Some numbers.to; start = Some numbers.from }

-- the query about a connection; nothing where another thing is asked
unfoldable pub query_about : What → ℕ → Option Body
query_about What.Summary id = Some (Body.QuerySummary (Some id))
query_about (What.Notifications numbers) id = Some (Body.QueryNotification (range_of id numbers))
query_about (What.Results numbers) id = Some (Body.QueryResult (range_of id numbers))
query_about What.Recursive id = Some (Body.QueryRecursive id)
query_about _ id = None

-- the id of a label's connection, where it is known
abbrev pub connection_known : Option (ℕ × View) → Option ℕ
connection_known found = option_and_then (λ (f : ℕ × View). f.1.child.connection) found

-- the query about a label's connection
abbrev pub query_for : What → Option (ℕ × View) → Option Body
query_for what found = option_and_then (query_about what) (connection_known found)

-- it goes to the agent that the requester asks
abbrev pub query_under : Setting → ℕ → Body → Message
query_under set c body = record { header = record { correlation = c; requester = set.name; provider = set.provider }; body = body }

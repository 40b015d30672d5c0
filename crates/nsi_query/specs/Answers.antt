-- The answers to queries.
use Rattle.std.specs.Prelude.{ℕ, List, [], map, Option, Some, None, unwrap_or, option_and_then}
use Rattle.nsi_primitive.specs.Messages.{connection_of}
use Rattle.nsi_primitive.specs.declared.message.Body.{Body}
use Rattle.nsi_primitive.specs.declared.message.Message.{Message}
use Rattle.nsi_primitive.specs.declared.message.Notice.{Notice}
use Rattle.nsi_primitive.specs.declared.message.NumberRange.{NumberRange}
use Rattle.nsi_primitive.specs.declared.message.Outcome.{Outcome}
use Rattle.nsi_primitive.specs.declared.message.RecursiveRow.{RecursiveRow}
use Rattle.nsi_primitive.specs.declared.message.SummaryRow.{SummaryRow}
use Rattle.connection_record.specs.declared.record.Record.{Record}
use Rattle.connection_record.specs.Applied.{status_of}
use Rattle.connection_record.specs.Refusal.{record_for}
use Rattle.nsi_query.specs.declared.rows.Rows.{Rows}
use Rattle.nsi_query.specs.Summary.{Shown, summary, summary_of}
use Rattle.nsi_query.specs.Counted.{notifications, results}
use Rattle.nsi_query.specs.Nested.{own_row, nest}

abbrev pub summary_answer : Rows SummaryRow → Body
summary_answer found = Body.QuerySummaryConfirmed found.more found.rows

abbrev pub notification_answer : ℕ → Rows Notice → Body
notification_answer connection found = Body.QueryNotificationConfirmed connection found.more found.rows

abbrev pub result_answer : ℕ → Rows Outcome → Body
result_answer connection found = Body.QueryResultConfirmed connection found.more found.rows

abbrev pub nested_answer : ℕ → Rows RecursiveRow → Body
nested_answer connection found = Body.QueryRecursiveConfirmed connection found.more found.rows

-- without a start the numbers are those from the first one, without an end all up to the last
abbrev pub first_asked : NumberRange → ℕ
first_asked range = unwrap_or range.start 1

abbrev pub last_asked : NumberRange → ℕ
last_asked range = unwrap_or range.end 18446744073709551615

-- what an agent that has no child to ask answers to a query about a connection; all else is no query
unfoldable pub answer_about : List ℕ → Shown → Body → Option Body
answer_about agent x (Body.QuerySummary connection) = Some (summary_answer (summary_of x))
answer_about agent x (Body.QueryNotification range) =
    Some (notification_answer x.0.id (notifications (first_asked range) (last_asked range) x.0))
answer_about agent x (Body.QueryResult range) = Some (result_answer x.0.id (results (first_asked range) (last_asked range) x.0))
answer_about agent x (Body.QueryRecursive connection) = Some (nested_answer x.0.id (nest (own_row agent x.0) []))
answer_about agent x _ = None

---- The connections of a provider

-- a connection, with its status at a second
abbrev pub shown_at : ℕ → Record → Shown
shown_at now r = (r, status_of now r)

-- a query without a connection is about all of its requester's
abbrev pub answer_by : Option ℕ → List ℕ → ℕ → List Record → Message → Option Body
answer_by None agent now records m = Some (summary_answer (summary m.header.requester (map (shown_at now) records)))
answer_by (Some id) agent now records m = option_and_then (λ r. answer_about agent (shown_at now r) m.body) (record_for id m.header.requester records)

-- what a provider answers to a query at a second: nothing where its requester has no connection with that id
abbrev pub answer_to : List ℕ → ℕ → List Record → Message → Option Body
answer_to agent now records m = answer_by (connection_of m.body) agent now records m

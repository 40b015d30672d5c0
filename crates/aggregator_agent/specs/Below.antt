-- Queries about a connection and all that is below it: they wait until each child that was asked has answered.
use Rattle.std.specs.Prelude.{ℕ, ◌+◌, Bool, true, false, ◌==◌, List, [], ◌∷◌, ◌++◌, map, position, slice_get, slice_set, Option, Some, None}
use Rattle.std.specs.List.{list_any}
use Rattle.nsi_primitive.specs.Ids.{id_of}
use Rattle.nsi_primitive.specs.declared.message.Body.{Body}
use Rattle.nsi_primitive.specs.declared.message.Message.{Message}
use Rattle.nsi_primitive.specs.declared.message.RecursiveRow.{RecursiveRow}
use Rattle.connection_record.specs.declared.record.Record.{Record}
use Rattle.child_connection.specs.Views.{ChildConnection}
use Rattle.child_connection.specs.Asks.{to_child}
use Rattle.nsi_query.specs.declared.rows.Rows.{Rows}
use Rattle.nsi_query.specs.Answers.{nested_answer}
use Rattle.nsi_query.specs.Nested.{own_row, nest}
use Rattle.agent_state.specs.declared.parent.OpenQuery.{OpenQuery}
use Rattle.agent_state.specs.declared.parent.Part.{Part}
use Rattle.aggregator_agent.specs.declared.agent.Agent.{Agent}

---- What is known of the children's rows

-- a child that was asked and hasn't answered
abbrev pub is_asked : Part → Bool
is_asked (Part.Asked c) = true
is_asked _ = false

abbrev pub is_asked_under : ℕ → Part → Bool
is_asked_under c (Part.Asked d) = c == d
is_asked_under c _ = false

-- a child that tells nothing has no rows, and others may be missing
abbrev pub rows_of : Part → Rows RecursiveRow
rows_of (Part.Told rows) = rows
rows_of _ = record { rows = []; more = true }

-- the answer: the connection's own row, and behind it those of its children in the order of the segments
abbrev pub nested_reply : List ℕ → Record → OpenQuery → Message
nested_reply agent own q = record { header = q.header; body = nested_answer own.id (nest (own_row agent own) (map rows_of q.parts)) }

---- A query that is taken

-- what is known of the children's rows once they were asked, the requests to them, and the number of the next id
pub record Sought : Type 0 where
  pub parts : List Part
  pub asked : List Message
  pub next : ℕ

abbrev pub seeks_none : ℕ → Sought
seeks_none next = record { parts = []; asked = []; next = next }

-- a child whose id is known is asked under the next id
abbrev pub seek_of : Option ℕ → Agent → ℕ → ChildConnection → Sought
seek_of None agent next x = record { parts = Part.Missing ∷ []; asked = []; next = next }
seek_of (Some id) agent next x =
    record {
      parts = Part.Asked (id_of agent.number next) ∷ [];
      asked = to_child agent.name (id_of agent.number next) x (Body.QueryRecursive id) ∷ [];
      next = next + 1;
    }

abbrev pub seek_one : Agent → ℕ → ChildConnection → Sought
seek_one agent next x = seek_of x.connection agent next x

abbrev pub sought_before : Sought → Sought → Sought
sought_before x rest = record { parts = x.parts ++ rest.parts; asked = x.asked ++ rest.asked; next = rest.next }

-- so is each in the order of the segments, the next with the number that the one before it leaves
unfoldable pub seek : Agent → ℕ → List ChildConnection → Sought
seek agent next [] = seeks_none next
seek agent next (x ∷ xs) = sought_before (seek_one agent next x) (seek agent (seek_one agent next x).next xs)

abbrev pub opened : Message → ℕ → Sought → OpenQuery
opened m place x = record { header = m.header; place = place; parts = x.parts }

---- An answer of a child

-- what a message says of a child's rows; nothing where it is no answer to such a query
unfoldable pub part_of : Body → Option Part
part_of (Body.QueryRecursiveConfirmed connection more rows) = Some (Part.Told (record { rows = rows; more = more }))
part_of (Body.Error connection exception) = Some Part.Missing
part_of _ = None

-- the queries that are open then, and what is said
pub record Heard : Type 0 where
  pub queries : List OpenQuery
  pub out : List Message

abbrev pub hears_nothing : List OpenQuery → Heard
hears_nothing qs = record { queries = qs; out = [] }

-- one child has told its part
abbrev pub told_at : ℕ → Part → OpenQuery → OpenQuery
told_at n p q = record q { parts = slice_set q.parts n p }

-- a query that waits for no child any more is answered, as its connection stands
abbrev pub closes_unless : (waits : Bool) → List ℕ → Record → OpenQuery → List OpenQuery → Heard
closes_unless true agent own q qs = record { queries = q ∷ qs; out = [] }
closes_unless false agent own q qs = record { queries = qs; out = nested_reply agent own q ∷ [] }

abbrev pub closes : List ℕ → Record → OpenQuery → List OpenQuery → Heard
closes agent own q qs = closes_unless (list_any is_asked q.parts) agent own q qs

abbrev pub heard_behind : OpenQuery → Heard → Heard
heard_behind q rest = record { queries = q ∷ rest.queries; out = rest.out }

abbrev pub tells_query : Option Record → Option ℕ → List ℕ → Part → OpenQuery → List OpenQuery → Heard → Heard
tells_query (Some own) (Some n) agent p q qs rest = closes agent own (told_at n p q) qs
tells_query _ _ agent p q qs rest = heard_behind q rest

abbrev pub asked_place : ℕ → OpenQuery → Option ℕ
asked_place c q = position (is_asked_under c) q.parts

-- the first query that waits for an answer under the correlation is told
unfoldable pub tells_first : List ℕ → List Record → ℕ → Part → List OpenQuery → Heard
tells_first agent records c p [] = hears_nothing []
tells_first agent records c p (q ∷ qs) = tells_query (slice_get records q.place) (asked_place c q) agent p q qs (tells_first agent records c p qs)

abbrev pub tells_if : Option Part → List ℕ → List Record → ℕ → List OpenQuery → Heard
tells_if None agent records c qs = hears_nothing qs
tells_if (Some p) agent records c qs = tells_first agent records c p qs

-- the open queries hear a message
abbrev pub hear_below : List ℕ → List Record → Message → List OpenQuery → Heard
hear_below agent records m qs = tells_if (part_of m.body) agent records m.header.correlation qs

-- Calls about the queries that are open, which stand under rising numbers.
use Rattle.std.specs.Prelude.{◌≡◌, ◌<◌, ◌++◌, ℕ, Bool, true, false, List, [], ◌∷◌, length, Option, Some, None, IfSome}
use Rattle.std.specs.BTreeMap.{is_at}
use Rattle.std.specs.Map.{lookup, set_value, remove_entry, values_of}
use Rattle.std.specs.Ordering.{nat_cmp}
use Rattle.nsi_primitive.specs.declared.message.Message.{Message}
use Rattle.connection_record.specs.declared.record.Record.{Record}
use Rattle.agent_state.specs.declared.parent.OpenQuery.{OpenQuery}
use Rattle.agent_state.specs.State.{record_at}
use Rattle.aggregator_agent.specs.declared.open_queries.Told.{Told}
use Rattle.aggregator_agent.specs.declared.seeking.Seeking.{Seeking}
use Rattle.aggregator_agent.specs.Below.{Sought, Heard, nested_reply, hear_below}
use Rattle.aggregator_agent.specs.OpenTable.{AsksNoMore}

abbrev pub sought_by : Seeking → Sought
sought_by x = record { parts = x.parts.items; asked = x.asked.items; next = x.next }

---- What becomes of the query that is told

abbrev pub left_by : (waits : Bool) → ℕ → OpenQuery → List (ℕ × OpenQuery) → List (ℕ × OpenQuery)
left_by true number q es = set_value (is_at (nat_cmp number)) es q
left_by false number q es = remove_entry (is_at (nat_cmp number)) es

abbrev pub left_then : Option Told → List (ℕ × OpenQuery) → List (ℕ × OpenQuery)
left_then None es = es
left_then (Some t) es = left_by t.waits t.number t.query es

abbrev pub said_by : (waits : Bool) → List ℕ → List Record → OpenQuery → List Message
said_by true agent records q = []
said_by false agent records q = nested_reply agent (record_at q.place records) q ∷ []

abbrev pub said_then : List ℕ → List Record → Option Told → List Message
said_then agent records None = []
said_then agent records (Some t) = said_by t.waits agent records t.query

-- it waits for no child for which the query of its number doesn't wait
abbrev pub IsKept : List (ℕ × OpenQuery) → Told → Type 0
IsKept es t = (q : OpenQuery) → lookup (is_at (nat_cmp t.number)) es ≡ Some q → AsksNoMore t.query q

-- what each agent hears is what becomes of the query that is told, where there is one
pub record IsTold (records : List Record) (es : List (ℕ × OpenQuery)) (heard : List ℕ → Heard) (o : Option Told) : Type 0 where
  pub left : (agent : List ℕ) → (heard agent).queries ≡ values_of (left_then o es)
  pub said : (agent : List ℕ) → (heard agent).out ≡ said_then agent records o
  pub own : IfSome o (λ t. t.query.place < length records)
  pub kept : IfSome o (IsKept es)

-- what a message is to the open queries
abbrev pub IsToldBy : List Record → Message → List (ℕ × OpenQuery) → Option Told → Type 0
IsToldBy records m es o = IsTold records es (λ agent. hear_below agent records m (values_of es)) o

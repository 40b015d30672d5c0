-- What an agent says against what it owes: the measure by which it says nothing twice.
use Rattle.std.specs.Prelude.{ℕ, ◌≡◌, ◌≤◌, ◌+◌, Bool, true, false, not, List, ◌==◌, ◌&&◌, ◌||◌, nat_lt, sum_by}
use Rattle.std.specs.Str.{bytes_eq}
use Rattle.nsi_primitive.specs.Ids.{id_of}
use Rattle.nsi_primitive.specs.declared.kind.Kind.{Kind}
use Rattle.nsi_primitive.specs.declared.message.Header.{Header}
use Rattle.nsi_primitive.specs.declared.message.Message.{Message}
use Rattle.message_retry.specs.Taken.{is_taken, is_same_request}
use Rattle.connection_record.specs.declared.record.Record.{Record}
use Rattle.connection_record.specs.Speaking.{one, tally, number_of, is_of, is_asking, is_noting, is_answering, owed}
use Rattle.agent_state.specs.declared.parent.OpenQuery.{OpenQuery}
use Rattle.agent_state.specs.State.{AgentState}

---- What is said

-- an answer under a header, of the kind with a number
abbrev pub answers_to : Header → ℕ → Message → Bool
answers_to h n m = is_answering m.body && (is_same_request h m.header && (n == number_of m.body))

-- what is said under an id that was drawn for it: a request or a notification
abbrev pub is_drawn : ℕ → Message → Bool
is_drawn c m = (is_asking m.body || is_noting m.body) && (c == m.header.correlation)

-- a request or a notification in another's name
abbrev pub is_foreign : List ℕ → Message → Bool
is_foreign name m = (is_asking m.body && not (bytes_eq name m.header.requester)) || (is_noting m.body && not (bytes_eq name m.header.provider))

---- What is owed

-- so many, or none
abbrev pub times : Bool → ℕ → ℕ
times true n = n
times false n = 0

-- the answers that a record of an agent may still give under a header
unfoldable pub owed_under : List ℕ → Header → ℕ → Record → ℕ
owed_under name h n r = times (bytes_eq h.requester r.owner && bytes_eq h.provider name) (owed h.correlation n r)

-- those that its records may still give
unfoldable pub owed_by : List ℕ → Header → ℕ → List Record → ℕ
owed_by name h n rs = sum_by (owed_under name h n) rs

-- a query that waits owes one answer under its header, of the kind that answers it
abbrev pub owes_rows : Header → ℕ → OpenQuery → Bool
owes_rows h n q = is_same_request h q.header && is_of Kind.QueryRecursiveConfirmed n

-- those that the queries which wait may still give
abbrev pub owed_below : Header → ℕ → List OpenQuery → ℕ
owed_below h n qs = tally (owes_rows h n) qs

-- all that an agent may still give: what its records owe, and its queries
abbrev pub owed_in : List ℕ → Header → ℕ → AgentState → ℕ
owed_in name h n s = owed_by name h n s.base.records + owed_below h n s.queries

-- whether a request was taken, as a number
unfoldable pub took : Header → List Header → ℕ
took h seen = one (is_taken h seen)

-- a record that has an id
abbrev pub has_id : ℕ → Record → Bool
has_id c r = c == r.id

-- whether an id was drawn before the one with a number, as a number
unfoldable pub before : (number next c : ℕ) → ℕ
before number next c = one (nat_lt c (id_of number next))

---- Steps

-- What is said and still owed under a header was owed, or is of a request that is taken; what is said under an id, and each new record,
-- has one that was drawn for it alone; and requests and notifications go in the agent's own name.
pub record SaysWhatItOwes (name : List ℕ) (number : ℕ) (old new : AgentState) (out : List Message) : Type 0 where
  pub answers : (h : Header) (n : ℕ) → tally (answers_to h n) out + (owed_in name h n new + took h old.base.seen) ≤ owed_in name h n old + took h new.base.seen
  pub drawn : (c : ℕ) → tally (is_drawn c) out + (tally (has_id c) new.base.records + before number old.base.next c) ≤ tally (has_id c) old.base.records + before number new.base.next c
  pub own : tally (is_foreign name) out ≡ 0

-- What was said and is still owed under a header is of a request that was taken, and of each kind at most one; each id was used once, by a
-- request, a notification or a record; and requests and notifications went in the agent's own name.
pub record HasSaidOnce (name : List ℕ) (number : ℕ) (s : AgentState) (out : List Message) : Type 0 where
  pub answers : (h : Header) (n : ℕ) → tally (answers_to h n) out + owed_in name h n s ≤ took h s.base.seen
  pub drawn : (c : ℕ) → tally (is_drawn c) out + tally (has_id c) s.base.records ≤ before number s.base.next c
  pub own : tally (is_foreign name) out ≡ 0

-- What an aggregator tells of its connections.
use Rattle.std.specs.Prelude.{ℕ, List, map, Option, Some, None, option_and_then}
use Rattle.std.specs.List.{zip}
use Rattle.nsi_primitive.specs.Messages.{connection_of}
use Rattle.nsi_primitive.specs.declared.message.Body.{Body}
use Rattle.nsi_primitive.specs.declared.message.Message.{Message}
use Rattle.connection_record.specs.Refusal.{place_of}
use Rattle.nsi_query.specs.Answers.{answer_about, summary_answer}
use Rattle.nsi_query.specs.Summary.{Shown, summary}
use Rattle.agent_state.specs.State.{AgentState, record_at, children_at}
use Rattle.aggregator_agent.specs.Turns.{joined_of}

-- a connection carries traffic where all its children's do
abbrev pub shown_at : ℕ → AgentState → Shown
shown_at n s = (record_at n s.base.records, joined_of (children_at n s.children))

abbrev pub all_shown : AgentState → List Shown
all_shown s = zip s.base.records (map joined_of s.children)

-- a query without a connection is about all of its requester's
abbrev pub answer_by : Option ℕ → List ℕ → AgentState → Message → Option Body
answer_by None agent s m = Some (summary_answer (summary m.header.requester (all_shown s)))
answer_by (Some id) agent s m = option_and_then (λ n. answer_about agent (shown_at n s) m.body) (place_of id m.header.requester s.base.records)

-- what an aggregator answers to a query: nothing where its requester has no connection with that id
abbrev pub answer_to : List ℕ → AgentState → Message → Option Body
answer_to agent s m = answer_by (connection_of m.body) agent s m

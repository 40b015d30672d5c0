-- An aggregator's fields as a standing.
use Rattle.std.specs.Prelude.{ℕ, [], List}
use Rattle.std.specs.Map.{values_of}
use Rattle.agent_state.specs.declared.parent.OpenQuery.{OpenQuery}
use Rattle.agent_state.specs.State.{AgentState}
use Rattle.aggregator_agent.specs.declared.aggregator_core.Core.{Core}
use Rattle.aggregator_agent.specs.declared.outbox.Outbox.{Outbox}
use Rattle.aggregator_agent.specs.Bonds.{Bond, records_of, children_of}
use Rattle.aggregator_agent.specs.Setting.{Standing}

-- the state whose connections are these, and its open queries
abbrev pub state_of : List Bond → Outbox → List OpenQuery → (next now taken : ℕ) → AgentState
state_of bs o queries next now taken =
    record {
      base =
          record {
            records = records_of bs;
            seen = o.retry.seen;
            heard = o.retry.heard;
            waiting = o.retry.waiting;
            next = next;
            now = now;
            taken = taken;
          };
      children = children_of bs;
      dues = o.dues;
      queries = queries;
      views = [];
    }

abbrev pub state_at : Core → AgentState
state_at d = state_of d.connections d.outbox (values_of d.queries) d.next d.now d.taken

abbrev pub standing_at : Core → Standing
standing_at d = record { agent = d.agent; state = state_at d }

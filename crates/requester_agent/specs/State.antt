-- A requester as its contracts see it.
use Rattle.agent_state.specs.State.{AgentState}
use Rattle.requester_agent.specs.Setting.{Setting}

-- what the topology says to it, and what it keeps: it has no records, no children and no late requests
pub record Standing : Type 0 where
  pub setting : Setting
  pub state : AgentState

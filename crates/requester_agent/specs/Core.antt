-- A requester's fields as a standing, and what is true of them.
use Rattle.std.specs.Prelude.{[]}
use Rattle.agent_state.specs.State.{State, AgentState}
use Rattle.requester_agent.specs.declared.requester_core.Core.{Core}
use Rattle.requester_agent.specs.Setting.{Setting}
use Rattle.requester_agent.specs.State.{Standing}

abbrev pub setting_at : Core → Setting
setting_at d = record { name = d.name; number = d.number; provider = d.provider }

abbrev pub base_at : Core → State
base_at d = record { records = []; seen = d.retry.seen; heard = d.retry.heard; waiting = d.retry.waiting; next = d.next; now = d.now; taken = d.taken }

abbrev pub state_at : Core → AgentState
state_at d = record { base = base_at d; children = []; dues = []; queries = []; views = d.views }

abbrev pub standing_at : Core → Standing
standing_at d = record { setting = setting_at d; state = state_at d }

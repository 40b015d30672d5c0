-- A provider as its contracts see it.
pub use Rattle.agent_state.specs.State.{State, Stepped, blank, unchanged, says, counts, no_record, record_at, name_or}
use Rattle.provider_agent.specs.Setting.{Setting}

pub record Standing : Type 0 where
  pub setting : Setting
  pub state : State

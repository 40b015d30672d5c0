use Rattle.circuit_laws.proofs.Whole.{nothing_is_safe}
use Rattle.circuit_laws.proofs.safety.nothing_safe.Goals as goal

pub returns : goal.returns
returns c = nothing_is_safe c.every_run_safe_at_each_agent.ensures

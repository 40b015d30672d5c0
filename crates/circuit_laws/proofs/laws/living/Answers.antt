use Rattle.circuit_laws.proofs.Living.{children_live}
use Rattle.circuit_laws.proofs.laws.living.Goals as goal

pub returns : goal.returns
returns c = children_live c.agents.ensures.own

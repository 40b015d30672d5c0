use Rattle.circuit_laws.proofs.Agreement.{children_have_the_criteria}
use Rattle.circuit_laws.proofs.laws.criteria.Goals as goal

pub returns : goal.returns
returns c = children_have_the_criteria c.agents.ensures.own

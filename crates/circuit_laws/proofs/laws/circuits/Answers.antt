use Rattle.circuit_laws.proofs.Standing.{circuits_stand}
use Rattle.circuit_laws.proofs.laws.circuits.Goals as goal

pub returns : goal.returns
returns c = circuits_stand c.least_path_or_none.ensures c.agents.ensures.own c.sent.ensures.heard c.views.ensures.backed c.living.ensures c.opened.ensures.between c.criteria.ensures

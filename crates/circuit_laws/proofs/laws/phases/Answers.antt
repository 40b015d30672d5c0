use Rattle.circuit_laws.proofs.Requesters.{views_have_phases}
use Rattle.circuit_laws.proofs.Aggregators.{children_have_phases}
use Rattle.circuit_laws.proofs.laws.phases.Goals as goal

pub returns-clause-views : goal.returns-clause-views
returns-clause-views c = views_have_phases

pub returns-clause-children : goal.returns-clause-children
returns-clause-children c = children_have_phases

use Rattle.circuit_laws.proofs.Requesters.{views_are_in_step}
use Rattle.circuit_laws.proofs.Aggregators.{children_are_in_step}
use Rattle.circuit_laws.proofs.laws.steps.Goals as goal

pub returns-clause-views : goal.returns-clause-views
returns-clause-views c = views_are_in_step

pub returns-clause-children : goal.returns-clause-children
returns-clause-children c = children_are_in_step

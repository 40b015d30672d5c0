use Rattle.circuit_laws.proofs.Requesters.{views_are_backed}
use Rattle.circuit_laws.proofs.Aggregators.{children_are_backed}
use Rattle.circuit_laws.proofs.laws.backing.Goals as goal

pub returns-clause-views : goal.returns-clause-views
returns-clause-views c = views_are_backed c.sent.ensures.heard

pub returns-clause-children : goal.returns-clause-children
returns-clause-children c = children_are_backed c.sent.ensures.heard

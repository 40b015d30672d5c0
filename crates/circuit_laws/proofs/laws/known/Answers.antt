use Rattle.circuit_laws.proofs.Requesters.{views_know_their_own}
use Rattle.circuit_laws.proofs.Aggregators.{children_know_their_own}
use Rattle.circuit_laws.proofs.Standing.{records_are_apart}
use Rattle.circuit_laws.proofs.laws.known.Goals as goal

pub returns-clause-views : goal.returns-clause-views
returns-clause-views c = views_know_their_own

pub returns-clause-children : goal.returns-clause-children
returns-clause-children c = children_know_their_own

pub returns-clause-records : goal.returns-clause-records
returns-clause-records c = records_are_apart

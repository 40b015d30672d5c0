use Rattle.circuit_laws.proofs.Between.{children_are_between}
use Rattle.circuit_laws.proofs.Opened.{records_were_opened}
use Rattle.circuit_laws.proofs.Points.{records_have_the_points}
use Rattle.circuit_laws.proofs.laws.opened.Goals as goal

pub returns-clause-by : goal.returns-clause-by
returns-clause-by c = records_were_opened c.sent.ensures.heard

pub returns-clause-points : goal.returns-clause-points
returns-clause-points c = records_have_the_points c.sent.ensures.heard

pub returns-clause-between : goal.returns-clause-between
returns-clause-between c = children_are_between

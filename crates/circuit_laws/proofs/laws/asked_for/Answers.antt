use Rattle.circuit_laws.proofs.Criteria.{criteria_were_asked_for}
use Rattle.circuit_laws.proofs.laws.asked_for.Goals as goal

pub returns : goal.returns
returns c = criteria_were_asked_for c.sent.ensures.heard c.starts.ensures

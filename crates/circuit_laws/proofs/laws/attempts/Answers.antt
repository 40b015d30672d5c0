use Rattle.circuit_laws.proofs.Attempts.{attempts_were_asked_for}
use Rattle.circuit_laws.proofs.laws.attempts.Goals as goal

pub returns : goal.returns
returns c = attempts_were_asked_for c.sent.ensures.heard c.starts.ensures

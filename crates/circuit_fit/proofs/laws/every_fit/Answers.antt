use Rattle.circuit_fit.proofs.Entering.{entries_keep_fit, entries_keep_ended}
use Rattle.circuit_fit.proofs.laws.every_fit.Goals as goal

pub returns-clause-fit : goal.returns-clause-fit
returns-clause-fit c = entries_keep_fit

pub returns-clause-ended : goal.returns-clause-ended
returns-clause-ended c = entries_keep_ended

use Rattle.trace_safety.proofs.Telling.{runs_found, runs_verified}
use Rattle.trace_safety.proofs.laws.runs_are_found.Goals as goal

pub returns-clause-found : goal.returns-clause-found
returns-clause-found c = runs_found

pub returns-clause-verified : goal.returns-clause-verified
returns-clause-verified c = runs_verified

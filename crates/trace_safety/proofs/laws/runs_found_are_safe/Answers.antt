use Rattle.trace_safety.proofs.Found.{found_safe}
use Rattle.trace_safety.proofs.laws.runs_found_are_safe.Goals as goal

pub returns : goal.returns
returns c = found_safe c.every_run_safe.ensures

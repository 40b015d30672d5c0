use Rattle.run_growth.proofs.Versions.{in_step_rises}
use Rattle.run_growth.proofs.laws.in_step.Goals as goal

pub returns : goal.returns
returns c = in_step_rises

use Rattle.run_growth.proofs.Grown.{cuts_are_grown}
use Rattle.run_growth.proofs.laws.cuts.Goals as goal

pub returns : goal.returns
returns c = cuts_are_grown

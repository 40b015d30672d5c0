use Rattle.run_growth.proofs.Honest.{runs_are_capped}
use Rattle.run_growth.proofs.laws.capped.Goals as goal

pub returns : goal.returns
returns c = runs_are_capped c.every_agent.ensures.good

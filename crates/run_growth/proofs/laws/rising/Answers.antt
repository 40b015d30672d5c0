use Rattle.run_growth.proofs.Fronts.{synced_stays}
use Rattle.run_growth.proofs.Risen.{runs_are_rising}
use Rattle.run_growth.proofs.laws.rising.Goals as goal

pub returns-clause-rise : goal.returns-clause-rise
returns-clause-rise c = runs_are_rising c.every_agent.ensures.rise

pub returns-clause-stay : goal.returns-clause-stay
returns-clause-stay c = synced_stays c.every_agent.ensures.leave

use Rattle.run_growth.proofs.Honest.{runs_are_honest}
use Rattle.run_growth.proofs.Alone.{nothing_else_refuses}
use Rattle.run_growth.proofs.laws.honest.Goals as goal

pub returns-clause-checks : goal.returns-clause-checks
returns-clause-checks c = runs_are_honest c.every_agent.ensures.good

pub returns-clause-alone : goal.returns-clause-alone
returns-clause-alone c = nothing_else_refuses c.every_agent.ensures.good c.every_message.ensures.own c.every_message.ensures.named

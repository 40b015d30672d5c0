use Rattle.provider_agent.proofs.GoodAfter.{good_blank}
use Rattle.provider_agent.proofs.RunsSafe.{every_run_safe}
use Rattle.provider_agent.proofs.laws.every_run_safe.Goals as goal

pub returns-clause-first : goal.returns-clause-first
returns-clause-first c = good_blank

pub returns-clause-safe : goal.returns-clause-safe
returns-clause-safe c = every_run_safe

use Rattle.provider_agent.specs.State.{blank}
use Rattle.provider_agent.proofs.EventsSafe.{agent_run_safe, allowed_safe, stays_caused, may_enter, left_out}
use Rattle.provider_agent.proofs.laws.every_agent_run_safe.Goals as goal

pub returns-clause-safe : goal.returns-clause-safe
returns-clause-safe c = agent_run_safe

pub returns-clause-of_any_entries : goal.returns-clause-of_any_entries
returns-clause-of_any_entries c = allowed_safe

pub returns-clause-messages : goal.returns-clause-messages
returns-clause-messages c = stays_caused

pub returns-clause-taken : goal.returns-clause-taken
returns-clause-taken c = may_enter

pub returns-clause-left_out : goal.returns-clause-left_out
returns-clause-left_out c = λ setting stp_of front back e unfit. left_out setting stp_of blank front back e unfit

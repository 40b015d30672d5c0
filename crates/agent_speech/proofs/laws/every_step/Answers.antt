use Rattle.agent_speech.proofs.Every.{entries_say_what_is_owed, nothing_is_said_twice}
use Rattle.agent_speech.proofs.Spoken.{answers_were_asked}
use Rattle.agent_speech.proofs.laws.every_step.Goals as goal

pub returns-clause-step : goal.returns-clause-step
returns-clause-step c = entries_say_what_is_owed

pub returns-clause-telling : goal.returns-clause-telling
returns-clause-telling c = nothing_is_said_twice

pub returns-clause-asked : goal.returns-clause-asked
returns-clause-asked c = answers_were_asked

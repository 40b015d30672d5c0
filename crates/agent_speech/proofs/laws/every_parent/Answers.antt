use Rattle.agent_speech.proofs.Every.{entries_hold_what_is_asked, what_is_asked_is_held}
use Rattle.agent_speech.proofs.Spoken.{one_holds_it}
use Rattle.agent_speech.proofs.laws.every_parent.Goals as goal

pub returns-clause-step : goal.returns-clause-step
returns-clause-step c = entries_hold_what_is_asked

pub returns-clause-telling : goal.returns-clause-telling
returns-clause-telling c = what_is_asked_is_held

pub returns-clause-once : goal.returns-clause-once
returns-clause-once c = one_holds_it

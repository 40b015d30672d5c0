use Rattle.agent_speech.proofs.Fair.{ids_are_apart, nothing_unasked, holds_were_asked}
use Rattle.agent_speech.proofs.laws.every_record.Goals as goal

pub returns-clause-ids : goal.returns-clause-ids
returns-clause-ids c = ids_are_apart

pub returns-clause-unasked : goal.returns-clause-unasked
returns-clause-unasked c = nothing_unasked

pub returns-clause-holds : goal.returns-clause-holds
returns-clause-holds c = holds_were_asked

use Rattle.provider_agent.proofs.Entering.{batch_allowed, batch_journal, batch_caused}
use Rattle.provider_agent.proofs.laws.batches_are_allowed.Goals as goal

pub returns-clause-allowed : goal.returns-clause-allowed
returns-clause-allowed c = batch_allowed

pub returns-clause-synced : goal.returns-clause-synced
returns-clause-synced c = batch_journal

pub returns-clause-messages : goal.returns-clause-messages
returns-clause-messages c = batch_caused

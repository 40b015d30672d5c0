use Rattle.request_answers.proofs.Providers.{providers_answer_or_work, idle_providers_have_answered}
use Rattle.request_answers.proofs.laws.providers.Goals as goal

pub returns-clause-or_works : goal.returns-clause-or_works
returns-clause-or_works c = providers_answer_or_work

pub returns-clause-idle : goal.returns-clause-idle
returns-clause-idle c = idle_providers_have_answered

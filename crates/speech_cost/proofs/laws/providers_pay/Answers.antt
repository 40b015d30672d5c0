use Rattle.speech_cost.proofs.Providing.{entries_paid, told_paid}
use Rattle.speech_cost.proofs.laws.providers_pay.Goals as goal

pub returns-clause-entries : goal.returns-clause-entries
returns-clause-entries c = entries_paid

pub returns-clause-telling : goal.returns-clause-telling
returns-clause-telling c = told_paid

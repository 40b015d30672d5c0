use Rattle.speech_cost.proofs.Aggregating.{entries_paid, told_paid}
use Rattle.speech_cost.proofs.laws.aggregators_pay.Goals as goal

pub returns-clause-entries : goal.returns-clause-entries
returns-clause-entries c = entries_paid

pub returns-clause-telling : goal.returns-clause-telling
returns-clause-telling c = told_paid

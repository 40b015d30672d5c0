use Rattle.request_answers.proofs.Aggregators.{aggregators_answer_or_wait}
use Rattle.request_answers.proofs.laws.aggregators.Goals as goal

pub returns : goal.returns
returns c = aggregators_answer_or_wait

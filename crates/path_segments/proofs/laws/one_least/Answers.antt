use Rattle.path_segments.proofs.OneLeast.{one_least as only_one}
use Rattle.path_segments.proofs.laws.one_least.Goals as goal

pub returns : goal.returns
returns c = λ t aggregator source dest xs ys l g. only_one t aggregator source dest xs ys l g

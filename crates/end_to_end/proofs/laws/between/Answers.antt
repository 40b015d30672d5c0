use Rattle.end_to_end.proofs.Between.{views_are_between}
use Rattle.end_to_end.proofs.laws.between.Goals as goal

pub returns : goal.returns
returns c = views_are_between

use Rattle.way_reach.proofs.Reaching.{reach_is_a_sum as it_is}
use Rattle.way_reach.proofs.laws.reach_is_a_sum.Goals as goal

pub returns : goal.returns
returns c = it_is

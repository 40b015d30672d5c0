use Rattle.requester_views.proofs.Between.{views_are_between}
use Rattle.requester_views.proofs.laws.between.Goals as goal

pub returns : goal.returns
returns c = views_are_between

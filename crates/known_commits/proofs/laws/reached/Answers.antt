use Rattle.known_commits.proofs.Reached.{confirmations_are_reached}
use Rattle.known_commits.proofs.laws.reached.Goals as goal

pub returns : goal.returns
returns c = confirmations_are_reached c.least_path_or_none.ensures c.routes_exist.ensures.exist

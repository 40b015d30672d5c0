use Rattle.least_routes.proofs.Ways.{least_path_or_none as there_or_none}
use Rattle.least_routes.proofs.laws.least_path_or_none.Goals as goal

pub returns : goal.returns
returns c = there_or_none

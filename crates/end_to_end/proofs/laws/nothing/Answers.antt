use Rattle.end_to_end.proofs.Together.{nothing_stands}
use Rattle.end_to_end.proofs.laws.nothing.Goals as goal

pub returns : goal.returns
returns c = nothing_stands

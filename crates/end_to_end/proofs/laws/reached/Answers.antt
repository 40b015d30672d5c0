use Rattle.end_to_end.proofs.Pointing.{told_points}
use Rattle.end_to_end.proofs.Versions.{it_is_reached}
use Rattle.end_to_end.proofs.laws.reached.Goals as goal

pub returns : goal.returns
returns c = it_is_reached told_points c.sent.ensures.heard c.known.ensures.records c.circuits.ensures c.reached.ensures

use Rattle.end_to_end.proofs.Together.{every_run_stands}
use Rattle.end_to_end.proofs.laws.every_run.Goals as goal

pub returns : goal.returns
returns c = every_run_stands c.end_to_end.ensures.connections c.end_to_end.ensures.versions

use Rattle.stopped_play.proofs.Calm.{calm_tapes, calm_plays}
use Rattle.stopped_play.proofs.laws.calm.Goals as goal

pub returns-clause-tapes : goal.returns-clause-tapes
returns-clause-tapes c = calm_tapes

pub returns-clause-plays : goal.returns-clause-plays
returns-clause-plays c = calm_plays

use Rattle.answered_play.proofs.Plays.{play_answers}
use Rattle.answered_play.proofs.laws.every_play.Goals as goal

pub returns : goal.returns
returns c = play_answers c.at_rest.ensures c.play_runs.ensures.whole c.play_runs.ensures.rests

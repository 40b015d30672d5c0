use Rattle.answered_play.proofs.Coming.{play_brings_answers}
use Rattle.answered_play.proofs.laws.every_lossless_play.Goals as goal

pub returns : goal.returns
returns c = play_brings_answers c.sent.ensures.heard c.requests.ensures c.play_runs.ensures.whole c.settled.ensures.each c.every_play.ensures

use Rattle.stopped_play.proofs.Leaving.{stopped_settles}
use Rattle.stopped_play.proofs.laws.settled.Goals as goal

pub returns : goal.returns
returns c = stopped_settles (record { own = c.agents.ensures.own; once = c.agents.ensures.once; printable = c.agents.ensures.printable }) c.every_step.ensures.telling

use Rattle.stopped_play.proofs.Asks.{stopped_asks}
use Rattle.stopped_play.proofs.laws.asks_whole.Goals as goal

pub returns : goal.returns
returns c = stopped_asks (record { own = c.agents.ensures.own; once = c.agents.ensures.once; printable = c.agents.ensures.printable })

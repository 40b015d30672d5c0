use Rattle.stopped_play.proofs.Runs.{stopped_stands, stopped_rests}
use Rattle.stopped_play.proofs.Asks.{stopped_runs}
use Rattle.stopped_play.proofs.laws.runs.Goals as goal

pub returns-clause-front : goal.returns-clause-front
returns-clause-front c = stopped_runs (record { own = c.agents.ensures.own; once = c.agents.ensures.once; printable = c.agents.ensures.printable })

pub returns-clause-stands : goal.returns-clause-stands
returns-clause-stands c = stopped_stands (record { own = c.agents.ensures.own; once = c.agents.ensures.once; printable = c.agents.ensures.printable })

pub returns-clause-rests : goal.returns-clause-rests
returns-clause-rests c = stopped_rests (record { own = c.agents.ensures.own; once = c.agents.ensures.once; printable = c.agents.ensures.printable })

use Rattle.nsi_world.proofs.RunLaws.{play_runs, play_is_run, play_stands, play_rests}
use Rattle.nsi_world.proofs.laws.play_runs.Goals as goal

pub returns-clause-front : goal.returns-clause-front
returns-clause-front c = play_runs (record { own = c.agents.ensures.own; once = c.agents.ensures.once; printable = c.agents.ensures.printable })

pub returns-clause-whole : goal.returns-clause-whole
returns-clause-whole c = play_is_run (record { own = c.agents.ensures.own; once = c.agents.ensures.once; printable = c.agents.ensures.printable })

pub returns-clause-stands : goal.returns-clause-stands
returns-clause-stands c = play_stands (record { own = c.agents.ensures.own; once = c.agents.ensures.once; printable = c.agents.ensures.printable })

pub returns-clause-rests : goal.returns-clause-rests
returns-clause-rests c = play_rests (record { own = c.agents.ensures.own; once = c.agents.ensures.once; printable = c.agents.ensures.printable })

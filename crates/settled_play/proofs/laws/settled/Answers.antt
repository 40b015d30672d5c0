use Rattle.settled_play.proofs.Leaving.{play_settles, play_leaves_none}
use Rattle.settled_play.proofs.laws.settled.Goals as goal

pub returns-clause-counts : goal.returns-clause-counts
returns-clause-counts c = play_settles (record { own = c.agents.ensures.own; once = c.agents.ensures.once; printable = c.agents.ensures.printable }) c.every_step.ensures.telling c.play_runs.ensures.stands c.play_runs.ensures.rests

pub returns-clause-each : goal.returns-clause-each
returns-clause-each c = play_leaves_none (record { own = c.agents.ensures.own; once = c.agents.ensures.once; printable = c.agents.ensures.printable }) c.every_step.ensures.telling c.play_runs.ensures.stands c.play_runs.ensures.rests

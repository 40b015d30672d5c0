use Rattle.nsi_world.proofs.RunLaws.{turn_runs as lemma}
use Rattle.nsi_world.proofs.laws.turn_runs.Goals as goal

pub returns : goal.returns
returns c = lemma (record { own = c.agents.ensures.own; once = c.agents.ensures.once; printable = c.agents.ensures.printable })

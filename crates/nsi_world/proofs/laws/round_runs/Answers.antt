use Rattle.nsi_world.proofs.RunLaws.{round_runs as lemma}
use Rattle.nsi_world.proofs.laws.round_runs.Goals as goal

pub returns : goal.returns
returns c = lemma (record { own = c.agents.ensures.own; once = c.agents.ensures.once; printable = c.agents.ensures.printable })

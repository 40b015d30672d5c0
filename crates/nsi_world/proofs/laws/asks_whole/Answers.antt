use Rattle.nsi_world.proofs.RunLaws.{asks_whole as lemma}
use Rattle.nsi_world.proofs.laws.asks_whole.Goals as goal

pub returns : goal.returns
returns c = lemma (record { own = c.agents.ensures.own; once = c.agents.ensures.once; printable = c.agents.ensures.printable })

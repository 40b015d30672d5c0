use Rattle.nsi_world.proofs.RunLaws.{requests_are_one as lemma}
use Rattle.nsi_world.proofs.laws.requests.Goals as goal

pub returns : goal.returns
returns c = lemma (record { own = c.agents.ensures.own; once = c.agents.ensures.once; printable = c.agents.ensures.printable })

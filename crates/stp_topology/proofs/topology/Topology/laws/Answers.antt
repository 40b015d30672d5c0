use Rattle.stp_topology.proofs.LawLemmas.{well_formed}
use Rattle.stp_topology.proofs.topology.Topology.laws.Goals as goal

pub returns : goal.returns
returns c = well_formed c.args.self.now c.facts.ensures

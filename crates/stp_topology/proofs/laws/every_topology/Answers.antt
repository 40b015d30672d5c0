use Rattle.stp_topology.proofs.LawLemmas.{well_formed}
use Rattle.stp_topology.proofs.TextSound.{text_sound}
use Rattle.stp_topology.proofs.laws.every_topology.Goals as goal

pub returns : goal.returns
returns c = record {
  sound = text_sound;
  well_formed = λ text t place h. well_formed t (text_sound text t place h);
}

use Rattle.std.proofs.Common.{refl}
use Rattle.stp_topology.proofs.MarkLemmas.{none_marked}
use Rattle.stp_topology.proofs.child_lines.parents.Goals as goal

pub loop-e-init : goal.loop-e-init
loop-e-init c = record { marks = λ x. none_marked 64 x; all = refl }

use Rattle.stp_topology.proofs.LineSound.{line_sound}
use Rattle.stp_topology.proofs.topology.Topology.take_line.Goals as goal

pub invariant_of-result : goal.invariant_of-result
invariant_of-result c = line_sound c.self-2.inside.network c.declare.new.self _ c.self-2.invariant c.in_ok-declare.ensures

use Rattle.std.proofs.Common.{◌≡◌, map, take}
use Rattle.aggregator_agent.specs.Turns.{plane_of}
use Rattle.aggregator_agent.proofs.planes.planes_of.Given as goal

abbrev pub invariant-loop-child : goal.invariant-loop-child
invariant-loop-child l = l.planes.items ≡ map plane_of (take l.child-index l.children)

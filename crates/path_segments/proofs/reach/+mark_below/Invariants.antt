use Rattle.std.proofs.Common.{◌≡◌, ◌-◌, length}
use Rattle.stp_topology.specs.Network.{children_of}
use Rattle.path_segments.proofs.Below.{Marked}
use Rattle.path_segments.proofs.reach.+mark_below.Given as goal

abbrev pub decreases-mark_below : goal.decreases-mark_below
decreases-mark_below l = l.depth

abbrev pub invariant-loop-child : goal.invariant-loop-child
invariant-loop-child l = record {
  same_length : length l.marks.items ≡ length l.fn.marks.items;
  marked : Marked l.topology (l.depth - 1) (children_of l.topology l.fn.agent) l.fn.agent l.child-index l.fn.marks.items l.marks.items;
}

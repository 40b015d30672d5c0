use Rattle.std.proofs.Common.{◌≡◌, List, ◌++◌, Some}
use Rattle.path_segments.specs.declared.path.PlacedSegment.{PlacedSegment}
use Rattle.stp_topology.specs.Network.{partner_of}
use Rattle.path_segments.specs.Steps.{at, Follows}
use Rattle.path_segments.proofs.least_path.follow.Given as goal

abbrev pub invariant-loop-segments : goal.invariant-loop-segments
invariant-loop-segments l = record {
  here : at l.steps l.entry ≡ Some l.step;
  completes : (xs : List PlacedSegment) → Follows (at l.steps) (partner_of l.topology) l.dest l.entry xs → Follows (at l.steps) (partner_of l.topology) l.dest l.source (l.segments.items ++ xs);
}

abbrev pub decreases-loop-segments : goal.decreases-loop-segments
decreases-loop-segments l = l.step.rest

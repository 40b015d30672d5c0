use Rattle.std.proofs.Common.{◌≡◌, length}
use Rattle.path_segments.specs.Searches.{AreListed}
use Rattle.path_segments.proofs.points.points_by_owner.Given as goal

abbrev pub invariant-loop-point : goal.invariant-loop-point
invariant-loop-point l = record {
  size : length l.lists.items ≡ length l.topology.agents;
  listed : AreListed l.topology l.point l.lists.items;
}

use Rattle.std.proofs.Common.{◌≡◌, ℕ, [], get_or, length}
use Rattle.path_segments.proofs.points.no_points.Given as goal

abbrev pub invariant-loop-owner : goal.invariant-loop-owner
invariant-loop-owner l = record {
  same_length : length l.lists.items ≡ l.owner;
  none : (b : ℕ) → get_or l.lists.items b [] ≡ [];
}

use Rattle.std.proofs.Common.{◌≡◌, ◌≤◌, ◌-◌, map, take}
use Rattle.stp_topology.specs.Rank.{rank_to, greatest}
use Rattle.stp_topology.proofs.rank.+rank_to.Given as goal

abbrev pub decreases-rank_to : goal.decreases-rank_to
decreases-rank_to l = l.n

abbrev pub invariant-loop-child : goal.invariant-loop-child
invariant-loop-child l = record {
  rank : l.greatest ≡ greatest (map (λ c. rank_to (l.n - 1) l.network c) (take l.child-index l.child-items));
  within : l.greatest ≤ l.n - 1;
}

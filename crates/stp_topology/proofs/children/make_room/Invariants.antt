use Rattle.std.proofs.Common.{◌≡◌, ◌≤◌, ℕ, [], get_or, length}
use Rattle.stp_topology.proofs.children.make_room.Given as goal

abbrev pub invariant-loop-n : goal.invariant-loop-n
invariant-loop-n l = record {
  same : (a : ℕ) → get_or l.by_parent.items a [] ≡ get_or l.initial.by_parent.items a [];
  room : l.n ≤ length l.by_parent.items;
}

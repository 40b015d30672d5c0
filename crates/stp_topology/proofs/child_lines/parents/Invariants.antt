use Rattle.std.proofs.Common.{◌≡◌, ℕ, ◌==◌, ◌&&◌, false, get_or, take, length}
use Rattle.std.specs.List.{list_any}
use Rattle.stp_topology.proofs.child_lines.parents.Given as goal

abbrev pub invariant-loop-e : goal.invariant-loop-e
invariant-loop-e l = record {
  marks : (x : ℕ) → get_or l.above x false ≡ list_any (λ e. (e.0 == x) && get_or l.marked e.1 false) (take l.e-index l.pairs);
  all : length l.above ≡ 64;
}

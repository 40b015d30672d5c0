use Rattle.std.proofs.Common.{◌≡◌, ℕ, ◌==◌, ◌&&◌, Bool, false, get_or, take, length}
use Rattle.std.specs.List.{list_any}
use Rattle.stp_topology.specs.Lines.{is_aggregator}
use Rattle.stp_topology.proofs.child_lines.parents_of_aggregators.Given as goal

abbrev pub invariant-loop-e : goal.invariant-loop-e
invariant-loop-e l = record {
  marks : (d : Bool) → (x : ℕ) → get_or l.above x false ≡ list_any (λ e. (e.0 == x) && (is_aggregator l.kinds e.1 && get_or l.marked e.1 d)) (take l.e-index l.pairs);
  all : length l.above ≡ 64;
}

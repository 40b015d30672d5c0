use Rattle.std.proofs.Common.{◌≡◌, ◌+◌, ℕ, false, get_or}
use Rattle.stp_topology.specs.Lines.{stands_over}
use Rattle.stp_topology.proofs.child_lines.tops.Given as goal

abbrev pub invariant-loop-n : goal.invariant-loop-n
invariant-loop-n l = (x : ℕ) → get_or l.marked x false ≡ stands_over l.kinds l.pairs (l.n + 1) x

use Rattle.std.proofs.Common.{◌≡◌, ℕ, false, get_or}
use Rattle.stp_topology.specs.Lines.{leads_down}
use Rattle.stp_topology.proofs.child_lines.leads_down.Given as goal

abbrev pub invariant-loop-n : goal.invariant-loop-n
invariant-loop-n l = (x : ℕ) → get_or l.marked x false ≡ leads_down l.pairs l.n x l.to

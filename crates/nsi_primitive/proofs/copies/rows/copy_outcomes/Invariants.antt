use Rattle.std.proofs.Common.{◌≡◌, take}
use Rattle.nsi_primitive.proofs.copies.rows.copy_outcomes.Given as goal

abbrev pub invariant-loop-outcome : goal.invariant-loop-outcome
invariant-loop-outcome l = l.copy ≡ take l.outcome-index l.outcome-items

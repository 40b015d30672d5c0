use Rattle.std.proofs.Common.{◌≡◌, take}
use Rattle.connection_record.proofs.copies.copy_criteria.Given as goal

abbrev pub invariant-loop-criteria : goal.invariant-loop-criteria
invariant-loop-criteria l = l.copy ≡ take l.criteria-index l.criteria-items

use Rattle.std.proofs.Common.{◌≡◌, ◌++◌, drop}
use Rattle.journal_entry.proofs.batch.Batch.of.Given as goal

abbrev pub invariant-loop-entry : goal.invariant-loop-entry
invariant-loop-entry l = l.batch ++ drop l.entry-index l.entries ≡ l.entries

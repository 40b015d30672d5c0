use Rattle.std.proofs.Common.{◌∙◌, ap}
use Rattle.journal_entry.specs.Batches.{entries_of}
use Rattle.journal_entry.proofs.Batched.{no_batch, no_entries}
use Rattle.journal_entry.proofs.batch.Batch.new.Goals as goal

pub invariant_of-result : goal.invariant_of-result
invariant_of-result c = rw c.new.ensures.items no_batch

pub returns : goal.returns
returns c = ap entries_of c.new.ensures.items ∙ no_entries

use Rattle.std.proofs.Common.{◌∙◌, ap}
use Rattle.journal_entry.specs.Batches.{entries_of}
use Rattle.journal_entry.proofs.Batched.{no_batch, no_entries}
use Rattle.journal_entry.proofs.batch.Batch.clear.Goals as goal

pub invariant_of-self : goal.invariant_of-self
invariant_of-self c = rw c.clear.ensures.items no_batch

pub returns : goal.returns
returns c = ap entries_of c.clear.ensures.items ∙ no_entries

use Rattle.std.proofs.Common.{◌++◌, ◌∷◌}
use Rattle.journal_entry.specs.Payloads.{batch_of}
use Rattle.journal_entry.proofs.Recovered.{recovered}
use Rattle.disk_journal.specs.Batches.{batches}
use Rattle.disk_journal.specs.Files.{means}
use Rattle.disk_journal.proofs.laws.batches_are_read.Goals as goal

pub returns : goal.returns
returns c = λ payloads entries gate rest shut small read. recovered batch_of (batches payloads ++ gate ∷ rest) payloads entries (means payloads gate rest shut small) read

use Rattle.journal_entry.specs.Payloads.{batch_of}
use Rattle.journal_entry.proofs.Recovered.{recovered}
use Rattle.journal_entry.proofs.laws.payloads_are_entries.Goals as goal

pub returns : goal.returns
returns c = λ file payloads entries h r. recovered batch_of file payloads entries h r

use Rattle.journal_entry.specs.Payloads.{batch_of}
use Rattle.journal_entry.proofs.Recovered.{one_more}
use Rattle.journal_entry.proofs.laws.one_more_payload.Goals as goal

pub returns : goal.returns
returns c = λ payloads payload entries more h r. one_more batch_of payloads payload entries more h r

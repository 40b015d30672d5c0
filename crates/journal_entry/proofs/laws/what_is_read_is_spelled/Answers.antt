use Rattle.journal_entry.proofs.Taken.{entry_spelled, payload_spelled}
use Rattle.journal_entry.proofs.laws.what_is_read_is_spelled.Goals as goal

pub returns-clause-entries : goal.returns-clause-entries
returns-clause-entries c = λ form bytes rest e fits h. entry_spelled form bytes rest e fits h

pub returns-clause-payloads : goal.returns-clause-payloads
returns-clause-payloads c = λ bytes es fits h. payload_spelled bytes es fits h

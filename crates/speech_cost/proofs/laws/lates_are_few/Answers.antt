use Rattle.speech_cost.proofs.LateEntries.{lates_were_asked, lates_are_few as they_are}
use Rattle.speech_cost.proofs.laws.lates_are_few.Goals as goal

pub returns-clause-entries : goal.returns-clause-entries
returns-clause-entries c = lates_were_asked

pub returns-clause-telling : goal.returns-clause-telling
returns-clause-telling c = they_are

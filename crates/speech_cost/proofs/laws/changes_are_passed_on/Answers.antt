use Rattle.speech_cost.proofs.ChangeEntries.{entries_pass_changes_on, changes_are_passed_on as they_are}
use Rattle.speech_cost.proofs.Hearers.{entries_tell_what_is_heard, changes_were_heard}
use Rattle.speech_cost.proofs.laws.changes_are_passed_on.Goals as goal

pub returns-clause-entries : goal.returns-clause-entries
returns-clause-entries c = entries_pass_changes_on

pub returns-clause-telling : goal.returns-clause-telling
returns-clause-telling c = they_are

pub returns-clause-hearing : goal.returns-clause-hearing
returns-clause-hearing c = entries_tell_what_is_heard

pub returns-clause-once : goal.returns-clause-once
returns-clause-once c = changes_were_heard

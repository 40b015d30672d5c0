use Rattle.agent_speech.proofs.Every.{blank_is_even, entries_keep_even}
use Rattle.agent_speech.proofs.laws.even.Goals as goal

pub returns-clause-blank : goal.returns-clause-blank
returns-clause-blank c = blank_is_even

pub returns-clause-entries : goal.returns-clause-entries
returns-clause-entries c = entries_keep_even

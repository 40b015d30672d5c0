use Rattle.due_events.proofs.Scripted.{plays_are_scripted as they_are, asks_are_scripted}
use Rattle.due_events.proofs.laws.plays_are_scripted.Goals as goal

pub returns-clause-counts : goal.returns-clause-counts
returns-clause-counts c = they_are

pub returns-clause-worth : goal.returns-clause-worth
returns-clause-worth c = asks_are_scripted

use Rattle.due_events.proofs.Fronts.{fronts_are_due}
use Rattle.due_events.proofs.Plays.{plays_are_due as they_are}
use Rattle.due_events.proofs.laws.plays_are_due.Goals as goal

pub returns-clause-plays : goal.returns-clause-plays
returns-clause-plays c = they_are

pub returns-clause-fronts : goal.returns-clause-fronts
returns-clause-fronts c = fronts_are_due

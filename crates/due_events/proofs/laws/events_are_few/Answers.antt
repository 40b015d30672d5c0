use Rattle.due_events.proofs.Bounding.{runs_are_short}
use Rattle.due_events.proofs.Counting.{events_are_few as they_are}
use Rattle.due_events.proofs.laws.events_are_few.Goals as goal

pub returns-clause-events : goal.returns-clause-events
returns-clause-events c = they_are

pub returns-clause-runs : goal.returns-clause-runs
returns-clause-runs c = runs_are_short c.every_message.ensures.own c.sent.ensures.heard c.every_state.ensures.blank c.every_state.ensures.good

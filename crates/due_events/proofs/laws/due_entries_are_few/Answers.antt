use Rattle.due_events.proofs.Entries.{entries_are_events}
use Rattle.due_events.proofs.Acks.{ackeds_are_few}
use Rattle.due_events.proofs.Working.{works_are_few}
use Rattle.due_events.proofs.laws.due_entries_are_few.Goals as goal

pub returns-clause-ackeds : goal.returns-clause-ackeds
returns-clause-ackeds c = ackeds_are_few

pub returns-clause-works : goal.returns-clause-works
returns-clause-works c = works_are_few c.every_state.ensures.blank c.every_state.ensures.good

pub returns-clause-events : goal.returns-clause-events
returns-clause-events c = entries_are_events

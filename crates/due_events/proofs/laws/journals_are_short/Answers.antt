use Rattle.due_events.proofs.Short.{journals_are_short as they_are}
use Rattle.due_events.proofs.laws.journals_are_short.Goals as goal

pub returns : goal.returns
returns c = they_are c.every_message.ensures.own c.sent.ensures.heard c.every_state.ensures.blank c.every_state.ensures.good

use Rattle.due_events.proofs.Sent.{gots_are_few as each_gets_few, gots_together_are_few as all_get_few}
use Rattle.due_events.proofs.laws.gots_are_few.Goals as goal

pub returns-clause-one : goal.returns-clause-one
returns-clause-one c = each_gets_few c.every_message.ensures.own c.sent.ensures.heard

pub returns-clause-all : goal.returns-clause-all
returns-clause-all c = all_get_few c.every_message.ensures.own c.sent.ensures.heard

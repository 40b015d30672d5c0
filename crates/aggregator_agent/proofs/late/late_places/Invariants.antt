use Rattle.aggregator_agent.proofs.Overdue.{AreNotedBut}
use Rattle.aggregator_agent.proofs.late.late_places.Given as goal

abbrev pub invariant-loop-message : goal.invariant-loop-message
invariant-loop-message l = AreNotedBut l.now l.dues l.fn.waiting l.message-iterator l.places.items

use Rattle.followed_agent.specs.Messages.{AreFound}
use Rattle.followed_agent.proofs.messages.index_all.Given as goal

abbrev pub invariant-loop-place : goal.invariant-loop-place
invariant-loop-place l = AreFound l.places l.place l.messages

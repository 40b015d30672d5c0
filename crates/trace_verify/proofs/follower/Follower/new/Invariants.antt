use Rattle.trace_verify.proofs.Placing.{AreNew}
use Rattle.trace_verify.proofs.follower.Follower.new.Given as goal

abbrev pub invariant-loop-place : goal.invariant-loop-place
invariant-loop-place l = AreNew l.topology l.place l.agents.items

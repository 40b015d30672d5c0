use Rattle.std.proofs.Common.{drop}
use Rattle.requester_agent.specs.Steps.{view_hears}
use Rattle.requester_agent.proofs.HeardAt.{AreHeard}
use Rattle.requester_agent.proofs.hearing.hear_at.Given as goal

abbrev pub invariant-loop-place : goal.invariant-loop-place
invariant-loop-place l = AreHeard (view_hears l.message) l.fn.views l.views (drop l.place-index l.places)

use Rattle.std.proofs.Common.{◌≡◌, ◌++◌, drop}
use Rattle.aggregator_agent.specs.Clock.{due_for}
use Rattle.aggregator_agent.proofs.said.push_dues.Given as goal

-- what is noted, before what is still to be noted
abbrev pub invariant-loop-request : goal.invariant-loop-request
invariant-loop-request l = l.dues.items ++ due_for l.moment.number l.moment.second (drop l.request-index l.requests) ≡ l.initial.dues.items ++ due_for l.moment.number l.moment.second l.requests

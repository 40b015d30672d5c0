use Rattle.std.proofs.Common.{◌≡◌, drop}
use Rattle.aggregator_agent.specs.Below.{seek, sought_before}
use Rattle.aggregator_agent.specs.Open.{sought_by}
use Rattle.aggregator_agent.proofs.seeking.seek.Given as goal

-- what is asked, before what is still to be asked
abbrev pub invariant-loop-child : goal.invariant-loop-child
invariant-loop-child l = sought_before (sought_by l.seeking) (seek l.agent l.seeking.next (drop l.child-index l.children)) ≡ seek l.agent l.fn.next l.children

use Rattle.agent_node.specs.Turns.{worked}
use Rattle.agent_node.proofs.Stepping.{IsOnWay}
use Rattle.agent_node.proofs.seated.Core.work.Given as goal

abbrev pub invariant-loop-work : goal.invariant-loop-work
invariant-loop-work l = IsOnWay worked worked l.fn.room l.room l.fn.self l.self

abbrev pub decreases-loop-work : goal.decreases-loop-work
decreases-loop-work l = l.room

use Rattle.agent_threads.specs.Made.{Does, tick_to}
use Rattle.agent_threads.proofs.Places.{UpTo}
use Rattle.agent_threads.proofs.group.tick_all.Given as goal

abbrev pub invariant-loop-node : goal.invariant-loop-node
invariant-loop-node g l = UpTo (Does (tick_to l.to)) l.fn.nodes.items l.node-items l.node-index

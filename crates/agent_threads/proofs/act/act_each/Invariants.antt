use Rattle.agent_threads.specs.Made.{Does, part_in}
use Rattle.agent_threads.proofs.Places.{UpTo}
use Rattle.agent_threads.proofs.act.act_each.Given as goal

abbrev pub invariant-loop-node : goal.invariant-loop-node
invariant-loop-node g l = UpTo (Does (part_in l.act l.number)) l.fn.nodes.items l.node-items l.node-index

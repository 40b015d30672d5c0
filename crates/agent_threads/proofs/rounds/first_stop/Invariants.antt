use Rattle.std.proofs.Common.{◌≡◌, drop}
use Rattle.agent_threads.specs.Made.{first_stop}
use Rattle.agent_threads.proofs.rounds.first_stop.Given as goal

abbrev pub invariant-loop-node : goal.invariant-loop-node
invariant-loop-node g l = first_stop (drop l.node-index l.nodes) ≡ first_stop l.fn.nodes

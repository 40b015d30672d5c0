use Rattle.std.proofs.Common.{◌≡◌, drop}
use Rattle.agent_threads.specs.Made.{first_failure}
use Rattle.agent_threads.proofs.rounds.first_failure.Given as goal

abbrev pub invariant-loop-node : goal.invariant-loop-node
invariant-loop-node g l = first_failure (drop l.node-index l.nodes) ≡ first_failure l.fn.nodes

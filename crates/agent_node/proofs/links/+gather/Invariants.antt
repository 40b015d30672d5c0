use Rattle.std.proofs.Common.{length}
use Rattle.agent_node.proofs.links.+gather.Given as goal

abbrev pub decreases-gather : goal.decreases-gather
decreases-gather l = length l.links.now

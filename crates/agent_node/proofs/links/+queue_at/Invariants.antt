use Rattle.std.proofs.Common.{length}
use Rattle.agent_node.proofs.links.+queue_at.Given as goal

abbrev pub decreases-queue_at : goal.decreases-queue_at
decreases-queue_at l = length l.links.now

use Rattle.std.proofs.Common.{length}
use Rattle.agent_node.proofs.links.+are_still.Given as goal

abbrev pub decreases-are_still : goal.decreases-are_still
decreases-are_still l = length l.links.now

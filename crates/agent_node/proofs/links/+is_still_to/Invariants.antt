use Rattle.std.proofs.Common.{length}
use Rattle.agent_node.proofs.links.+is_still_to.Given as goal

abbrev pub decreases-is_still_to : goal.decreases-is_still_to
decreases-is_still_to l = length l.links.now

use Rattle.std.proofs.Common.{length}
use Rattle.agent_node.proofs.links.+is_queued.Given as goal

abbrev pub decreases-is_queued : goal.decreases-is_queued
decreases-is_queued l = length l.links.now

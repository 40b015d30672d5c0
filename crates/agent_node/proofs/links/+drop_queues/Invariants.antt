use Rattle.std.proofs.Common.{length}
use Rattle.agent_node.proofs.links.+drop_queues.Given as goal

abbrev pub decreases-drop_queues : goal.decreases-drop_queues
decreases-drop_queues l = length l.links.now

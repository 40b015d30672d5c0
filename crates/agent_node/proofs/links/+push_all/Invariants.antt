use Rattle.std.proofs.Common.{length}
use Rattle.agent_node.proofs.links.+push_all.Given as goal

abbrev pub decreases-push_all : goal.decreases-push_all
decreases-push_all l = length l.links.now

use Rattle.std.proofs.Common.{length}
use Rattle.agent_node.proofs.links.+begin_rounds.Given as goal

abbrev pub decreases-begin_rounds : goal.decreases-begin_rounds
decreases-begin_rounds l = length l.links.now

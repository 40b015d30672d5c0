use Rattle.std.proofs.Common.{length}
use Rattle.agent_node.proofs.links.+meet_at.Given as goal

abbrev pub decreases-meet_at : goal.decreases-meet_at
decreases-meet_at l = length l.ours.now

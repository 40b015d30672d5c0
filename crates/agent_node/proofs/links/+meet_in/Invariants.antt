use Rattle.std.proofs.Common.{length}
use Rattle.agent_node.proofs.links.+meet_in.Given as goal

abbrev pub decreases-meet_in : goal.decreases-meet_in
decreases-meet_in l = length l.theirs.now

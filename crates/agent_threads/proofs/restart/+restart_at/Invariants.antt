use Rattle.std.proofs.Common.{vec_len}
use Rattle.agent_threads.proofs.restart.+restart_at.Given as goal

abbrev pub decreases-restart_at : goal.decreases-restart_at
decreases-restart_at g l = vec_len l.nodes.now

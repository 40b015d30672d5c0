use Rattle.std.proofs.Common.{vec_len}
use Rattle.agent_threads.proofs.restart.+restart_stopped.Given as goal

abbrev pub decreases-restart_stopped : goal.decreases-restart_stopped
decreases-restart_stopped g l = vec_len l.nodes.now

use Rattle.run_growth.proofs.Plays.{every_play_is_safe}
use Rattle.run_growth.proofs.laws.every_play_safe_at_each_agent.Goals as goal

pub returns : goal.returns
returns c = every_play_is_safe c.every_run_safe_at_each_agent.ensures c.play_runs.ensures.whole

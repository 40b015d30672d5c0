-- A play is a run, and so it is safe.
use Rattle.nsi_world.specs.Laws.{PlayIsRun}
use Rattle.run_growth.specs.SafeLaws.{EveryRunIsSafe, EveryPlayIsSafe}

pub every_play_is_safe : EveryRunIsSafe → PlayIsRun → EveryPlayIsSafe
every_play_is_safe safe is_run t routes plans groups events last wf rising acts play few = safe t routes events (is_run t routes plans groups events last wf rising acts play few).allowed

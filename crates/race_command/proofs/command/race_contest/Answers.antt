use Rattle.std.proofs.Common.{◌∙◌}
use Rattle.race_command.proofs.command.race_contest.Goals as goal

pub race_script-requires-clause-same : goal.race_script-requires-clause-same
race_script-requires-clause-same g c κs within = let s = c.requires.same in c.in_ok-own.ensures s.first s.is ∙ s.same

use Rattle.quiet_rounds.proofs.Playing.{plays_keep_bounds}
use Rattle.quiet_rounds.proofs.Staying.{openings_are_bounded, steps_keep_bounds}
use Rattle.quiet_rounds.proofs.laws.nets_are_bounded.Goals as goal

pub returns-clause-opening : goal.returns-clause-opening
returns-clause-opening c = openings_are_bounded

pub returns-clause-steps : goal.returns-clause-steps
returns-clause-steps c = steps_keep_bounds

pub returns-clause-plays : goal.returns-clause-plays
returns-clause-plays c = plays_keep_bounds

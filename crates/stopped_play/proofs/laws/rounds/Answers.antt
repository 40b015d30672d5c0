use Rattle.stopped_play.proofs.Bounds.{cuts_keep_bounds}
use Rattle.stopped_play.proofs.Whole.{no_cut_is_a_round}
use Rattle.stopped_play.proofs.Counting.{restarts_are_stops}
use Rattle.stopped_play.proofs.laws.rounds.Goals as goal

pub returns-clause-bounded : goal.returns-clause-bounded
returns-clause-bounded c = cuts_keep_bounds

pub returns-clause-whole : goal.returns-clause-whole
returns-clause-whole c = no_cut_is_a_round

pub returns-clause-counted : goal.returns-clause-counted
returns-clause-counted c = restarts_are_stops

use Rattle.nsi_play.proofs.Untold.{play_needs_none, front_needs_none}
use Rattle.nsi_play.proofs.laws.needs_no_past.Goals as goal

pub returns-clause-play : goal.returns-clause-play
returns-clause-play c = play_needs_none

pub returns-clause-front : goal.returns-clause-front
returns-clause-front c = front_needs_none

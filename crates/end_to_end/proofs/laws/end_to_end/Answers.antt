use Rattle.end_to_end.proofs.Pointing.{told_points}
use Rattle.end_to_end.proofs.Versions.{versions_are_known}
use Rattle.end_to_end.proofs.Whole.{connections_stand}
use Rattle.end_to_end.proofs.laws.end_to_end.Goals as goal

pub returns-clause-connections : goal.returns-clause-connections
returns-clause-connections c = connections_stand told_points c.sent.ensures.heard c.known.ensures.records c.circuits.ensures

pub returns-clause-versions : goal.returns-clause-versions
returns-clause-versions c = versions_are_known told_points c.between.ensures c.sent.ensures.heard c.views.ensures.backed c.known.ensures.records c.asked_for.ensures c.circuits.ensures

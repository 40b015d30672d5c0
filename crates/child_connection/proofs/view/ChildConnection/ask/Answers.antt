use Rattle.std.proofs.Common.{subst}
use Rattle.child_connection.specs.Later.{IsReady}
use Rattle.child_connection.proofs.Growing.{asks_later}
use Rattle.child_connection.proofs.view.ChildConnection.ask.Goals as goal

-- src/view/asking.rt:62:5
pub returns-clause-later : goal.returns-clause-later
returns-clause-later c = rw c.in_ok-is_asked.ensures.asked (asks_later _ _ _ (subst IsReady c.self.view_is c.self.invariant.0))

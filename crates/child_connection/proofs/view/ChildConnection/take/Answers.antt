use Rattle.std.proofs.Common.{subst}
use Rattle.child_connection.specs.Later.{IsReady}
use Rattle.child_connection.proofs.Growing.{hears_later}
use Rattle.child_connection.proofs.view.ChildConnection.take.Goals as goal

-- src/view/hearing.rt:16:5
pub returns-then-is-clause-later : goal.returns-then-is-clause-later
returns-then-is-clause-later c = rw c.hears.ensures.view (hears_later _ _ _ (subst IsReady c.self.view_is c.self.invariant.0))

use Rattle.std.proofs.Common.{subst}
use Rattle.child_connection.specs.Later.{IsReady}
use Rattle.child_connection.proofs.Growing.{asks_later}
use Rattle.child_connection.proofs.view.ChildConnection.ask_reserve.Goals as goal

-- src/view/asking.rt:22:5
pub returns-clause-later : goal.returns-clause-later
returns-clause-later c = rw c.reserve_is_asked.ensures (asks_later _ _ _ (subst IsReady c.self.view_is c.self.invariant.0))

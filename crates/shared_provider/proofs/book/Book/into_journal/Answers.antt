use Rattle.std.proofs.Common.{sym}
use Rattle.shared_provider.proofs.Sounds.{left_now}
use Rattle.shared_provider.proofs.book.Book.into_journal.Goals as goal

pub returns-clause-left : goal.returns-clause-left
returns-clause-left g c = rw (sym c.self.view_is) (left_now _ _ _ _ _ _ _ c.self.invariant (g.met.J.Journal.leaves_synced c.self.inside.journal))

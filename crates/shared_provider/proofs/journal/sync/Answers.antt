use Rattle.shared_provider.proofs.Kept.{leaves_synced}
use Rattle.shared_provider.proofs.journal.sync.Goals as goal

pub returns-in-Err-clause-left : goal.returns-in-Err-clause-left
returns-in-Err-clause-left g c = λ es more h.
    leaves_synced g.J.Journal.reading (g.J.Journal.history c.args.journal.now) (g.J.Journal.history c.sync.new.self) (g.J.Journal.kept c.args.journal.now) es more c.sync.ensures.untold c.sync.ensures.any_moment h

use Rattle.std.proofs.Common.{[]}
use Rattle.shared_provider.proofs.Kept.{leaves_appended}
use Rattle.shared_provider.proofs.journal.append.Goals as goal

pub returns-clause-left : goal.returns-clause-left
returns-clause-left g c = λ es h.
    leaves_appended g.J.Journal.reading (g.J.Journal.history c.args.journal.now) (g.J.Journal.history c.append.new.self) (g.J.Journal.kept c.args.journal.now) es [] c.append.ensures.untold c.append.ensures.any_moment h

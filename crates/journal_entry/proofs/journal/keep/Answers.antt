use Rattle.std.proofs.Common.{rules}
use Rattle.journal_entry.specs.Journal.{ReadsOneOf}
use Rattle.journal_entry.proofs.Left.{left_kept, kept_after}
use Rattle.journal_entry.proofs.journal.keep.Goals as goal

pub returns-in_err-append-clause-left : goal.returns-in_err-append-clause-left
returns-in_err-append-clause-left g c =
    left_kept (g.J.Journal.kept c.args.journal.now) (g.J.Journal.history c.args.journal.now) (g.J.Journal.history c.append.new.self) (λ k. ReadsOneOf g.J.Journal.reading k.synced c.args.batch.now)
    (search rules) (search rules)

pub returns-clause-left : goal.returns-clause-left
returns-clause-left g c =
    left_kept (g.J.Journal.kept c.args.journal.now) (g.J.Journal.history c.args.journal.now) (g.J.Journal.history c.sync.new.self) (λ k. ReadsOneOf g.J.Journal.reading k.synced c.args.batch.now)
    (search rules) (search rules)

pub returns-in_err-append-clause-front : goal.returns-in_err-append-clause-front
returns-in_err-append-clause-front g c =
    let j = c.append.new.self in
    kept_after g.J.Journal.reading c.args.batch.now (g.J.Journal.kept c.args.journal.now) (g.J.Journal.kept j) (g.J.Journal.history j)
    (returns-in_err-append-clause-left g c) (g.met.J.Journal.reads_image j) (g.met.J.Journal.reads_kept j) (g.met.J.Journal.tells j)

pub returns-clause-front : goal.returns-clause-front
returns-clause-front g c =
    let j = c.sync.new.self in
    kept_after g.J.Journal.reading c.args.batch.now (g.J.Journal.kept c.args.journal.now) (g.J.Journal.kept j) (g.J.Journal.history j)
    (returns-clause-left g c) (g.met.J.Journal.reads_image j) (g.met.J.Journal.reads_kept j) (g.met.J.Journal.tells j)

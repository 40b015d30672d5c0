use Rattle.disk_journal.proofs.Ready.{crash_held}
use Rattle.disk_journal.proofs.journal.DiskJournalJournal.append.Goals as goal

pub returns-in_err-hold-clause-any_moment : goal.returns-in_err-hold-clause-any_moment
returns-in_err-hold-clause-any_moment g c =
    let j = c.args.self.now in
    crash_held (g.D.Disk.history j.batches.disk) (g.D.Disk.history c.hold.new.self.disk) j.batches.gate j.batches.next j.count j.more c.requires.ready.1 c.in_err-hold.ensures.any_moment

pub returns-clause-any_moment : goal.returns-clause-any_moment
returns-clause-any_moment g c =
    let j = c.args.self.now in
    crash_held (g.D.Disk.history j.batches.disk) (g.D.Disk.history c.hold.new.self.disk) j.batches.gate j.batches.next j.count j.more c.requires.ready.1 c.in_ok-hold.ensures.any_moment

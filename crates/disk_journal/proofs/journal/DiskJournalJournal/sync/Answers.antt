use Rattle.std.proofs.Common.{arith, rules}
use Rattle.disk_journal.proofs.Ready.{crash_synced, kept_synced, ready_synced, counted_synced}
use Rattle.disk_journal.proofs.journal.DiskJournalJournal.sync.Goals as goal

pub returns-in_err-settle-clause-any_moment : goal.returns-in_err-settle-clause-any_moment
returns-in_err-settle-clause-any_moment g c =
    let e = c.in_err-settle.ensures in
    let j = c.args.self.now in
    crash_synced (g.D.Disk.history j.batches.disk) (g.D.Disk.history c.settle.new.self.disk) (g.D.Disk.meter j.batches.disk) j.batches.gate j.batches.next j.batches.longest j.count j.more c.requires.ready.0 c.requires.ready.1
    e.any_moment (λ same. absurd (omega (arith, same, e.errs)))

pub returns-clause-any_moment : goal.returns-clause-any_moment
returns-clause-any_moment g c =
    let e = c.in_ok-settle.ensures in
    let j = c.args.self.now in
    crash_synced (g.D.Disk.history j.batches.disk) (g.D.Disk.history c.settle.new.self.disk) (g.D.Disk.meter j.batches.disk) j.batches.gate j.batches.next j.batches.longest j.count j.more c.requires.ready.0 c.requires.ready.1
    e.any_moment (λ same. (e.idle same).0)

pub returns-clause-synced : goal.returns-clause-synced
returns-clause-synced g c =
    let e = c.in_ok-settle.ensures in
    let j = c.args.self.now in
    let k = c.settle.new.self in
    kept_synced (g.D.Disk.history j.batches.disk) (g.D.Disk.history k.disk) (g.D.Disk.meter j.batches.disk) j.batches.gate j.batches.next j.batches.longest j.count j.more k.gate k.next k.longest c.requires.ready.0 c.requires.ready.1
    e.settled e.next e.synced (λ same. (e.idle same).0)

pub returns-clause-ready : goal.returns-clause-ready
returns-clause-ready g c =
    let e = c.in_ok-settle.ensures in
    let j = c.args.self.now in
    let k = c.settle.new.self in (
      ready_synced (g.D.Disk.history j.batches.disk) (g.D.Disk.history k.disk) (g.D.Disk.meter j.batches.disk) (g.D.Disk.meter k.disk) j.batches.gate j.batches.next j.batches.longest k.gate k.next k.longest
          c.requires.ready.0 e.cause.runs e.fits e.settled e.next e.untold e.synced e.idle,
      counted_synced (g.D.Disk.history j.batches.disk) (g.D.Disk.history k.disk) (g.D.Disk.meter j.batches.disk) j.batches.gate j.batches.next j.batches.longest j.count j.more k.gate k.next k.longest c.saturating_add-self.result
          c.requires.ready.0 c.requires.ready.1 e.fits e.settled e.next e.untold e.synced (λ same. (e.idle same).0) (search rules),
    )

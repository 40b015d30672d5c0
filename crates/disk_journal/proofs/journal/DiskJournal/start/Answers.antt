use Rattle.disk_journal.specs.Opening.{AsBefore}
use Rattle.disk_journal.proofs.Begin.{leaves_now}
use Rattle.disk_journal.proofs.journal.DiskJournal.start.Goals as goal

pub returns-in-Err-clause-fault_left : goal.returns-in-Err-clause-fault_left
returns-in-Err-clause-fault_left g c = leaves_now (g.D.Disk.history c.args.disk) (g.D.Disk.history c.open.new.disk) AsBefore c.in-Err.ensures.any_moment

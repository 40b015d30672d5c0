use Rattle.nsi_disk.specs.Stopped.{cut_stops}
use Rattle.nsi_disk.proofs.memory.MemoryDiskDisk.cut.Goals as goal

pub returns-in_ok-cut-in-Ok-Some-clause-steps : goal.returns-in_ok-cut-in-Ok-Some-clause-steps
returns-in_ok-cut-in-Ok-Some-clause-steps c =
    cut_stops c.args.self.now.shown c.in-Ok-Some.image c.args.len _ _ c.in-Ok-Some.ensures.runs c.requires c.args.self.now.tape.made c.in_ok-cut-in-Ok-Some.ensures.goes_on.done

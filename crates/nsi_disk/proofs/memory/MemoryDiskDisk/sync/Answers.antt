use Rattle.nsi_disk.specs.Stopped.{broke_stops}
use Rattle.nsi_disk.proofs.memory.MemoryDiskDisk.sync.Goals as goal

pub returns-in_ok-pause-in-Ok-Some-clause-steps : goal.returns-in_ok-pause-in-Ok-Some-clause-steps
returns-in_ok-pause-in-Ok-Some-clause-steps c =
    broke_stops c.args.self.now.shown c.of_sync.result _ _ c.in-Ok-Some.ensures.runs c.args.self.now.tape.made c.in_ok-pause-in-Ok-Some.ensures.goes_on.done

use Rattle.nsi_disk.specs.Stopped.{write_stops}
use Rattle.nsi_disk.proofs.memory.MemoryDiskDisk.write_at.Goals as goal

pub returns-in_ok-write-in-Ok-Some-clause-steps : goal.returns-in_ok-write-in-Ok-Some-clause-steps
returns-in_ok-write-in-Ok-Some-clause-steps c =
    write_stops c.args.self.now.shown c.in-Ok-Some.image c.args.place c.args.piece.now _ _ c.in-Ok-Some.ensures.runs c.requires c.args.self.now.tape.made c.in_ok-write-in-Ok-Some.ensures.goes_on.done

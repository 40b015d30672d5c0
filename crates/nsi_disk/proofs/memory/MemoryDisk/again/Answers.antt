use Rattle.std.proofs.Common.{rules}
use Rattle.nsi_disk.specs.Images.{shows}
use Rattle.nsi_disk.specs.Memory.{told_by}
use Rattle.nsi_disk.specs.Stopped.{shows_leaves}
use Rattle.nsi_disk.proofs.memory.MemoryDisk.again.Goals as goal

pub returns-clause-image : goal.returns-clause-image
returns-clause-image c =
    let d = c.args.self in
    let h = told_by d.tape.content in
    (shows d.shown h, shows_leaves d.shown h d.tape.made, search rules)

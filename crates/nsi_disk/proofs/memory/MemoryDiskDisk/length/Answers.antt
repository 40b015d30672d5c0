use Rattle.std.proofs.Common.{◌≡◌, length, ap, sym, ◌∙◌, rules}
use Rattle.nsi_disk.proofs.Space.{reads_on}
use Rattle.nsi_disk.specs.Stopped.{broke_stops}
use Rattle.nsi_disk.proofs.memory.MemoryDiskDisk.length.Goals as goal

pub returns-in_ok-pause-in-Ok-Some-clause-steps : goal.returns-in_ok-pause-in-Ok-Some-clause-steps
returns-in_ok-pause-in-Ok-Some-clause-steps c =
    broke_stops c.args.self.now.shown c.in-Ok-Some.image _ _ c.in-Ok-Some.ensures.runs c.args.self.now.tape.made c.in_ok-pause-in-Ok-Some.ensures.goes_on.done

pub returns-in-Ok-None-clause-length : goal.returns-in-Ok-None-clause-length
returns-in-Ok-None-clause-length c =
    let on = reads_on c.args.self.now.shown c.args.self.now.tape.content c.skip-in-Ok-None.new.self.content c.in-Ok-None.ensures.runs c.skip-in-Ok-None.ensures.same in
    let size : c.len.result ≡ length c.skip-in-Ok-None.new.self.content.bytes.items = search rules in
    size ∙ ap length (sym on)

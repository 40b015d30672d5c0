use Rattle.std.proofs.Common.{length, take, drop, ap, sym, ◌∙◌, arith}
use Rattle.nsi_disk.proofs.Space.{reads_on}
use Rattle.nsi_disk.specs.Stopped.{broke_stops}
use Rattle.nsi_disk.proofs.memory.MemoryDiskDisk.read_at.Goals as goal

pub returns-in_ok-pause-in-Ok-Some-clause-steps : goal.returns-in_ok-pause-in-Ok-Some-clause-steps
returns-in_ok-pause-in-Ok-Some-clause-steps c =
    broke_stops c.args.self.now.shown c.in-Ok-Some.image _ _ c.in-Ok-Some.ensures.runs c.args.self.now.tape.made c.in_ok-pause-in-Ok-Some.ensures.goes_on.done

pub split_at-requires : goal.split_at-requires
split_at-requires c =
    let on = reads_on c.args.self.now.shown c.args.self.now.tape.content c.skip-in-Ok-None.new.self.content c.in-Ok-None.ensures.runs c.skip-in-Ok-None.ensures.same ∙ sym c.deref.ensures.value in
    omega (arith, ap length on, c.requires)

pub split_at-requires-in-Ok-None : goal.split_at-requires-in-Ok-None
split_at-requires-in-Ok-None c =
    let on = reads_on c.args.self.now.shown c.args.self.now.tape.content c.skip-in-Ok-None.new.self.content c.in-Ok-None.ensures.runs c.skip-in-Ok-None.ensures.same ∙ sym c.deref.ensures.value in
    omega (arith, ap length on, c.requires, c.split_at.ensures.back_len)

pub returns-in-Ok-None-clause-read : goal.returns-in-Ok-None-clause-read
returns-in-Ok-None-clause-read c =
    let on = reads_on c.args.self.now.shown c.args.self.now.tape.content c.skip-in-Ok-None.new.self.content c.in-Ok-None.ensures.runs c.skip-in-Ok-None.ensures.same ∙ sym c.deref.ensures.value in
    c.copy_from_slice.ensures.after ∙ c.split_at-in-Ok-None.ensures.front ∙ ap (take (length c.args.buffer.now)) (c.split_at.ensures.back ∙ ap (drop c.args.place) (sym on))

use Rattle.std.proofs.Common.{◌≡◌, ap, sym, subst, ◌∙◌}
use Rattle.nsi_disk.specs.Disk.{seen, MayLeave}
use Rattle.nsi_disk.specs.Memory.{told_by}
use Rattle.nsi_disk.specs.Stopped.{stopped_may, new_leaves, runs_on}
use Rattle.nsi_disk.proofs.Space.{reads_told}
use Rattle.nsi_disk.proofs.memory.MemoryDisk.into_bytes.Goals as goal

pub returns-clause-image : goal.returns-clause-image
returns-clause-image c =
    let d = c.args.self in
    let h = told_by d.tape.content in
    let is : c.into_bytes.result.items ≡ seen h = c.into_bytes.ensures ∙ sym (reads_told d.tape.content) in
    stopped_may d.shown c.into_bytes.result.items h (subst (MayLeave h) (sym is) (new_leaves h d.tape.made))

pub returns-clause-seen : goal.returns-clause-seen
returns-clause-seen c runs =
    let d = c.args.self in
    let h = told_by d.tape.content in
    c.into_bytes.ensures ∙ sym (reads_told d.tape.content) ∙ ap seen (sym (runs_on d.shown h runs))

use Rattle.std.proofs.Common.{sym, ap, ◌∙◌}
use Rattle.nsi_disk.specs.Images.{image_of}
use Rattle.nsi_disk.specs.Memory.{told_by}
use Rattle.nsi_disk.specs.declared.plan.Image.{Image}
use Rattle.nsi_disk.proofs.Space.{reads_told}
use Rattle.nsi_disk.proofs.reopen.stopped.Goals as goal

pub returns-in-New : goal.returns-in-New
returns-in-New c = c.into_bytes.ensures ∙ sym (ap (λ (i : Image). image_of i (told_by c.args.content)) c.in-New.is ∙ reads_told c.args.content)

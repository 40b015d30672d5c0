use Rattle.std.proofs.Common.{sym, ap, ◌∙◌, Option}
use Rattle.nsi_disk.specs.Images.{shows}
use Rattle.nsi_disk.specs.Memory.{told_by}
use Rattle.nsi_disk.specs.declared.plan.Image.{Image}
use Rattle.nsi_disk.proofs.Space.{reads_told}
use Rattle.nsi_disk.proofs.reopen.left.Goals as goal

pub returns-in-None : goal.returns-in-None
returns-in-None c = c.into_bytes.ensures ∙ sym (ap (λ (i : Option Image). shows i (told_by c.args.content)) c.in-None.is ∙ reads_told c.args.content)

use Rattle.std.proofs.Common.{◌≡◌, vec_len}
use Rattle.nsi_disk.specs.Again.{blotted}
use Rattle.nsi_disk.specs.Images.{old_image, torn_image}
use Rattle.nsi_disk.specs.Memory.{told, told_by}
use Rattle.nsi_disk.proofs.reopen.since_sync.Given as goal

abbrev pub invariant-loop-past : goal.invariant-loop-past
invariant-loop-past l =
    (old_image (told l.log.items l.saved.items l.bytes.items) ≡ old_image (told_by l.fn.content))
    × (blotted l.calls.items (torn_image (told l.log.items l.saved.items l.bytes.items)) ≡ torn_image (told_by l.fn.content))

abbrev pub decreases-loop-past : goal.decreases-loop-past
decreases-loop-past l = vec_len l.log

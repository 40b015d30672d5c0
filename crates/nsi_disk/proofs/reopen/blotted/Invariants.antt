use Rattle.std.proofs.Common.{◌≡◌, vec_len}
use Rattle.nsi_disk.specs.Again.{blotted}
use Rattle.nsi_disk.proofs.reopen.blotted.Given as goal

abbrev pub invariant-loop-past : goal.invariant-loop-past
invariant-loop-past l = blotted l.calls.items l.bytes.items ≡ blotted l.fn.calls.items l.fn.bytes.items

abbrev pub decreases-loop-past : goal.decreases-loop-past
decreases-loop-past l = vec_len l.calls

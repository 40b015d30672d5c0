use Rattle.std.proofs.Common.{◌≡◌, take}
use Rattle.nsi_primitive.proofs.copies.rows.copy_notices.Given as goal

abbrev pub invariant-loop-notice : goal.invariant-loop-notice
invariant-loop-notice l = l.copy ≡ take l.notice-index l.notice-items

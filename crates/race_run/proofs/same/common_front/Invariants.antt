use Rattle.std.proofs.Common.{◌≡◌, ◌≤◌, length, take}
use Rattle.race_run.proofs.same.common_front.Given as goal

abbrev pub invariant-loop-place : goal.invariant-loop-place
invariant-loop-place l = (l.place ≤ length l.found) × (take l.place l.kept ≡ take l.place l.found)

use Rattle.std.proofs.Common.{◌≤◌, ◌-◌, length}
use Rattle.file_shelf.proofs.Whole.{HasWritten}
use Rattle.file_shelf.proofs.disk.write_whole.Given as goal

abbrev pub invariant-loop : goal.invariant-loop
invariant-loop g l = record {
  few : l.left ≤ length l.piece;
  written : HasWritten l.place l.piece (g.F.DiskFile.told l.fn.file) (g.F.DiskFile.told l.file) (length l.piece - l.left);
}

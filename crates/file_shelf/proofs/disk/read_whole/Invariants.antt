use Rattle.std.proofs.Common.{length}
use Rattle.file_shelf.proofs.Whole.{IsReading}
use Rattle.file_shelf.proofs.disk.read_whole.Given as goal

abbrev pub invariant-loop : goal.invariant-loop
invariant-loop g l =
    IsReading l.place l.left (length l.fn.buffer) l.buffer (g.F.DiskFile.told l.fn.file) (g.F.DiskFile.told l.file)

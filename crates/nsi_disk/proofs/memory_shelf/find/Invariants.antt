use Rattle.nsi_disk.specs.Shelf.{NoneBefore}
use Rattle.nsi_disk.proofs.memory_shelf.find.Given as goal

abbrev pub invariant-loop-i : goal.invariant-loop-i
invariant-loop-i l = NoneBefore l.name l.disks l.i

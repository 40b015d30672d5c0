use Rattle.std.proofs.Common.{◌≡◌, drop}
use Rattle.nsi_disk.specs.Shelf.{held}
use Rattle.nsi_disk.proofs.memory_shelf.MemoryShelf.content.Given as goal

abbrev pub invariant-loop-disk : goal.invariant-loop-disk
invariant-loop-disk l = held l.name (drop l.disk-index l.self.disks.items) ≡ held l.name l.self.disks.items

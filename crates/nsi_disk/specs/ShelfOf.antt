-- A shelf in memory, as contracts see it.
use Rattle.std.specs.Prelude.{ℕ, List}
use Rattle.nsi_disk.specs.declared.memory_shelf.MemoryShelf.{MemoryShelf}
use Rattle.nsi_disk.specs.declared.memory_shelf.NamedDisk.{NamedDisk}

abbrev pub disks_of : MemoryShelf → List NamedDisk
disks_of s = s.disks.items

abbrev pub faults_of : MemoryShelf → ℕ
faults_of s = s.faults

abbrev pub stops_of : MemoryShelf → ℕ
stops_of s = s.stops

-- A disk over a file, as contracts see it.
use Rattle.std.specs.Prelude.{false}
use Rattle.nsi_disk.specs.Disk.{Meter}
use Rattle.file_shelf.specs.declared.file.DiskFile.{Ghosts}
use Rattle.file_shelf.specs.declared.disk.FileDisk.{FileDisk}
use Rattle.file_shelf.specs.declared.tally.Tally.{Tally}

-- a disk over a file never stops
abbrev pub tally_meter : Tally → Meter
tally_meter t = record { faults = t.faults; stops = 0; planned = 0; stopped = false; calls = t.calls; longest = t.longest; bytes = t.bytes }

module _ {F : Type 0} {g : Ghosts F} where
  abbrev pub file_of : FileDisk F g → F
  file_of d = d.file

  abbrev pub meter_of : FileDisk F g → Meter
  meter_of d = tally_meter d.tally

-- A file in memory, as contracts see it.
use Rattle.std.specs.Prelude.{true}
use Rattle.nsi_disk.specs.Disk.{MayLeave, seen}
use Rattle.nsi_disk.specs.DiskOf.{history_of}
use Rattle.nsi_disk.specs.Memory.{told_by}
use Rattle.nsi_disk.specs.Stopped.{reads_image}
use Rattle.file_shelf.specs.Told.{Told}
use Rattle.file_shelf.specs.declared.memory.MemoryFile.{MemoryFile}

abbrev pub memory_told : MemoryFile → Told
memory_told f =
    record { past = history_of f.disk; has_lost = f.has_lost; is_claimed = true; is_entered = true }

-- what it reads is one of the things that a crash may leave
pub memory_image : (f : MemoryFile) → MayLeave (memory_told f).past (seen (memory_told f).past)
memory_image f = reads_image f.disk.shown (told_by f.disk.tape.content) f.disk.tape.made

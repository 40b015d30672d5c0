-- A disk in memory, as contracts see it.
use Rattle.std.specs.Prelude.{ℕ, List, length, is_some}
use Rattle.nsi_disk.specs.Disk.{History, Meter}
use Rattle.nsi_disk.specs.Images.{stopped_at, shows}
use Rattle.nsi_disk.specs.Memory.{told_by}
use Rattle.nsi_disk.specs.Plan.{Planned}
use Rattle.nsi_disk.specs.PlanOf.{planned_of}
use Rattle.nsi_disk.specs.declared.memory.MemoryDisk.{MemoryDisk}

abbrev pub history_of : MemoryDisk → History
history_of d = stopped_at d.shown (told_by d.tape.content)

abbrev pub meter_of : MemoryDisk → Meter
meter_of d = record { faults = d.plan.faults; stops = d.plan.stopped; planned = length d.plan.stops.items; stopped = is_some d.shown; calls = d.tape.room.calls; longest = d.tape.room.longest; bytes = d.tape.room.bytes }

abbrev pub plan_of : MemoryDisk → Planned
plan_of d = planned_of d.plan

-- what a crash now leaves of it: the image of its stop, or what it reads
abbrev pub left_of : MemoryDisk → List ℕ
left_of d = shows d.shown (told_by d.tape.content)

-- The counts of faults that a command has met.
use Rattle.std.specs.Prelude.{◌<◌, ◌⊎◌, ℕ}
use Rattle.nsi_disk.specs.ShelfCounts.{Raised}

-- the counts of a source, and of the disks of a shelf
pub record Counts : Type 0 where
  pub reads : ℕ
  pub faults : ℕ
  pub stops : ℕ

abbrev pub counted : (reads faults stops : ℕ) → Counts
counted reads faults stops = record { reads = reads; faults = faults; stops = stops }

-- a count was raised; one that reaches its type's end stands still there
abbrev pub HasRisen : ℕ → ℕ → Type 0
HasRisen old new = (by : ℕ) × (0 < by) × Raised old by new

-- a disk, or its shelf, has counted a fault or a stop
abbrev pub HasDiskFault : Counts → Counts → Type 0
HasDiskFault before after = HasRisen before.faults after.faults ⊎ HasRisen before.stops after.stops

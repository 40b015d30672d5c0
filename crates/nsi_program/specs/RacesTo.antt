-- How the command `race` ends, as the program tells it.
use Rattle.std.specs.Prelude.{◌≡◌, ◌<◌, ◌⊎◌, ℕ, true, IfSome}
use Rattle.fault_lines.specs.Counts.{HasDiskFault}
use Rattle.fault_lines.specs.Lines.{read_fault_line}
use Rattle.nsi_outside.specs.Stream.{WritesAll}
use Rattle.provide_command.specs.declared.status.Status.{Status}
use Rattle.race_command.specs.declared.ending.RaceEnd.{RaceEnd}
use Rattle.race_command.specs.Ends.{Races, is_told, WritesSome, IsCutShort}
use Rattle.nsi_program.specs.Plain.{Outside}

abbrev pub status_of_race : RaceEnd → Status
status_of_race RaceEnd.Done = Status.Done
status_of_race RaceEnd.BadTopology = Status.BadTopology
status_of_race RaceEnd.BadScript = Status.BadScript
status_of_race RaceEnd.Long = Status.Long
status_of_race RaceEnd.ReadFault = Status.ReadFault
status_of_race RaceEnd.WriteFault = Status.WriteFault
status_of_race RaceEnd.DiskFault = Status.DiskFault
status_of_race RaceEnd.Differ = Status.Differ
status_of_race RaceEnd.NoMemory = Status.NoMemory

-- A race of at most so many events ends so. The bytes say what may be written; a fault comes only from outside; and no fault of reading or writing is swallowed.
pub record IsRaceEnd (most : ℕ) (old new : Outside) (end : RaceEnd) : Type 0 where
  pub ends : is_told end ≡ true → IfSome old.left (λ bytes. WritesSome (Races most bytes end) old.content new.content)
  pub read_fault : end ≡ RaceEnd.ReadFault → old.counts.reads < new.counts.reads
  pub alone : end ≡ RaceEnd.ReadFault → WritesAll old.content new.content read_fault_line
  pub write_fault : end ≡ RaceEnd.WriteFault → old.writes < new.writes
  pub disk_fault : end ≡ RaceEnd.DiskFault → HasDiskFault old.counts new.counts
  pub unfinished : (end ≡ RaceEnd.WriteFault) ⊎ (end ≡ RaceEnd.NoMemory) → IsCutShort most old.content old.left old.counts new.counts new.content
  pub quiet_in : is_told end ≡ true → new.counts.reads ≡ old.counts.reads
  pub quiet_out : (end ≡ RaceEnd.WriteFault → ⊥) → new.writes ≡ old.writes

-- the program tells by its status how a race has ended
pub record EndsRace (most : ℕ) (old new : Outside) (status : Status) : Type 0 where
  pub end : RaceEnd
  pub told : status ≡ status_of_race end
  pub raced : IsRaceEnd most old new end

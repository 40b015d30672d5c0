-- How `provide` has ended, and what it has written and counted.
use Rattle.std.specs.Prelude.{◌≡◌, ◌<◌, ◌⊎◌, ℕ, true, List, [], Option, Result, Ok, Err, IfSome, option_map}
use Rattle.nsi_disk.specs.Disk.{History, seen}
use Rattle.disk_journal.specs.declared.opening.StartCause.{StartCause}
use Rattle.nsi_disk.specs.ShelfCounts.{Raised}
use Rattle.journal_entry.specs.Payloads.{batch_of}
use Rattle.journal_entry.specs.Journals.{recovers}
use Rattle.line_reader.specs.Held.{Held}
use Rattle.provide_command.specs.Cut.{IsCutByFault}
use Rattle.provide_command.specs.Ends.{WithReading, IsBroken, IsCutShort}
use Rattle.fault_lines.specs.Counts.{Counts, HasDiskFault}
use Rattle.provide_command.specs.Outcome.{journal_fault, disk_fault_line, status_of}
use Rattle.provide_command.specs.Phases.{Reading}
use Rattle.provide_command.specs.Promise.{is_told, read_fault_line, Writes, WritesFront, promise_of, ended, IsSameEnd, IsKept}
use Rattle.provide_command.specs.UpTo.{HaltsAt}
use Rattle.provide_command.specs.declared.output.Fault.{Fault}
use Rattle.provide_command.specs.declared.output.Halt.{Halt}
use Rattle.provide_command.specs.declared.status.Ending.{Ending}
use Rattle.provide_command.specs.declared.status.Status.{Status}

---- Behind a disk

-- the file reads so, where it is told
abbrev pub ReadsAs : Option (List ℕ) → Reading → Type 0
ReadsAs file read = IfSome file (λ bytes. recovers batch_of bytes ≡ read)

-- what a disk reads, where it tells
abbrev pub file_of : Option History → Option (List ℕ)
file_of history = option_map seen history

-- the lines behind a whole topology have ended as is promised, or halted, by what the file reads as
abbrev pub ServedTo : Option (List ℕ) → ℕ → (first start : Option (List ℕ)) → Result Ending Halt → Held → (left new : Option (List ℕ)) → Type 0
ServedTo file most first start (Ok ending) held left new = (read : Reading) × ReadsAs file read × IsSameEnd (promise_of read most first start) (ended ending new)
ServedTo file most first start (Err halt) held left new = (read : Reading) × ReadsAs file read × HaltsAt read most first start halt held left new

---- Journals that weren't begun

-- its bytes are none
abbrev pub IsUnread : StartCause → Type 0
IsUnread (StartCause.NotAJournal place) = Unit {0}
IsUnread _ = ⊥

-- its disk failed or stopped
abbrev pub HasFailed : StartCause → Type 0
HasFailed cause = (cause ≡ StartCause.DiskFault) ⊎ (cause ≡ StartCause.Stopped)

-- what is written of it
abbrev pub refused_text : List ℕ → StartCause → List ℕ
refused_text name (StartCause.NotAJournal place) = journal_fault name place
refused_text name _ = []

---- Conclusions

-- a line is written at last; or a front of it, where writing fails or memory is wanting
pub record EndsByLine (line : List ℕ) (fault status : Status) (content new : Option (List ℕ)) (writes now_writes : ℕ) : Type 0 where
  pub kind : (status ≡ fault) ⊎ ((status ≡ Status.WriteFault) ⊎ (status ≡ Status.NoMemory))
  pub told : status ≡ fault → Writes content new line
  pub front : (status ≡ fault → ⊥) → WritesFront content new line
  pub write : status ≡ Status.WriteFault → writes < now_writes
  pub quiet : status ≡ fault → now_writes ≡ writes
  pub memory : status ≡ Status.NoMemory → now_writes ≡ writes

-- nothing more is written
pub record EndsSilently (fault status : Status) (content new : Option (List ℕ)) (writes now_writes : ℕ) : Type 0 where
  pub is : status ≡ fault
  pub same : new ≡ content
  pub quiet : now_writes ≡ writes

-- a fault from outside; one of reading is written
abbrev pub ConcludesFault : Fault → Status → (content new : Option (List ℕ)) → (writes now_writes : ℕ) → Type 0
ConcludesFault Fault.Read status content new writes now_writes = EndsByLine read_fault_line Status.ReadFault status content new writes now_writes
ConcludesFault Fault.Write status content new writes now_writes = EndsSilently Status.WriteFault status content new writes now_writes
ConcludesFault Fault.NoMemory status content new writes now_writes = EndsSilently Status.NoMemory status content new writes now_writes

-- the status of an end, and what is written of why lines halted: the fault of the disk of this agent
abbrev pub Concludes : List ℕ → Result Ending Halt → Status → (content new : Option (List ℕ)) → (writes now_writes : ℕ) → Type 0
Concludes name (Ok ending) status content new writes now_writes = EndsSilently (status_of ending) status content new writes now_writes
Concludes name (Err (Halt.Outside fault)) status content new writes now_writes = ConcludesFault fault status content new writes now_writes
Concludes name (Err Halt.Disk) status content new writes now_writes = EndsByLine (disk_fault_line name) Status.DiskFault status content new writes now_writes

---- The command

-- all that it has written is what was promised, or up to where it was cut off
pub record HasProvided (holds : List ℕ → Option (List ℕ)) (most : ℕ) (content left rest : Option (List ℕ)) (before after : Counts) (status : Status) (new : Option (List ℕ)) : Type 0 where
  pub ends : is_told status ≡ true → WithReading holds left (λ read. IsKept (promise_of read most content left) status new)
  pub cut : status ≡ Status.ReadFault → WithReading holds left (λ read. IsCutByFault read most content left rest new)
  pub broken : status ≡ Status.DiskFault → IsBroken most holds content left new
  pub unfinished : (status ≡ Status.WriteFault) ⊎ (status ≡ Status.NoMemory) → IsCutShort most holds content left rest before after new

-- each fault has raised its count, and none else has risen
pub record CountsEnd (before after : Counts) (writes now_writes : ℕ) (status : Status) : Type 0 where
  pub not_usage : status ≡ Status.Usage → ⊥
  pub read_fault : status ≡ Status.ReadFault → before.reads < after.reads
  pub write_fault : status ≡ Status.WriteFault → writes < now_writes
  pub disk_fault : status ≡ Status.DiskFault → HasDiskFault before after
  pub quiet_in : is_told status ≡ true → after.reads ≡ before.reads
  pub quiet_out : is_told status ≡ true → now_writes ≡ writes
  pub quiet_faults : is_told status ≡ true → Raised before.faults 0 after.faults
  pub quiet_stops : is_told status ≡ true → Raised before.stops 0 after.stops
  pub reading : status ≡ Status.ReadFault → now_writes ≡ writes
  pub memory : status ≡ Status.NoMemory → now_writes ≡ writes

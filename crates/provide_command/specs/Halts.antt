-- Why lines aren't served to their end, and what a line makes.
use Rattle.std.specs.Prelude.{◌≡◌, ◌≤◌, ◌<◌, ◌⊎◌, ℕ, List, Option, Some, None, Result, OnOk, IsErrOf, IfSome}
use Rattle.std.specs.List.{All}
use Rattle.nsi_disk.specs.Disk.{Meter}
use Rattle.nsi_primitive.specs.Printable.{IsPrintableEntry}
use Rattle.provide_command.specs.Lines.{long_line}
use Rattle.provide_command.specs.Phases.{Step, goes_to, ends_as, in_service}
use Rattle.provide_command.specs.Serving.{Serving}
use Rattle.provide_command.specs.declared.output.Fault.{Fault}
use Rattle.provide_command.specs.declared.output.Halt.{Halt}
use Rattle.provide_command.specs.declared.service.Answer.{Answer}
use Rattle.provide_command.specs.declared.status.Ending.{Ending}

-- a journal's counts don't fall, and rise only where the disk has failed or stopped, or memory was wanting
pub record HasHaltCause {A : Type 0} (result : Result A Halt) (old new : Meter) : Type 0 where
  pub faults : old.faults ≤ new.faults
  pub stops : old.stops ≤ new.stops
  pub quiet : OnOk result (new.faults ≡ old.faults)
  pub calm : OnOk result (new.stops ≡ old.stops)
  pub disk : IsErrOf result Halt.Disk → (old.faults < new.faults) ⊎ (old.stops < new.stops)

-- a sink's count of faults rises where writing failed; else it stays, and nothing is read
pub record CountsHalts {A : Type 0} (result : Result A Halt) (old new : ℕ) : Type 0 where
  pub write : IsErrOf result (Halt.Outside Fault.Write) → old < new
  pub not_read : IsErrOf result (Halt.Outside Fault.Read) → ⊥
  pub quiet : OnOk result (new ≡ old)
  pub memory : IsErrOf result (Halt.Outside Fault.NoMemory) → new ≡ old
  pub disk : IsErrOf result Halt.Disk → new ≡ old

-- The counts of source and sink rise only where reading or writing failed; each such fault raised its own.
pub record HasHaltCounts {A : Type 0} (result : Result A Halt) (reads now_reads writes now_writes : ℕ) : Type 0 where
  pub read : IsErrOf result (Halt.Outside Fault.Read) → reads < now_reads
  pub write : IsErrOf result (Halt.Outside Fault.Write) → writes < now_writes
  pub quiet_in : OnOk result (now_reads ≡ reads)
  pub quiet_out : OnOk result (now_writes ≡ writes)
  pub write_in : IsErrOf result (Halt.Outside Fault.Write) → now_reads ≡ reads
  pub read_out : IsErrOf result (Halt.Outside Fault.Read) → now_writes ≡ writes
  pub memory_in : IsErrOf result (Halt.Outside Fault.NoMemory) → now_reads ≡ reads
  pub memory_out : IsErrOf result (Halt.Outside Fault.NoMemory) → now_writes ≡ writes
  pub disk_in : IsErrOf result Halt.Disk → now_reads ≡ reads
  pub disk_out : IsErrOf result Halt.Disk → now_writes ≡ writes

-- why entries weren't kept
abbrev pub IsKeepHalt : Halt → Type 0
IsKeepHalt halt = (halt ≡ Halt.Disk) ⊎ (halt ≡ Halt.Outside Fault.NoMemory)

-- the entries of an answer can be printed
abbrev pub ArePrintable : Option Answer → Type 0
ArePrintable answer = IfSome answer (λ a. All IsPrintableEntry a.entries.items)

-- without an answer there are too many events
abbrev pub ending_of : Option Answer → Option Ending
ending_of (Some a) = None
ending_of None = Some Ending.Long

abbrev pub text_of : Option Answer → List ℕ
text_of (Some a) = a.text.items
text_of None = long_line

-- what comes after a line: the service goes on, or the command ends
abbrev pub step_of : Option Ending → Serving → Step
step_of None s = goes_to (in_service s)
step_of (Some ending) s = ends_as ending

-- a service goes on, or the journal is too long
abbrev pub opened_step : Option Serving → Step
opened_step (Some s) = goes_to (in_service s)
opened_step None = ends_as Ending.Long

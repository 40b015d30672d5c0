-- How the command `run` ends, as the program tells it.
use Rattle.std.specs.Prelude.{◌≡◌, ℕ, List}
use Rattle.agent_threads.specs.declared.report.RunOptions.{RunOptions}
use Rattle.run_command.specs.declared.command.RunEnd.{RunEnd}
use Rattle.run_command.specs.Runs.{Disks, Runs}
use Rattle.provide_command.specs.declared.status.Status.{Status}
use Rattle.command_words.specs.declared.command.Play.{Play}

abbrev pub status_of_run : RunEnd → Status
status_of_run RunEnd.Done = Status.Done
status_of_run RunEnd.BadTopology = Status.BadTopology
status_of_run RunEnd.BadScript = Status.BadScript
status_of_run RunEnd.Long = Status.Long
status_of_run RunEnd.NoMemory = Status.NoMemory
status_of_run RunEnd.ReadFault = Status.ReadFault
status_of_run RunEnd.WriteFault = Status.WriteFault
status_of_run RunEnd.DiskFault = Status.DiskFault
status_of_run RunEnd.NotAJournal = Status.NotAJournal

-- how far a run may go, and what is written of it
abbrev pub options_of : Play → RunOptions
options_of play = record { limit = play.most; report = play.report }

-- `run` ends on these bytes over such disks with this status, and that is all that it writes
abbrev pub RunsTo : RunOptions → Disks → List ℕ → Status → List ℕ → Type 0
RunsTo options d bytes status text = (end : RunEnd) × (status ≡ status_of_run end) × Runs options d bytes end text

-- behind a run that ends so the counts of disks may have risen: in the round that has too many events, and where a journal has no reading
abbrev pub HidesDisks : Status → Type 0
HidesDisks Status.Long = Unit {0}
HidesDisks Status.NotAJournal = Unit {0}
HidesDisks _ = ⊥

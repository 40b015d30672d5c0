-- How a command that takes no lock ends: all that is promised of it, of what is outside before and after.
use Rattle.std.specs.Prelude.{◌≡◌, ◌<◌, ◌⊎◌, ℕ, List, Option, Some, IfSome, true}
use Rattle.fault_lines.specs.Counts.{Counts}
use Rattle.command_words.specs.declared.command.Command.{Command}
use Rattle.command_words.specs.declared.command.Load.{Load}
use Rattle.command_words.specs.declared.command.Play.{Play}
use Rattle.nsi_script.specs.Load.{load_of}
use Rattle.provide_command.specs.declared.status.Status.{Status}
use Rattle.provide_command.specs.Backed.{Backs}
use Rattle.provide_command.specs.Ends.{WithReading}
use Rattle.provide_command.specs.Promise.{is_told, read_fault_line, Writes, IsComplete, IsSafe, NamesFault}
use Rattle.run_command.specs.Runs.{Disks, disks, KeepsRun, IsHeavy, IsLight}
use Rattle.nsi_program.specs.Ends.{HasEnded, IsChecked, IsCut, IsBroken, IsCutShort, ReadsTopology, TellsDisks, AreQuiet, HasDiskEnd, NoneFailed, IsDoneOrShort}
use Rattle.nsi_program.specs.RunsTo.{options_of}

-- what a sink has, what a source still has, what disks hold, and the counts of all their faults
pub record Outside : Type 0 where
  pub content : Option (List ℕ)
  pub left : Option (List ℕ)
  pub holds : List ℕ → Option (List ℕ)
  pub counts : Counts
  pub writes : ℕ

abbrev pub outside : (content left : Option (List ℕ)) (holds : List ℕ → Option (List ℕ)) (reads faults stops writes : ℕ) → Outside
outside content left holds reads faults stops writes =
    record { content = content; left = left; holds = holds; counts = record { reads = reads; faults = faults; stops = stops }; writes = writes }

-- what disks held before and hold behind it, and how often they were stopped
abbrev pub disks_of : (old new : Outside) → Disks
disks_of old new = disks old.holds new.holds old.counts.stops new.counts.stops

-- the clauses of `top_plain`, by their names
pub record EndsPlainly (command : Option Command) (old new : Outside) (status : Status) : Type 0 where
  pub ends : is_told status ≡ true → HasEnded command (disks_of old new) old.content old.left status new.content
  pub complete : (most : ℕ) → command ≡ Some (Command.Provide most) → is_told status ≡ true → WithReading old.holds old.left (λ read. IsComplete read most old.content old.left status)
  pub safe : (most : ℕ) → command ≡ Some (Command.Provide most) → is_told status ≡ true → WithReading old.holds old.left (λ read. IsSafe read old.content old.left status new.content)
  pub checked : command ≡ Some Command.Check → is_told status ≡ true → IsChecked old.content old.left status
  pub generated : (load : Load) → command ≡ Some (Command.Generate load) → is_told status ≡ true → (status ≡ Status.Done) × Writes old.content new.content (load_of load.from load.size)
  pub bad_topology : ReadsTopology command → is_told status ≡ true → NamesFault old.content old.left status new.content
  pub read_fault : status ≡ Status.ReadFault → old.counts.reads < new.counts.reads
  pub cut : status ≡ Status.ReadFault → IsCut command old.holds old.content old.left new.left new.content
  pub alone : command ≡ Some Command.Check → status ≡ Status.ReadFault → Writes old.content new.content read_fault_line
  pub write_fault : status ≡ Status.WriteFault → old.writes < new.writes
  pub unfinished : (status ≡ Status.WriteFault) ⊎ (status ≡ Status.NoMemory) → IsCutShort command (disks_of old new) old.content old.left new.left old.counts new.counts new.content
  pub disk_fault : status ≡ Status.DiskFault → HasDiskEnd command old.counts new.counts
  pub broken : status ≡ Status.DiskFault → IsBroken command (disks_of old new) old.content old.left new.content
  pub backed : (most : ℕ) → command ≡ Some (Command.Provide most) → Backs old.holds new.holds old.content old.left new.content
  pub journals : (play : Play) → command ≡ Some (Command.Run play) → status ≡ Status.Done → IfSome old.left (λ bytes. KeepsRun bytes (disks_of old new))
  pub settles : (play : Play) → command ≡ Some (Command.Run play) → status ≡ Status.Long → IfSome old.left (λ bytes. IsHeavy (options_of play) (disks_of old new) bytes)
  pub completes : (play : Play) → command ≡ Some (Command.Run play) → NoneFailed old.counts new.counts old.writes new.writes → IfSome old.left (λ bytes. IfSome old.content (λ content. IsLight play.most old.holds bytes → IsDoneOrShort status))
  pub quiet_in : is_told status ≡ true → new.counts.reads ≡ old.counts.reads
  pub quiet_out : is_told status ≡ true → new.writes ≡ old.writes
  pub quiet_disk : is_told status ≡ true → TellsDisks command status → AreQuiet command old.counts new.counts
  pub reading : status ≡ Status.ReadFault → new.writes ≡ old.writes
  pub memory : status ≡ Status.NoMemory → new.writes ≡ old.writes

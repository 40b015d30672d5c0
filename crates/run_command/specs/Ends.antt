-- How a run ends, and what stands then.
use Rattle.std.specs.Prelude.{◌≡◌, ◌<◌, ◌⊎◌, ℕ, Bool, true, false, List, ◌++◌, take, length, Option, Some, IfSome}
use Rattle.nsi_outside.specs.Stream.{WritesAll, WritesFront}
use Rattle.stp_topology.specs.declared.network.Network.{Network}
use Rattle.stp_topology.specs.Network.{name_of}
use Rattle.nsi_script.specs.declared.script.Script.{Script}
pub use Rattle.fault_lines.specs.Counts.{Counts, counted, HasRisen}
use Rattle.fault_lines.specs.Lines.{journal_fault, disk_fault_line, long_line, read_fault_line}
use Rattle.agent_threads.specs.declared.fault.RunFault.{RunFault}
use Rattle.agent_threads.specs.declared.report.RunOptions.{RunOptions}
use Rattle.run_command.specs.declared.command.RunEnd.{RunEnd}
use Rattle.net_run.specs.Shelves.{IsQuiet as IsShelfQuiet}
use Rattle.run_command.specs.Runs.{Disks, Plays, BeginsPlay, BreaksPlay, Runs, Begins, Breaks}

-- an end that is neither want of memory nor a fault of reading, writing or a disk
abbrev pub is_told : RunEnd → Bool
is_told RunEnd.NoMemory = false
is_told RunEnd.ReadFault = false
is_told RunEnd.WriteFault = false
is_told RunEnd.DiskFault = false
is_told _ = true

-- where the sink tells, a text of which it holds was appended
abbrev pub WritesSome : (List ℕ → Type 0) → Option (List ℕ) → Option (List ℕ) → Type 0
WritesSome P old new = IfSome old (λ c. (text : List ℕ) × P text × (new ≡ Some (c ++ text)))

-- where the sink tells, a front of a text of which it holds was appended
abbrev pub WritesSomeFront : (List ℕ → Type 0) → Option (List ℕ) → Option (List ℕ) → Type 0
WritesSomeFront P old new = IfSome old (λ c. (text : List ℕ) × (k : ℕ) × P text × (new ≡ Some (c ++ take k text)))

---- Runs that were cut short

-- a call of a disk has failed
abbrev pub HasFaulted : Counts → Counts → Type 0
HasFaulted before after = HasRisen before.faults after.faults

-- Writing was cut short: in the run, or behind a fault of reading or of a disk, whose counts then rose.
abbrev pub IsCutShort : RunOptions → Disks → (content left : Option (List ℕ)) → (before after : Counts) → Option (List ℕ) → Type 0
IsCutShort options d content left before after new =
    ((after.reads ≡ before.reads) × IfSome left (λ bytes. WritesSomeFront (Begins options d bytes) content new)) ⊎ ((before.reads < after.reads) × WritesFront content new read_fault_line)
    ⊎ (HasFaulted before after × IfSome left (λ bytes. WritesSomeFront (Breaks options d bytes) content new))

---- Steps of a run

-- an end that a line tells
pub record IsTold (end : RunEnd) : Type 0 where
  pub write : end ≡ RunEnd.WriteFault → ⊥
  pub memory : end ≡ RunEnd.NoMemory → ⊥

-- a text is written at last; or a front of it, where writing fails or memory is wanting
pub record Closes (text : List ℕ) (own end : RunEnd) (old new : Option (List ℕ)) (faults_before faults_after : ℕ) : Type 0 where
  pub kind : (end ≡ own) ⊎ ((end ≡ RunEnd.WriteFault) ⊎ (end ≡ RunEnd.NoMemory))
  pub told : end ≡ own → WritesAll old new text
  pub front : WritesFront old new text
  pub write : end ≡ RunEnd.WriteFault → faults_before < faults_after
  pub quiet : (end ≡ RunEnd.WriteFault → ⊥) → faults_after ≡ faults_before

-- a disk that has failed, or a journal without a reading, is that of an agent of the topology
abbrev pub IsOfAgent : Network → RunFault → Type 0
IsOfAgent t (RunFault.DiskFault agent) = agent < length t.agents
IsOfAgent t (RunFault.NotAJournal agent place) = agent < length t.agents
IsOfAgent t fault = Unit {0}

-- nothing more is written
pub record EndsSilently (own end : RunEnd) (old new : Option (List ℕ)) (faults_before faults_after : ℕ) : Type 0 where
  pub is : end ≡ own
  pub same : new ≡ old
  pub still : faults_after ≡ faults_before

-- an end behind which the counts of disks may have risen: in the round that has too many events, and where a journal has no reading
abbrev pub HidesDisks : RunEnd → Type 0
HidesDisks RunEnd.Long = Unit {0}
HidesDisks RunEnd.NotAJournal = Unit {0}
HidesDisks _ = ⊥

-- why a play has failed is told, but where writing has failed or memory is wanting
abbrev pub FailsAs : Network → RunFault → RunEnd → (old new : Option (List ℕ)) → (faults_before faults_after : ℕ) → Type 0
FailsAs t RunFault.Long end old new before after = Closes long_line RunEnd.Long end old new before after
FailsAs t RunFault.WriteFault end old new before after = EndsSilently RunEnd.WriteFault end old new before after
FailsAs t (RunFault.DiskFault agent) end old new before after = Closes (disk_fault_line (name_of t agent)) RunEnd.DiskFault end old new before after
FailsAs t (RunFault.NotAJournal agent place) end old new before after = Closes (journal_fault (name_of t agent) place) RunEnd.NotAJournal end old new before after
FailsAs t RunFault.NoMemory end old new before after = EndsSilently RunEnd.NoMemory end old new before after

-- no call of a disk has failed
abbrev pub IsQuiet : Counts → Counts → Type 0
IsQuiet before after = IsShelfQuiet before.faults after.faults before.stops after.stops

-- What a run has come to that writes one of these texts, or these where a disk has failed: how it has ended, what the sink has taken, and which counts have
-- risen.
pub record HasRun (Texts : RunEnd → List ℕ → Type 0) (Fronts Broken : List ℕ → Type 0) (old new : Option (List ℕ)) (before after : Counts) (faults_before faults_after : ℕ) (end : RunEnd) : Type 0 where
  pub ends : is_told end ≡ true → WritesSome (Texts end) old new
  pub broken : end ≡ RunEnd.DiskFault → WritesSome Broken old new
  pub disk : end ≡ RunEnd.DiskFault → HasFaulted before after
  pub unfinished :
      (end ≡ RunEnd.WriteFault) ⊎ (end ≡ RunEnd.NoMemory)
      → WritesSomeFront Fronts old new ⊎ (HasFaulted before after × WritesSomeFront Broken old new)
  pub write : end ≡ RunEnd.WriteFault → faults_before < faults_after
  pub quiet : (end ≡ RunEnd.WriteFault → ⊥) → faults_after ≡ faults_before
  pub quiet_disk : is_told end ≡ true → (HidesDisks end → ⊥) → IsQuiet before after
  pub read : end ≡ RunEnd.ReadFault → ⊥

-- a script is played
abbrev pub HasPlayed : RunOptions → Disks → Network → Script → (old new : Option (List ℕ)) → (before after : Counts) → (faults_before faults_after : ℕ) → RunEnd → Type 0
HasPlayed options d t script = HasRun (Plays options d t script) (BeginsPlay options d t script) (BreaksPlay options d t script)

-- an input is read
abbrev pub HasRead : RunOptions → Disks → List ℕ → (old new : Option (List ℕ)) → (before after : Counts) → (faults_before faults_after : ℕ) → RunEnd → Type 0
HasRead options d bytes = HasRun (Runs options d bytes) (Begins options d bytes) (Breaks options d bytes)

-- How each command may end, and all that the sink has then.
use Rattle.std.specs.Prelude.{◌≡◌, ◌≤◌, ◌<◌, ◌⊎◌, ⊤, ℕ, List, ◌++◌, length, codes, Option, Some, None, Ok, option_map, IfSome}
use Rattle.nsi_base.specs.Lines.{lines_of}
use Rattle.nsi_base.specs.Range.{greatest_input}
use Rattle.stp_topology.specs.declared.network.Network.{Network}
use Rattle.stp_topology.specs.Network.{nothing}
use Rattle.stp_topology.specs.Text.{read_lines}
use Rattle.fault_lines.specs.Counts.{Counts, HasDiskFault}
use Rattle.fault_lines.specs.Lines.{as_line, read_fault_line}
use Rattle.command_words.specs.declared.command.Command.{Command}
use Rattle.command_words.specs.declared.command.Load.{Load}
use Rattle.nsi_script.specs.Load.{load_of}
use Rattle.provide_command.specs.declared.status.Status.{Status}
use Rattle.provide_command.specs.Cut.{IsCutByFault, IsFrontOfCut, IsStopped}
use Rattle.provide_command.specs.Ends.{WithReading, IsBroken as IsProvideBroken, IsCutInDisk as IsProvideCutInDisk}
use Rattle.provide_command.specs.Promise.{behind_content, promise_of, Writes, WritesFront, IsKept}
use Rattle.provide_command.specs.Writes.{WritesSome, WritesSomeFront}
use Rattle.nsi_disk.specs.ShelfCounts.{Raised}
use Rattle.run_command.specs.Ends.{IsQuiet, HasFaulted}
use Rattle.run_command.specs.Runs.{Disks, Begins as RunBegins, Breaks}
use Rattle.nsi_program.specs.Check.{Checks, Begins}
use Rattle.nsi_program.specs.RunsTo.{RunsTo, options_of, HidesDisks}
use Rattle.nsi_program.specs.VerifiesTo.{VerifiesTo, BeginsVerify}

-- words of no form are answered by a fault, whatever the input
abbrev pub usage_promise : Option (List ℕ) → Option (Status × List ℕ)
usage_promise content = option_map (λ c. (Status.Usage, c ++ as_line (codes "fault usage"))) content

-- a load is written, whatever the input
abbrev pub load_promise : Load → Option (List ℕ) → Option (Status × List ℕ)
load_promise load content = option_map (λ c. (Status.Done, c ++ load_of load.from load.size)) content

-- where source and sink tell, the promise is an end that the bytes may have, behind what stands already
abbrev pub Promises : (List ℕ → Status × List ℕ → Type 0) → Option (List ℕ) → Option (List ℕ) → Option (Status × List ℕ) → Type 0
Promises ends None left promise = promise ≡ None
Promises ends (Some c) None promise = promise ≡ None
Promises ends (Some c) (Some bytes) promise = (end : Status × List ℕ) × ends bytes end × (promise ≡ Some (behind_content c end))

---- Ends

-- A call of a disk has failed, or but in `run`, whose agents go on from what a stop leaves, has stopped it.
abbrev pub HasDiskEnd : Option Command → Counts → Counts → Type 0
HasDiskEnd (Some (Command.Run play)) before after = HasFaulted before after
HasDiskEnd _ before after = HasDiskFault before after

-- No call of the source, of the sink or of a disk has failed.
pub record NoneFailed (before after : Counts) (writes_before writes_after : ℕ) : Type 0 where
  pub reads : after.reads ≡ before.reads
  pub writes : writes_after ≡ writes_before
  pub disks : HasFaulted before after → ⊥

-- All is done, or memory was wanting.
abbrev pub IsDoneOrShort : Status → Type 0
IsDoneOrShort status = (status ≡ Status.Done) ⊎ (status ≡ Status.NoMemory)

-- what the command, its input and its journal promise of how it ends
abbrev pub MayEnd : Option Command → Disks → Option (List ℕ) → Option (List ℕ) → Option (Status × List ℕ) → Type 0
MayEnd None d content left promise = promise ≡ usage_promise content
MayEnd (Some (Command.Provide most)) d content left promise = WithReading d.held left (λ read. promise ≡ promise_of read most content left)
MayEnd (Some (Command.Run play)) d content left promise = Promises (λ bytes end. RunsTo (options_of play) d bytes end.0 end.1) content left promise
MayEnd (Some Command.Check) d content left promise = Promises (λ bytes end. Checks bytes end.0 end.1) content left promise
MayEnd (Some (Command.Verify most)) d content left promise = Promises (λ bytes end. VerifiesTo most bytes end.0 end.1) content left promise
MayEnd (Some (Command.Generate load)) d content left promise = promise ≡ load_promise load content

-- the command has ended as it may
abbrev pub HasEnded : Option Command → Disks → Option (List ℕ) → Option (List ℕ) → Status → Option (List ℕ) → Type 0
HasEnded command d content left status new = (promise : Option (Status × List ℕ)) × MayEnd command d content left promise × IsKept promise status new

-- Reading failed. `provide` has answered all lines that ended within what was read, `check`, `run` and `verify` none; `generate` and words of no form read nothing.
abbrev pub IsCut : Option Command → (List ℕ → Option (List ℕ)) → (content left rest new : Option (List ℕ)) → Type 0
IsCut None holds content left rest new = ⊥
IsCut (Some (Command.Provide most)) holds content left rest new = WithReading holds left (λ read. IsCutByFault read most content left rest new)
IsCut (Some (Command.Run play)) holds content left rest new = Writes content new read_fault_line
IsCut (Some Command.Check) holds content left rest new = Writes content new read_fault_line
IsCut (Some (Command.Verify most)) holds content left rest new = Writes content new read_fault_line
IsCut (Some (Command.Generate load)) holds content left rest new = ⊥

-- A disk failed, or that of `provide` stopped. `provide` has answered some first lines, `run` has written some first groups, and behind them stands
-- whose disk it was; no other command has a disk.
abbrev pub IsBroken : Option Command → Disks → (content left new : Option (List ℕ)) → Type 0
IsBroken (Some (Command.Provide most)) d content left new = IsProvideBroken most d.held content left new
IsBroken (Some (Command.Run play)) d content left new = IfSome left (λ bytes. WritesSome (Breaks (options_of play) d bytes) content new)
IsBroken _ d content left new = ⊥

-- Writing was cut short, and no read has failed.
abbrev pub IsCutInAnswers : Option Command → Disks → (content left new : Option (List ℕ)) → Type 0
IsCutInAnswers None d content left new = WritesFront content new (as_line (codes "fault usage"))
IsCutInAnswers (Some (Command.Provide most)) d content left new = WithReading d.held left (λ read. IsStopped read most content left new)
IsCutInAnswers (Some (Command.Run play)) d content left new = IfSome left (λ bytes. WritesSomeFront (RunBegins (options_of play) d bytes) content new)
IsCutInAnswers (Some Command.Check) d content left new = IfSome left (λ bytes. WritesSomeFront (Begins bytes) content new)
IsCutInAnswers (Some (Command.Verify most)) d content left new = IfSome left (λ bytes. WritesSomeFront (BeginsVerify most bytes) content new)
IsCutInAnswers (Some (Command.Generate load)) d content left new = WritesFront content new (load_of load.from load.size)

-- Writing was cut short within the line of a fault of reading.
abbrev pub IsCutInFault : Option Command → (List ℕ → Option (List ℕ)) → (content left rest new : Option (List ℕ)) → Type 0
IsCutInFault None holds content left rest new = ⊥
IsCutInFault (Some (Command.Provide most)) holds content left rest new = WithReading holds left (λ read. IsFrontOfCut read most content left rest new)
IsCutInFault (Some (Command.Run play)) holds content left rest new = WritesFront content new read_fault_line
IsCutInFault (Some Command.Check) holds content left rest new = WritesFront content new read_fault_line
IsCutInFault (Some (Command.Verify most)) holds content left rest new = WritesFront content new read_fault_line
IsCutInFault (Some (Command.Generate load)) holds content left rest new = ⊥

-- Writing was cut short within the line of a disk's fault.
abbrev pub IsCutInDisk : Option Command → Disks → (content left new : Option (List ℕ)) → Type 0
IsCutInDisk (Some (Command.Provide most)) d content left new = IsProvideCutInDisk most d.held content left new
IsCutInDisk (Some (Command.Run play)) d content left new = IfSome left (λ bytes. WritesSomeFront (Breaks (options_of play) d bytes) content new)
IsCutInDisk _ d content left new = ⊥

-- Writing was cut short: in the answers, or behind a fault of reading or of the disk, whose counts then rose.
abbrev pub IsCutShort : Option Command → Disks → (content left rest : Option (List ℕ)) → (before after : Counts) → Option (List ℕ) → Type 0
IsCutShort command d content left rest before after new =
    ((after.reads ≡ before.reads) × IsCutInAnswers command d content left new) ⊎ ((before.reads < after.reads) × IsCutInFault command d.held content left rest new)
    ⊎ (HasDiskEnd command before after × IsCutInDisk command d content left new)

-- The lines begin with a topology.
abbrev pub HasTopology : List (List ℕ) → Type 0
HasTopology lines = (t : Network) × (n : ℕ) × (read_lines nothing 0 lines ≡ Ok (t, n))

-- With a good topology and an input within the size `check` is done.
abbrev pub IsChecked : Option (List ℕ) → Option (List ℕ) → Status → Type 0
IsChecked content left status = IfSome content (λ _. IfSome left (λ bytes. length bytes ≤ greatest_input → HasTopology (lines_of bytes) → status ≡ Status.Done))

-- The command reads a topology.
abbrev pub ReadsTopology : Option Command → Type 0
ReadsTopology None = ⊥
ReadsTopology (Some (Command.Provide most)) = ⊤
ReadsTopology (Some (Command.Run play)) = ⊤
ReadsTopology (Some Command.Check) = ⊤
ReadsTopology (Some (Command.Verify most)) = ⊤
ReadsTopology (Some (Command.Generate load)) = ⊥

-- No call of a disk has failed, and but in `run`, whose agents go on from what a stop leaves, none has stopped a disk.
abbrev pub AreQuiet : Option Command → Counts → Counts → Type 0
AreQuiet (Some (Command.Run play)) before after = IsQuiet before after
AreQuiet _ before after = Raised before.faults 0 after.faults × Raised before.stops 0 after.stops

-- A fault of a disk is told: but where `run` has too many events, or a journal without a reading.
abbrev pub TellsDisks : Option Command → Status → Type 0
TellsDisks (Some (Command.Run play)) status = HidesDisks status → ⊥
TellsDisks _ status = ⊤

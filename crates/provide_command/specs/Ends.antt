-- How `provide` may end, by what its journal reads as, and all that the sink has then.
use Rattle.std.specs.Prelude.{◌≡◌, ◌<◌, ◌⊎◌, ℕ, List, ◌++◌, take, Option, Some, Ok, IfSome}
use Rattle.nsi_base.specs.Range.{greatest_input}
use Rattle.journal_entry.specs.Payloads.{batch_of}
use Rattle.journal_entry.specs.Journals.{recovers}
use Rattle.line_reader.specs.Given.{given_of}
use Rattle.stp_topology.specs.declared.network.Network.{Network}
use Rattle.stp_topology.specs.Network.{nothing, first_provider, name_of}
use Rattle.stp_topology.specs.Text.{read_lines}
use Rattle.fault_lines.specs.Counts.{Counts, HasDiskFault}
use Rattle.provide_command.specs.Cut.{IsFrontOfCut, IsStopped, AnswersThen}
use Rattle.provide_command.specs.Outcome.{disk_fault_line}
use Rattle.provide_command.specs.Phases.{Reading}

---- Journals

-- the lines begin with a topology that has this provider
abbrev pub Serves : List (List ℕ) → Network → ℕ → Type 0
Serves lines t provider = (n : ℕ) × (read_lines nothing 0 lines ≡ Ok (t, n)) × (first_provider t ≡ Some provider)

-- where the shelf tells what it holds under the name of the first provider, its journal reads so
abbrev pub IsReading : (List ℕ → Option (List ℕ)) → List (List ℕ) → Reading → Type 0
IsReading holds lines read = (t : Network) (provider : ℕ) → Serves lines t provider → IfSome (holds (name_of t provider)) (λ file. recovers batch_of file ≡ read)

abbrev pub lines_in : List ℕ → List (List ℕ)
lines_in bytes = (given_of greatest_input bytes).lines

-- where the source tells: some reading of the journal has this
abbrev pub WithReading : (List ℕ → Option (List ℕ)) → Option (List ℕ) → (Reading → Type 0) → Type 0
WithReading holds left P = (read : Reading) × IfSome left (λ bytes. IsReading holds (lines_in bytes) read) × P read

---- Ends

-- Its disk failed or stopped: some first lines are answered, and behind them stands whose disk it was.
abbrev pub IsBroken : ℕ → (List ℕ → Option (List ℕ)) → (content left new : Option (List ℕ)) → Type 0
IsBroken most holds content left new =
    WithReading holds left (λ read. IfSome content (λ c. IfSome left (λ bytes. (t : Network) × (provider : ℕ) × Serves (lines_in bytes) t provider
    × (text : List ℕ) × AnswersThen read most (given_of greatest_input bytes) (disk_fault_line (name_of t provider)) text × (new ≡ Some (c ++ text)))))

-- Writing was cut short within the line of a disk's fault.
abbrev pub IsCutInDisk : ℕ → (List ℕ → Option (List ℕ)) → (content left new : Option (List ℕ)) → Type 0
IsCutInDisk most holds content left new =
    WithReading holds left (λ read. IfSome content (λ c. IfSome left (λ bytes. (t : Network) × (provider : ℕ) × Serves (lines_in bytes) t provider × (k : ℕ)
    × (text : List ℕ) × AnswersThen read most (given_of greatest_input bytes) (take k (disk_fault_line (name_of t provider))) text × (new ≡ Some (c ++ text)))))

-- Writing was cut short: in the answers, or behind a fault of reading or of the disk, whose counts then rose.
abbrev pub IsCutShort : ℕ → (List ℕ → Option (List ℕ)) → (content left rest : Option (List ℕ)) → (before after : Counts) → Option (List ℕ) → Type 0
IsCutShort most holds content left rest before after new =
    ((after.reads ≡ before.reads) × WithReading holds left (λ read. IsStopped read most content left new))
    ⊎ ((before.reads < after.reads) × WithReading holds left (λ read. IsFrontOfCut read most content left rest new))
    ⊎ (HasDiskFault before after × IsCutInDisk most holds content left new)

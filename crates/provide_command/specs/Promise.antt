-- What the command will have written, as it goes on.
use Rattle.std.specs.Prelude.{◌≡◌, ◌≤◌, ◌<◌, ◌+◌, ◌⊎◌, ℕ, length, Ok, Err, List, ◌++◌, take, drop, Bool, true, false, Option, Some, option_map, option_and_then, IfSome}
use Rattle.line_reader.specs.Given.{Given, given_of}
use Rattle.nsi_base.specs.Lines.{lines_of}
use Rattle.std.specs.List.{All}
use Rattle.nsi_primitive.specs.Printable.{IsPrintableEntry}
use Rattle.nsi_base.specs.Range.{greatest_input}
use Rattle.stp_topology.specs.declared.network.Network.{Network}
use Rattle.stp_topology.specs.declared.fault.TopologyFault.{TopologyFault}
use Rattle.stp_topology.specs.Network.{nothing, first_provider}
use Rattle.stp_topology.specs.Text.{read_lines}
pub use Rattle.fault_lines.specs.Lines.{read_fault_line}
use Rattle.provider_agent.specs.Setting.{setting_of, own_stp}
use Rattle.provide_command.specs.Runs.{events_of, ServesSafely}
use Rattle.provide_command.specs.Outcome.{outcome, status_of, topology_fault}
use Rattle.provide_command.specs.declared.status.Ending.{Ending}
use Rattle.provide_command.specs.declared.status.Status.{Status}
use Rattle.provide_command.specs.Phases.{Reading, Phase, in_topology, Step, goes_to, ends_as}
use Rattle.provide_command.specs.Serving.{state_from}

-- where the sink tells, all of the text was appended
abbrev pub Writes : Option (List ℕ) → Option (List ℕ) → List ℕ → Type 0
Writes old new text = IfSome old (λ c. new ≡ Some (c ++ text))

-- where the sink tells, a front of the text was appended
abbrev pub WritesFront : Option (List ℕ) → Option (List ℕ) → List ℕ → Type 0
WritesFront old new text = IfSome old (λ c. (k : ℕ) × (new ≡ Some (c ++ take k text)))

-- an outcome behind what stands already
abbrev pub behind_content : List ℕ → Status × List ℕ → Status × List ℕ
behind_content content end = (end.0, content ++ end.1)

-- how it will end, and what the sink will have then, where sink and source tell
abbrev pub promised : Reading → ℕ → Phase → Option (List ℕ) → Option Given → Option (Status × List ℕ)
promised read number phase content given =
    option_and_then (λ c. option_map (λ g. behind_content c (outcome read g.long number phase g.lines)) given) content

-- at the end of the command
abbrev pub ended : Ending → Option (List ℕ) → Option (Status × List ℕ)
ended ending content = option_map (λ c. (status_of ending, c)) content

abbrev pub promised_after : Reading → ℕ → Step → Option (List ℕ) → Option Given → Option (Status × List ℕ)
promised_after read number (goes_to phase) content given = promised read number phase content given
promised_after read number (ends_as ending) content given = ended ending content

-- where it is told, it is the same
abbrev pub IsSameEnd : Option (Status × List ℕ) → Option (Status × List ℕ) → Type 0
IsSameEnd old new = IfSome old (λ end. new ≡ Some end)

-- the command has ended as was promised
abbrev pub IsKept : Option (Status × List ℕ) → Status → Option (List ℕ) → Type 0
IsKept promise status content = IfSome promise (λ end. (status ≡ end.0) × (content ≡ Some end.1))

-- the program's exit status
abbrev pub code_of : Status → ℕ
code_of Status.Done = 0
code_of Status.NoMemory = 1
code_of Status.ReadFault = 2
code_of Status.WriteFault = 3
code_of Status.Usage = 4
code_of Status.BadTopology = 5
code_of Status.BadScript = 6
code_of Status.DiskFault = 7
code_of Status.Long = 8
code_of Status.Differ = 9
code_of Status.NotAJournal = 10

-- the command `provide` before its first line
abbrev pub begun : ℕ → Phase
begun most = in_topology (record { topology = nothing; most = most })

-- what the whole input makes of the command `provide` behind its journal, where there may be so many events
abbrev pub promise_of : Reading → ℕ → Option (List ℕ) → Option (List ℕ) → Option (Status × List ℕ)
promise_of read most content left = promised read 1 (begun most) content (option_map (given_of greatest_input) left)

-- an end that is neither want of memory nor a fault of reading, writing or a disk
abbrev pub is_told : Status → Bool
is_told Status.NoMemory = false
is_told Status.ReadFault = false
is_told Status.WriteFault = false
is_told Status.DiskFault = false
is_told _ = true

-- done where the input is no longer than is taken and makes no more events than there may be, and else too long
abbrev pub EndsBy : (long : Bool) → ℕ → ℕ → Status → Type 0
EndsBy long most events status = ((long ≡ false) × (events ≤ most) × (status ≡ Status.Done)) ⊎ (((long ≡ true) ⊎ (most < events)) × (status ≡ Status.Long))

-- the same behind a journal that reads so, whose entries are events too; without a reading nothing is served
abbrev pub EndsRead : Reading → (long : Bool) → ℕ → Network → ℕ → List (List ℕ) → Status → Type 0
EndsRead (Ok es) long most t provider lines status = All IsPrintableEntry es → EndsBy long most (length es + events_of (setting_of t provider) (own_stp t provider) (state_from t provider es).state lines) status
EndsRead (Err place) long most t provider lines status = status ≡ Status.NotAJournal

-- With a topology that has a provider, the command is too long exactly where the input passes its size, or the journal and the lines make more events than
-- there may be, and else done.
abbrev pub IsComplete : Reading → ℕ → Option (List ℕ) → Option (List ℕ) → Status → Type 0
IsComplete read most content left status =
    IfSome content (λ _. IfSome left (λ bytes. (t : Network) (n provider : ℕ) → read_lines nothing 0 (given_of greatest_input bytes).lines ≡ Ok (t, n) → first_provider t ≡ Some provider
    → EndsRead read (given_of greatest_input bytes).long most t provider (drop n (given_of greatest_input bytes).lines) status))

-- What `provide` writes is the text of a safe run.
abbrev pub IsSafe : Reading → Option (List ℕ) → Option (List ℕ) → Status → Option (List ℕ) → Type 0
IsSafe read content left status new =
    IfSome content (λ c. IfSome left (λ bytes. (text : List ℕ) × (new ≡ Some (c ++ text)) × ServesSafely read (given_of greatest_input bytes).lines status text))

-- With a faulty line in the topology, and an input within the size, the first faulty line and its fault are all that is written.
abbrev pub NamesFault : Option (List ℕ) → Option (List ℕ) → Status → Option (List ℕ) → Type 0
NamesFault content left status new =
    IfSome content (λ c. IfSome left (λ bytes. (n : ℕ) (fault : TopologyFault) → length bytes ≤ greatest_input → read_lines nothing 0 (lines_of bytes) ≡ Err (n, fault)
    → (status ≡ Status.BadTopology) × (new ≡ Some (c ++ topology_fault n fault))))

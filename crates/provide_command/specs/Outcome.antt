-- How the command `provide` ends, and all that it has written then.
use Rattle.std.specs.Prelude.{◌≡◌, ℕ, ◌+◌, List, [], ◌∷◌, ◌++◌, length, nat_le, if◌then◌else◌, Bool, true, false, Option, Some, None, Result, Ok, Err}
use Rattle.stp_topology.specs.declared.network.Network.{Network}
use Rattle.stp_topology.specs.Network.{first_provider, name_of}
use Rattle.stp_topology.specs.Text.{of_line}
use Rattle.stp_topology.specs.declared.fault.TopologyFault.{TopologyFault}
use Rattle.stp_topology.specs.declared.topology.Taken.{Taken}
pub use Rattle.fault_lines.specs.Lines.{topology_fault, journal_fault, disk_fault_line}
use Rattle.provide_command.specs.Lines.{serve, long_line}
use Rattle.provide_command.specs.Serving.{Served, serving_of}
use Rattle.provide_command.specs.declared.status.Ending.{Ending}
use Rattle.provide_command.specs.declared.status.Status.{Status}
use Rattle.provide_command.specs.Phases.{Reading, Phase, in_topology, in_service, Step, goes_to, ends_as}

-- what is written for a line, and what comes after it
pub record Move : Type 0 where
  pub text : List ℕ
  pub step : Step

-- A provider goes on behind the entries of its journal, where they aren't more than there may be events.
abbrev pub begins_behind : ℕ → Network → ℕ → Reading → Move
begins_behind most t provider (Err place) = record { text = journal_fault (name_of t provider) place; step = ends_as Ending.NotAJournal }
begins_behind most t provider (Ok es) =
    if nat_le (length es) most then record { text = []; step = goes_to (in_service (serving_of t provider es most)) }
    else record { text = long_line; step = ends_as Ending.Long }

-- a topology without a provider serves nobody; with one, its journal is read
abbrev pub opened : Reading → ℕ → ℕ → Network → Option ℕ → Move
opened read most number t None = record { text = topology_fault number TopologyFault.Empty; step = ends_as Ending.BadTopology }
opened read most number t (Some provider) = begins_behind most t provider read

abbrev pub declared : Reading → ℕ → ℕ → Result Taken TopologyFault → Move
declared read most number (Err fault) = record { text = topology_fault number fault; step = ends_as Ending.BadTopology }
declared read most number (Ok (Taken.More t)) = record { text = []; step = goes_to (in_topology (record { topology = t; most = most })) }
declared read most number (Ok (Taken.Whole t)) = opened read most number t (first_provider t)

-- the lines go on, unless there are too many events
abbrev pub goes_on : Option Served → Move
goes_on None = record { text = long_line; step = ends_as Ending.Long }
goes_on (Some x) = record { text = x.text; step = goes_to (in_service x.serving) }

-- what a line does: the topology's lines come first
unfoldable pub move_of : Reading → ℕ → Phase → List ℕ → Move
move_of read number (in_topology d) line = declared read d.most number (of_line d.topology line)
move_of read number (in_service s) line = goes_on (serve s number line)

-- at the end of the lines; a topology without an end is faulty at the line after the last
abbrev pub end_of : ℕ → Phase → Ending × List ℕ
end_of number (in_topology d) = (Ending.BadTopology, topology_fault number TopologyFault.Word)
end_of number (in_service s) = (Ending.Done, [])

abbrev pub last_of : Bool → ℕ → Phase → Ending × List ℕ
last_of true number phase = (Ending.Long, long_line)
last_of false number phase = end_of number phase

-- the status of an end
abbrev pub status_of : Ending → Status
status_of Ending.Done = Status.Done
status_of Ending.BadTopology = Status.BadTopology
status_of Ending.Long = Status.Long
status_of Ending.NotAJournal = Status.NotAJournal

abbrev pub with_status : Ending × List ℕ → Status × List ℕ
with_status end = (status_of end.0, end.1)

-- a line's text, and what follows
abbrev pub behind : List ℕ → Step → (Phase → Status × List ℕ) → Status × List ℕ
behind text (ends_as ending) next = (status_of ending, text)
behind text (goes_to phase) next = ((next phase).0, text ++ (next phase).1)

-- With what the provider's journal reads as: the texts of the lines from a number on, one after another, up to the first that ends the command, and how it ends
unfoldable pub outcome : Reading → Bool → ℕ → Phase → List (List ℕ) → Status × List ℕ
outcome read long number phase [] = with_status (last_of long number phase)
outcome read long number phase (line ∷ lines) = behind (move_of read number phase line).text (move_of read number phase line).step (λ p. outcome read long (number + 1) p lines)

-- No line from a number on ends the command: what it goes on with behind them, and their texts, one after another.
abbrev pub GoesOn : Reading → ℕ → Phase → List (List ℕ) → Phase → List ℕ → Type 0
GoesOn read number phase [] next text = (next ≡ phase) × (text ≡ [])
GoesOn read number phase (line ∷ lines) next text =
    (between : Phase) × (rest : List ℕ) × ((move_of read number phase line).step ≡ goes_to between) × GoesOn read (number + 1) between lines next rest × (text ≡ (move_of read number phase line).text ++ rest)

-- what is written next: the answer to the first of the lines, or to their end
abbrev pub next_text : Reading → Bool → ℕ → Phase → List (List ℕ) → List ℕ
next_text read long number phase [] = (last_of long number phase).1
next_text read long number phase (line ∷ lines) = (move_of read number phase line).text

-- What the disk that is given back has of what was written.
use Rattle.std.specs.Prelude.{◌≡◌, ℕ, List, [], ◌++◌, take, Option, Some, Ok, Err, IfSome}
use Rattle.std.specs.List.{All}
use Rattle.nsi_primitive.specs.Printable.{IsPrintableEntry}
use Rattle.nsi_primitive.specs.declared.entry.Entry.{Entry}
use Rattle.nsi_primitive.specs.declared.message.Message.{Message}
use Rattle.journal_entry.specs.Journals.{recovers}
use Rattle.journal_entry.specs.Payloads.{batch_of}
use Rattle.stp_topology.specs.declared.network.Network.{Network}
use Rattle.stp_topology.specs.declared.fault.TopologyFault.{TopologyFault}
use Rattle.stp_topology.specs.Network.{name_of}
use Rattle.provider_agent.specs.Setting.{Setting, setting_of, own_stp}
use Rattle.provider_agent.specs.Runs.{after_all}
use Rattle.provider_agent.specs.Safety.{IsRun, IsSafe}
use Rattle.provider_agent.specs.Replay.{replayed, AreFirstOf}
use Rattle.provide_command.specs.Ends.{Serves, lines_in}
use Rattle.provide_command.specs.Lines.{long_line}
use Rattle.provide_command.specs.Outcome.{topology_fault, journal_fault, disk_fault_line}
use Rattle.provide_command.specs.Phases.{Reading}
use Rattle.provide_command.specs.Promise.{read_fault_line}
use Rattle.provide_command.specs.Runs.{IsWoven}

-- The file reads as the journal that was read and more entries behind it, a safe run from there; these are the lines of first messages that
-- these entries cause, with lines of faults between them. They may cause more messages where the disk failed behind what it kept.
pub record StandsFor (setting : Setting) (stp_of : List ℕ → Option ℕ) (reading : List ℕ → Reading) (stated : List Entry) (file lines : List ℕ) : Type 0 where
  pub more : List Entry
  pub recovered : reading file ≡ Ok (stated ++ more)
  pub run : IsRun setting stp_of (replayed setting stp_of stated) more
  pub safe : IsSafe setting stp_of (replayed setting stp_of stated) more
  pub messages : List Message
  pub first : AreFirstOf messages (after_all setting stp_of (replayed setting stp_of stated) more).out
  pub woven : IsWoven messages lines

-- the line that ends the command of the agent with this name, if any; none of these is the line of a message
pub data IsLast (name line : List ℕ) : Type 0 where
  last_none : line ≡ [] → IsLast name line
  last_long : line ≡ long_line → IsLast name line
  last_read : line ≡ read_fault_line → IsLast name line
  last_disk : line ≡ disk_fault_line name → IsLast name line
  last_journal : (place : ℕ) → line ≡ journal_fault name place → IsLast name line
  last_topology : (number : ℕ) (fault : TopologyFault) → line ≡ topology_fault number fault → IsLast name line

-- a front of the lines and of one behind them that ends the command
abbrev pub IsFrontOf : (name lines text : List ℕ) → Type 0
IsFrontOf name lines text = (last : List ℕ) × IsLast name last × (front : ℕ) × (text ≡ take front (lines ++ last))

-- So each whole line of a message in the text is caused by entries that the file recovers to.
pub record IsBacked (setting : Setting) (stp_of : List ℕ → Option ℕ) (stated : List Entry) (file text : List ℕ) : Type 0 where
  pub lines : List ℕ
  pub stands : StandsFor setting stp_of (recovers batch_of) stated file lines
  pub front : IsFrontOf setting.name lines text

-- By what the journal read as: its entries can be printed, as its reader promises. Without a reading no message is written, and there is none afterwards.
abbrev pub BacksRead : Reading → Network → ℕ → (file text : List ℕ) → Type 0
BacksRead (Ok stated) t provider file text = All IsPrintableEntry stated → IsBacked (setting_of t provider) (own_stp t provider) stated file text
BacksRead (Err place) t provider file text = (recovers batch_of file ≡ Err place) × IsFrontOf (name_of t provider) [] text

-- where sink and shelf tell: what was written is backed by what the shelf holds then under the provider's name
abbrev pub BacksProvider : (old_holds new_holds : List ℕ → Option (List ℕ)) → Network → ℕ → (content new : Option (List ℕ)) → Type 0
BacksProvider old_holds new_holds t provider content new =
    IfSome content (λ c. IfSome (old_holds (name_of t provider)) (λ old. (file : List ℕ) × (new_holds (name_of t provider) ≡ Some file)
    × (text : List ℕ) × (new ≡ Some (c ++ text)) × BacksRead (recovers batch_of old) t provider file text))

-- the same for the provider that the lines of a source that tells begin with
abbrev pub Backs : (old_holds new_holds : List ℕ → Option (List ℕ)) → (content left new : Option (List ℕ)) → Type 0
Backs old_holds new_holds content left new = IfSome left (λ bytes. (t : Network) (provider : ℕ) → Serves (lines_in bytes) t provider → BacksProvider old_holds new_holds t provider content new)

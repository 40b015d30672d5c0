-- What a service keeps of the lines that it answers, and what it leaves.
use Rattle.std.specs.Prelude.{◌≡◌, ◌≤◌, ◌⊎◌, ℕ, ◌+◌, Bool, true, false, List, [], ◌++◌, Option, Some, None, option_map, Result, Ok, Err, IfSome}
use Rattle.std.specs.List.{All}
use Rattle.nsi_primitive.specs.Printable.{IsPrintableEntry}
use Rattle.nsi_primitive.specs.declared.entry.Entry.{Entry}
use Rattle.nsi_disk.specs.Disk.{History, MayLeave}
use Rattle.journal_entry.specs.Journal.{Kept, Adds, MayLeaveSynced, MayLeaveWith}
use Rattle.journal_entry.specs.Journals.{recovers}
use Rattle.journal_entry.specs.Payloads.{batch_of}
use Rattle.stp_topology.specs.Network.{name_of}
use Rattle.stp_topology.specs.declared.network.Network.{Network}
use Rattle.provider_agent.specs.Setting.{Setting, setting_of, own_stp}
use Rattle.provider_agent.specs.Good.{IsGood}
use Rattle.provider_agent.specs.Runs.{after_all}
use Rattle.provider_agent.specs.Safety.{IsRun}
use Rattle.provider_agent.specs.Replay.{replayed}
use Rattle.provide_command.specs.Backed.{StandsFor, IsFrontOf}
use Rattle.provide_command.specs.Phases.{Reading}
use Rattle.provide_command.specs.Runs.{IsWoven}
use Rattle.provide_command.specs.Serving.{Serving, points_at}
use Rattle.provide_command.specs.declared.output.Fault.{Fault}
use Rattle.provide_command.specs.declared.output.Halt.{Halt}
use Rattle.provide_command.specs.declared.service.Answer.{Answer}
use Rattle.provide_command.specs.declared.status.Ending.{Ending}

-- A service that has served lines behind a journal: its state is that of its journal's entries, and where the sink tells, what was
-- written are the lines of the messages that they caused in this call, with lines of faults between them.
pub record HasKept (stated : List Entry) (s : Serving) (kept : Option Kept) (first now : Option (List ℕ)) : Type 0 where
  pub printable : All IsPrintableEntry stated
  pub more : List Entry
  pub run : IsRun s.standing.setting (points_at s) (replayed s.standing.setting (points_at s) stated) more
  pub state : s.standing.state ≡ (after_all s.standing.setting (points_at s) (replayed s.standing.setting (points_at s) stated) more).state
  pub good : IsGood s.standing.setting s.standing.state
  pub fits : s.standing.state.taken + s.others ≤ s.most
  pub most : s.most ≤ 2000000
  pub kept_is : IfSome kept (λ k. (k.synced ≡ stated ++ more) × (k.waiting ≡ []))
  pub text : IfSome first
      (λ c. (text : List ℕ) × IsWoven (after_all s.standing.setting (points_at s) (replayed s.standing.setting (points_at s) stated) more).out text × (now ≡ Some (c ++ text)))

-- the same of a service with this setting and these points
pub record KeepsAt (setting : Setting) (stp_of : List ℕ → Option ℕ) (stated : List Entry) (s : Serving) (kept : Option Kept) (first now : Option (List ℕ)) : Type 0 where
  pub setting_is : s.standing.setting ≡ setting
  pub points_are : points_at s ≡ stp_of
  pub has : HasKept stated s kept first now

-- What was written is all of such lines, or where nothing comes behind it, a front of them and maybe of one line more.
abbrev pub IsToldBy : (whole : Bool) (name lines text : List ℕ) → Type 0
IsToldBy true name lines text = text ≡ lines
IsToldBy false name lines text = IsFrontOf name lines text

-- these entries are synced too
abbrev pub with_added : List Entry → Option Kept → Option Kept
with_added es kept = option_map (λ k. record { synced = k.synced ++ es; waiting = [] }) kept

-- whatever a crash now leaves of a disk stands for what was written
abbrev pub LeavesTold : Bool → Setting → (List ℕ → Option ℕ) → (List ℕ → Reading) → List Entry → Option History → (first now : Option (List ℕ)) → Type 0
LeavesTold whole setting stp_of reading stated history first now =
    IfSome first (λ c. IfSome history (λ h. (file : List ℕ) → MayLeave h file → (lines : List ℕ) × StandsFor setting stp_of reading stated file lines
    × (text : List ℕ) × (now ≡ Some (c ++ text)) × IsToldBy whole setting.name lines text))

-- all lines so far are written whole where reading or the disk fails
abbrev pub is_whole : Halt → Bool
is_whole (Halt.Outside Fault.Read) = true
is_whole Halt.Disk = true
is_whole _ = false

-- at its end nothing comes behind what was written
abbrev pub ends_whole : Result Ending Halt → Bool
ends_whole (Ok ending) = false
ends_whole (Err halt) = is_whole halt

-- What a line leaves: the service goes on and has kept what it made, or whatever a crash leaves stands for what was written.
abbrev pub KeepsOn : Setting → (List ℕ → Option ℕ) → (List ℕ → Reading) → List Entry → Result (Option Ending) Halt → Serving → Option Kept → Option History → (first now : Option (List ℕ)) → Type 0
KeepsOn setting stp_of reading stated (Ok None) s kept history first now = KeepsAt setting stp_of stated s kept first now
KeepsOn setting stp_of reading stated (Ok (Some ending)) s kept history first now = LeavesTold false setting stp_of reading stated history first now
KeepsOn setting stp_of reading stated (Err halt) s kept history first now = LeavesTold (is_whole halt) setting stp_of reading stated history first now

-- Keeping an answer has halted: nothing was written, and the batch is kept whole or not at all; or all is kept, and a front was written.
abbrev pub HaltsKept : (List ℕ → Reading) → Halt → List Entry → (kept later : Option Kept) → Option History → (content new : Option (List ℕ)) → Type 0
HaltsKept reading halt es kept later history content new =
    ((new ≡ content) × MayLeaveWith reading es kept history) ⊎ ((is_whole halt ≡ false) × Adds es kept later × MayLeaveSynced reading later history)

-- what telling an answer leaves of the journal
abbrev pub KeepsAnswer : (List ℕ → Reading) → Option Answer → Result (Option Ending) Halt → (kept later : Option Kept) → Option History → (content new : Option (List ℕ)) → Type 0
KeepsAnswer reading (Some a) (Ok ending) kept later history content new = Adds a.entries.items kept later
KeepsAnswer reading (Some a) (Err halt) kept later history content new = HaltsKept reading halt a.entries.items kept later history content new
KeepsAnswer reading None (Ok ending) kept later history content new = MayLeaveSynced reading kept history
KeepsAnswer reading None (Err halt) kept later history content new = (is_whole halt ≡ false) × MayLeaveSynced reading kept history

-- what serving one line leaves, wherever its journal and its sink began
abbrev pub KeepsLine : (List ℕ → Reading) → Serving → Option Kept → Option (List ℕ) → Result (Option Ending) Halt → Serving → Option Kept → Option History → Option (List ℕ) → Type 0
KeepsLine reading s kept content result t later history new =
    (setting : Setting) (stp_of : List ℕ → Option ℕ) (stated : List Entry) (first : Option (List ℕ)) → KeepsAt setting stp_of stated s kept first content → KeepsOn setting stp_of reading stated result t later history first new

-- and all lines
abbrev pub KeepsLines : (List ℕ → Reading) → Serving → Option Kept → Option (List ℕ) → Result Ending Halt → Option History → Option (List ℕ) → Type 0
KeepsLines reading s kept content result history new =
    (setting : Setting) (stp_of : List ℕ → Option ℕ) (stated : List Entry) (first : Option (List ℕ)) → KeepsAt setting stp_of stated s kept first content → LeavesTold (ends_whole result) setting stp_of reading stated history first new

---- Behind a file

-- a journal that was just begun keeps these entries alone, where its disk tells
abbrev pub KeepsStated : List Entry → Option History → Option Kept → Type 0
KeepsStated stated history kept = IfSome history (λ h. kept ≡ Some (record { synced = stated; waiting = [] }))

-- by what the file read as, as for the disk that is given back
abbrev pub TellsRead : (whole : Bool) → Reading → Network → ℕ → (file text : List ℕ) → Type 0
TellsRead whole (Ok stated) t provider file text =
    All IsPrintableEntry stated → (lines : List ℕ) × StandsFor (setting_of t provider) (own_stp t provider) (recovers batch_of) stated file lines × IsToldBy whole (name_of t provider) lines text
TellsRead whole (Err place) t provider file text = (recovers batch_of file ≡ Err place) × IsToldBy whole (name_of t provider) [] text

-- the disk tells, and whatever a crash now leaves of it stands for what was written
abbrev pub LeavesBacked : Bool → List ℕ → Network → ℕ → Option History → (content new : Option (List ℕ)) → Type 0
LeavesBacked whole old t provider history content new =
    IfSome content (λ c. (h : History) × (history ≡ Some h) × ((file : List ℕ) → MayLeave h file → (text : List ℕ) × (new ≡ Some (c ++ text)) × TellsRead whole (recovers batch_of old) t provider file text))

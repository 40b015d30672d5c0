-- What the code of a book knows of it.
use Rattle.std.specs.Prelude.{◌≡◌, ◌⊎◌, ◌<◌, ◌≤◌, ℕ, Bool, false, List, [], ◌++◌, length, Option, Result, Ok, IfSome, is_some}
use Rattle.nsi_primitive.specs.declared.entry.Entry.{Entry}
use Rattle.stp_topology.specs.Sound.{IsProvider}
use Rattle.nsi_disk.specs.Disk.{History, Meter, MayLeave}
use Rattle.journal_entry.specs.Journal.{Kept, HasSameCounts}
use Rattle.agent_state.specs.Entries.{most_entries}
use Rattle.provider_agent.specs.Setting.{Setting, setting_of, own_stp}
use Rattle.provider_agent.specs.Replay.{replayed}
use Rattle.shared_provider.specs.declared.register.Register.{Register}
use Rattle.shared_provider.specs.declared.reply.BookFault.{BookFault}
use Rattle.shared_provider.specs.declared.reply.BookFault.TheVariants.{DiskFault, Closed, Full, NoMemory}
use Rattle.shared_provider.specs.History.{journal_of, IsHistory}
use Rattle.shared_provider.specs.Book.{Book, Held, counted, Recovers}

---- Of a register and its journal

abbrev pub book_of : Register → Book
book_of r = record { network = r.topology; agent = r.agent; state = r.provider.state; events = r.history.items; faults = r.faults }

abbrev pub held : Register → Meter → Held
held r meter = record { book = book_of r; meter = meter }

---- Of the journal

-- it keeps these entries, and these wait
pub record Keeps (disk : Option History) (kept : Option Kept) (synced waiting : List Entry) : Type 0 where
  pub told : is_some kept ≡ is_some disk
  pub same : IfSome kept (λ k. k ≡ record { synced = synced; waiting = waiting })

-- a crash now leaves these entries
abbrev pub LeavesThese : (List ℕ → Result (List Entry) ℕ) → Option History → List Entry → Type 0
LeavesThese reading disk synced = IfSome disk (λ h. (c : List ℕ) → MayLeave h c → reading c ≡ Ok synced)

-- or these with those that wait behind them
abbrev pub LeavesOneOf : (List ℕ → Result (List Entry) ℕ) → Option History → (synced waiting : List Entry) → Type 0
LeavesOneOf reading disk synced waiting = IfSome disk (λ h. (c : List ℕ) → MayLeave h c → (reading c ≡ Ok synced) ⊎ (reading c ≡ Ok (synced ++ waiting)))

-- a fault of the disk has been counted, and nothing where memory was wanting
abbrev pub HasFailed : Meter → Meter → BookFault → Type 0
HasFailed old new (DiskFault n) = (n ≡ 1) × (counted old < counted new)
HasFailed old new NoMemory = HasSameCounts old new
HasFailed old new (Closed n) = ⊥
HasFailed old new Full = ⊥

-- a fault of the disk closes the book
abbrev pub faults_by : BookFault → ℕ → ℕ
faults_by (DiskFault n) faults = 1
faults_by _ faults = faults

---- Of a book

-- it may be used, keeps the entries of the history, all is synced, and its disk has counted nothing
pub record IsRunning (ready : Type 0) (waits : Bool) (kept : Option Kept) (disk : Option History) (x : Held) : Type 0 where
  pub usable : ready
  pub none : waits ≡ false
  pub keeps : Keeps disk kept (journal_of x.book.events).entries []
  pub synced : (journal_of x.book.events).synced ≡ length (journal_of x.book.events).entries
  pub calm : counted x.meter ≡ 0

pub record IsShut (reading : List ℕ → Result (List Entry) ℕ) (disk : Option History) (x : Held) : Type 0 where
  pub one : x.book.faults ≡ 1
  pub counts : 0 < counted x.meter
  pub left : Recovers reading x.book disk

pub record IsSound (ready : Type 0) (waits : Bool) (kept : Option Kept) (disk : Option History) (reading : List ℕ → Result (List Entry) ℕ) (own : Setting) (x : Held) : Type 0 where
  pub setting : own ≡ setting_of x.book.network x.book.agent
  pub within : x.book.agent < length x.book.network.agents
  pub provider : IsProvider x.book.network x.book.agent
  pub history : IsHistory (setting_of x.book.network x.book.agent) (own_stp x.book.network x.book.agent) x.book.events
  pub state : x.book.state ≡ replayed (setting_of x.book.network x.book.agent) (own_stp x.book.network x.book.agent) (journal_of x.book.events).entries
  pub taken : x.book.state.taken ≡ length (journal_of x.book.events).entries
  pub most : x.book.state.taken ≤ most_entries
  pub runs : x.book.faults ≡ 0 → IsRunning ready waits kept disk x
  pub shut : 0 < x.book.faults → IsShut reading disk x

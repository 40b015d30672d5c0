-- A journal that is read again, and the agent that is made anew from it.
use Rattle.std.specs.Prelude.{◌≡◌, ◌<◌, ◌≤◌, ◌+◌, ◌⊎◌, ◌++◌, ℕ, List, [], Option, Some, None, Result, IfSome}
use Rattle.nsi_primitive.specs.declared.entry.Entry.{Entry}
use Rattle.nsi_disk.specs.Disk.{History, Meter, MayLeave}
use Rattle.nsi_disk.specs.ShelfCounts.{Raised}
use Rattle.nsi_disk.specs.declared.shelf.ShelfError.{ShelfError}
use Rattle.journal_entry.specs.Journal.{Kept as Journaled}
use Rattle.disk_journal.specs.declared.opening.StartCause.{StartCause}
use Rattle.agent_node.specs.declared.reopen.ReopenFault.{ReopenFault}
use Rattle.agent_node.specs.Kept.{Kept, IsSameAgent, first_kept}
use Rattle.agent_node.specs.Made.{AtHome}
use Rattle.agent_node.specs.Restarts.{reads}

---- The journal

-- a crash may leave bytes that are read so
abbrev pub MayRead : (List ℕ → Result (List Entry) ℕ) → Result (List Entry) ℕ → Option History → Type 0
MayRead reading result history = IfSome history (λ h. (c : List ℕ) × MayLeave h c × (reading c ≡ result))

-- where it is told what a journal kept, it keeps these entries, and none waits
abbrev pub KeepsRead : List Entry → Option Journaled → Option Journaled → Type 0
KeepsRead es old new = IfSome old (λ k. new ≡ Some (record { synced = es; waiting = [] }))

-- these entries are those that were kept as synced, or these with that batch behind them
abbrev pub AreEither : List Entry → Option Journaled → List Entry → Type 0
AreEither batch kept es = IfSome kept (λ k. (es ≡ k.synced) ⊎ (es ≡ k.synced ++ batch))

---- Why it isn't read

-- a count of a shelf rose, as far as its type reaches
abbrev pub HasRisen : ℕ → ℕ → Type 0
HasRisen old new = (by : ℕ) × (0 < by) × Raised old by new

-- The shelf's count of faults, before and then, tells why; and of bytes that are no journal, up to that place, this is so. A stop is no cause.
abbrev pub HasReopenCause : (f g : ℕ) → (ℕ → Type 0) → ReopenFault → Type 0
HasReopenCause f g P (ReopenFault.GivenBack StartCause.DiskFault) = HasRisen f g
HasReopenCause f g P (ReopenFault.GivenBack StartCause.Stopped) = ⊥
HasReopenCause f g P (ReopenFault.GivenBack (StartCause.NotAJournal place)) = P place
HasReopenCause f g P (ReopenFault.GivenBack StartCause.NoMemory) = Unit {0}
HasReopenCause f g P (ReopenFault.Lost ShelfError.Failed) = HasRisen f g
HasReopenCause f g P (ReopenFault.Lost ShelfError.NoMemory) = Unit {0}

---- The agent

-- no call of the disk failed, and so many stopped it, or more
pub record HasStopped (tries : ℕ) (old new : Meter) : Type 0 where
  pub faults : new.faults ≡ old.faults
  pub stops : old.stops + tries ≤ new.stops
  pub planned : new.planned ≡ old.planned

-- It has read these entries, which are those that were synced where these are told, behind so many tries at which its disk stopped. It may be
-- used, and is the same agent.
pub record IsReread (old new : Kept) : Type 0 where
  pub tries : ℕ
  pub entries : List Entry
  pub seat : AtHome old (λ h. new.seat ≡ reads h tries entries old.seat)
  pub synced : IfSome old.kept (λ k. entries ≡ k.synced)
  pub kept : IfSome old.kept (λ k. new.kept ≡ old.kept)
  pub fault : new.fault ≡ None
  pub counts : HasStopped tries old.meter new.meter
  pub same : IsSameAgent old new
  pub plugs : new.plugs ≡ old.plugs

-- It has read entries that are so, and keeps them, behind so many tries at which its disk stopped. It may be used, and is the same agent.
pub record HasRead (P : List Entry → Type 0) (old new : Kept) : Type 0 where
  pub tries : ℕ
  pub entries : List Entry
  pub seat : AtHome old (λ h. new.seat ≡ reads h tries entries old.seat)
  pub read : P entries
  pub kept : KeepsRead entries old.kept new.kept
  pub fault : new.fault ≡ None
  pub counts : HasStopped tries old.meter new.meter
  pub same : IsSameAgent old new
  pub plugs : new.plugs ≡ old.plugs

-- Its disk had stopped: it has read the entries that it knew as synced, or these with its fresh ones behind them.
abbrev pub IsReopened : Kept → Kept → Type 0
IsReopened old new = HasRead (AreEither old.seat.fresh (first_kept old.seat.synced old.kept)) old new

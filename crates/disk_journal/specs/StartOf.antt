-- Why a journal wasn't begun.
use Rattle.std.specs.Prelude.{◌≡◌, ℕ, ◌≤◌, ◌<◌, true, List, [], Option, Some, Ok, Err, IfSome, is_some}
use Rattle.nsi_primitive.specs.declared.entry.Entry.{Entry}
use Rattle.nsi_disk.specs.Disk.{History, Meter, MayLeave, seen}
use Rattle.nsi_disk.specs.declared.disk.DiskError.{DiskError}
use Rattle.nsi_disk.specs.declared.disk.DiskError.TheVariants as disk
use Rattle.journal_entry.specs.Payloads.{batch_of}
use Rattle.journal_entry.specs.Journals.{recovers}
use Rattle.journal_entry.specs.Journal.{Kept}
use Rattle.disk_journal.specs.declared.opening.StartCause.{StartCause}
use Rattle.disk_journal.specs.declared.opening.StartCause.TheVariants.{DiskFault, Stopped, NotAJournal, NoMemory}

abbrev pub cause_of : DiskError → StartCause
cause_of disk.Failed = DiskFault
cause_of disk.Stopped = Stopped
cause_of disk.NoMemory = NoMemory

-- no call has failed, and none has stopped the disk
pub record KeepsCounts (old new : Meter) : Type 0 where
  pub faults : new.faults ≡ old.faults
  pub stops : new.stops ≡ old.stops
  pub planned : new.planned ≡ old.planned

-- each cause comes only for its reason, and no count falls
pub record StartsFor (old new : Meter) (history : Option History) (cause : StartCause) : Type 0 where
  pub faults : old.faults ≤ new.faults
  pub stops : old.stops ≤ new.stops
  pub planned : new.planned ≡ old.planned
  pub fault : cause ≡ DiskFault → old.faults < new.faults
  pub stopped : cause ≡ Stopped → old.stops < new.stops
  pub spares : cause ≡ Stopped → new.faults ≡ old.faults
  pub reading : (place : ℕ) → cause ≡ NotAJournal place → IfSome history (λ h. recovers batch_of (seen h) ≡ Err place)
  pub calm : (place : ℕ) → cause ≡ NotAJournal place → KeepsCounts old new

-- where both are told, a crash now leaves what the old history names
abbrev pub LeavesNow : Option History → Option History → (History → List ℕ → Type 0) → Type 0
LeavesNow old new P = IfSome old (λ h. IfSome new (λ k. (c : List ℕ) → MayLeave k c → P h c))

-- a told disk stays told
abbrev pub StaysTold : Option History → Option History → Type 0
StaysTold old new = IfSome old (λ h. is_some new ≡ true)

-- nothing was read that is no journal
abbrev pub ReadsNothing : StartCause → Type 0
ReadsNothing cause = (place : ℕ) → cause ≡ NotAJournal place → ⊥

-- the journal of a told disk keeps these entries, and none waits
abbrev pub Keeps : List Entry → Option History → Option Kept → Type 0
Keeps entries history kept = IfSome history (λ h. kept ≡ Some (record { synced = entries; waiting = [] }))

-- a told disk reads as these entries
abbrev pub ReadsAsJournal : List Entry → Option History → Type 0
ReadsAsJournal entries history = IfSome history (λ h. recovers batch_of (seen h) ≡ Ok entries)

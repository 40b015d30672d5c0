-- What a journal keeps, and why its calls fail.
use Rattle.std.specs.Prelude.{◌≡◌, ◌⊎◌, ◌≤◌, ◌<◌, ℕ, List, [], ◌++◌, Option, Some, Result, Ok, IfSome, OnOk, IsErrOf}
use Rattle.nsi_primitive.specs.declared.entry.Entry.{Entry}
use Rattle.nsi_disk.specs.Disk.{History, Meter, MayLeave, LeavesOnly, seen}
use Rattle.nsi_disk.specs.declared.disk.DiskError.{DiskError}
use Rattle.nsi_disk.specs.declared.disk.DiskError.TheVariants as disk
use Rattle.journal_entry.specs.declared.journal.JournalFault.{JournalFault}
use Rattle.journal_entry.specs.declared.journal.JournalFault.TheVariants.{DiskFault, Stopped, NoMemory}

-- the entries that are synced, and those of the batch that waits, none where none does
pub record Kept : Type 0 where
  pub synced : List Entry
  pub waiting : List Entry

abbrev pub fault_of : DiskError → JournalFault
fault_of disk.Failed = DiskFault
fault_of disk.Stopped = Stopped
fault_of disk.NoMemory = NoMemory

-- the counts of the disk don't fall, and rise only where a call fails; as many stops are planned; each fault has its cause
pub record HasJournalCause {T : Type 0} (old new : Meter) (result : Result T JournalFault) : Type 0 where
  pub faults : old.faults ≤ new.faults
  pub stops : old.stops ≤ new.stops
  pub quiet : OnOk result (new.faults ≡ old.faults)
  pub calm : OnOk result (new.stops ≡ old.stops)
  pub planned : new.planned ≡ old.planned
  pub fault : IsErrOf result DiskFault → old.faults < new.faults
  pub stopped : IsErrOf result Stopped → old.stops < new.stops
  pub spares : IsErrOf result Stopped → new.faults ≡ old.faults

-- no call of the disk failed, and none stopped it
pub record HasSameCounts (old new : Meter) : Type 0 where
  pub faults : new.faults ≡ old.faults
  pub stops : new.stops ≡ old.stops
  pub planned : new.planned ≡ old.planned

-- these entries wait, and as many are synced as before
abbrev pub Waits : List Entry → Option Kept → Option Kept → Type 0
Waits entries old new = IfSome old (λ k. new ≡ Some (record k { waiting = entries }))

-- none waits, and these are synced behind those that were
abbrev pub Adds : List Entry → Option Kept → Option Kept → Type 0
Adds entries old new = IfSome old (λ k. new ≡ Some (record { synced = k.synced ++ entries; waiting = [] }))

-- those that waited are synced
abbrev pub AddsWaiting : Option Kept → Option Kept → Type 0
AddsWaiting old new = IfSome old (λ k. new ≡ Some (record { synced = k.synced ++ k.waiting; waiting = [] }))

-- what was synced before a call, or that with these entries behind it
abbrev pub KeepsOneOf : List Entry → Option Kept → Option Kept → Type 0
KeepsOneOf entries old new = IfSome old (λ k. IfSome new (λ n. (n.synced ≡ k.synced) ⊎ (n.synced ≡ k.synced ++ entries)))

-- what a disk reads is one of its images
abbrev pub ReadsImage : Option History → Type 0
ReadsImage history = IfSome history (λ h. MayLeave h (seen h))

module _ (reading : List ℕ → Result (List Entry) ℕ) where
  -- bytes read as the one list, or as it with the other behind it
  abbrev pub ReadsOneOf : List Entry → List Entry → List ℕ → Type 0
  ReadsOneOf synced waiting bytes = (reading bytes ≡ Ok synced) ⊎ (reading bytes ≡ Ok (synced ++ waiting))

  -- a crash at any moment of a call leaves what was synced before it
  abbrev pub LeavesSynced : Option Kept → Option History → Option History → Type 0
  LeavesSynced kept old new = IfSome kept (λ k. LeavesOnly old new (λ c. reading c ≡ Ok k.synced))

  -- or that with the waiting batch behind it
  abbrev pub LeavesWaiting : Option Kept → Option History → Option History → Type 0
  LeavesWaiting kept old new = IfSome kept (λ k. LeavesOnly old new (ReadsOneOf k.synced k.waiting))

  -- or that with these entries behind it
  abbrev pub LeavesWith : List Entry → Option Kept → Option History → Option History → Type 0
  LeavesWith entries kept old new = IfSome kept (λ k. LeavesOnly old new (ReadsOneOf k.synced entries))

  -- a crash now leaves what was synced before a call
  abbrev pub MayLeaveSynced : Option Kept → Option History → Type 0
  MayLeaveSynced kept now = IfSome kept (λ k. IfSome now (λ h. (c : List ℕ) → MayLeave h c → reading c ≡ Ok k.synced))

  -- or that with these entries behind it
  abbrev pub MayLeaveWith : List Entry → Option Kept → Option History → Type 0
  MayLeaveWith entries kept now = IfSome kept (λ k. IfSome now (λ h. (c : List ℕ) → MayLeave h c → ReadsOneOf k.synced entries c))

  -- where a disk reads as these entries, they are kept
  abbrev pub ReadsKept : List Entry → Option History → Option Kept → Type 0
  ReadsKept es history kept = IfSome history (λ h. reading (seen h) ≡ Ok es → IfSome kept (λ k. k.synced ≡ es))

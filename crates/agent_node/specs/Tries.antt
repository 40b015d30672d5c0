-- One try to read a journal again.
use Rattle.std.specs.Prelude.{◌≡◌, ◌<◌, ℕ, List, Option, Result, Err}
use Rattle.nsi_primitive.specs.declared.entry.Entry.{Entry}
use Rattle.nsi_disk.specs.Disk.{History, Meter}
use Rattle.nsi_disk.specs.ShelfCounts.{RaisedFrom}
use Rattle.disk_journal.specs.StartOf.{StaysTold}
use Rattle.agent_node.specs.Reopening.{MayRead, HasReopenCause}
use Rattle.agent_node.specs.declared.reopen.TryFault.{TryFault}

-- The disk has stopped: a told one stays told, and what a crash may leave of it now is read as what one before might have left.
pub record StopsAgain (reading : List ℕ → Result (List Entry) ℕ) (history now : Option History) (old new : Meter) : Type 0 where
  pub told : StaysTold history now
  pub left : (read : Result (List Entry) ℕ) → MayRead reading read now → MayRead reading read history
  pub faults : new.faults ≡ old.faults
  pub stops : old.stops < new.stops
  pub planned : new.planned ≡ old.planned

-- Why the disk of this history and these counts wasn't read. Where it has stopped the shelf's counts of faults and of stops, before and then, are
-- the same; else they tell why, and its stops are counted.
abbrev pub HasTryCause : {D : Type 0} → (List ℕ → Result (List Entry) ℕ) → Option History → Meter → (D → Option History) → (D → Meter) → (f g s r : ℕ) → TryFault D → Type 0
HasTryCause reading history meter history_of meter_of f g s r (TryFault.Stopped d) =
    StopsAgain reading history (history_of d) meter (meter_of d) × (g ≡ f) × (r ≡ s)
HasTryCause reading history meter history_of meter_of f g s r (TryFault.Refused fault) =
    HasReopenCause f g (λ place. MayRead reading (Err place) history) fault × RaisedFrom s meter.stops r

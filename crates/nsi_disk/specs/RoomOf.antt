-- What a call does to a disk in memory and its room.
use Rattle.std.specs.Prelude.{◌≡◌, ℕ, ◌+◌, ◌-◌, ◌≤◌, Result, OnOk, OnErr}
use Rattle.nsi_disk.specs.Disk.{History}
use Rattle.nsi_disk.specs.Memory.{told_by}
use Rattle.nsi_disk.specs.declared.content.Content.{Content}
use Rattle.nsi_disk.specs.Plan.{Within}
use Rattle.nsi_disk.specs.declared.room.Room.{Room}

-- a call that reaches so far and spends so many bytes, on a disk of that length, is within the room
abbrev pub WithinRoom : Room → ℕ → ℕ → ℕ → Type 0
WithinRoom room reach spent length =
    Within room.calls room.longest room.bytes reach spent length

-- the room of these numbers
abbrev pub room_of : ℕ → ℕ → ℕ → Room
room_of calls longest bytes = record { calls = calls; longest = longest; bytes = bytes }

-- a call within the room, on a disk of that length, uses one call and no more than its bytes, and finds its memory
abbrev pub SpendsRoom : {T E : Type 0} → ℕ → ℕ → ℕ → Room → Room → Result T E → Type 0
SpendsRoom reach spent length old new result =
    WithinRoom old reach spent length
    → OnErr result ⊥ × (new.calls ≡ old.calls - 1) × (old.bytes ≤ new.bytes + spent)

-- a call makes this of what the content was through, or nothing after an error, and the longest length stays
pub record GoesOn {T E : Type 0} (h : History) (old new : Content) (before after : Room) (result : Result T E) : Type 0 where
  pub done : OnOk result (told_by new ≡ h)
  pub same : OnErr result (told_by new ≡ told_by old)
  pub longest : after.longest ≡ before.longest

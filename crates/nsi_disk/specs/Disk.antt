-- What a disk has been through, and what a crash may leave of it.
use Rattle.std.specs.Prelude.{◌≡◌, ◌⊎◌, ℕ, ◌+◌, ◌-◌, ◌≤◌, ◌<◌, max, min, Bool, IsTrue, List, ◌++◌, length, take, drop, Option, Some, None, IfSome, Result, IsErrOf, OnOk, MatchResult}
use Rattle.nsi_disk.specs.declared.disk.DiskError.{DiskError}
use Rattle.nsi_disk.specs.declared.disk.DiskError.TheVariants.{Failed, Stopped, NoMemory}

-- the calls, the newest outside; `now` is what it reads then
pub data History : Type 0 where
  Fresh : (bytes : List ℕ) → History
  Wrote : (at n : ℕ) (now : List ℕ) (before : History) → History
  CutTo : (n : ℕ) (now : List ℕ) (before : History) → History
  Synced : (before : History) → History
  -- a length, a read or a sync that failed or stopped
  Broke : (now : List ℕ) (before : History) → History

-- what it reads
abbrev pub seen : History → List ℕ
seen (Fresh bytes) = bytes
seen (Wrote at n now h) = now
seen (CutTo n now h) = now
seen (Synced h) = seen h
seen (Broke now h) = now

-- after a write of n bytes that a crash cuts short: any bytes in the range and past the old end, the same elsewhere
pub record IsTornWrite (at n : ℕ) (old new : List ℕ) : Type 0 where
  pub before : take at new ≡ take at old
  pub after : drop (at + n) new ≡ drop (at + n) old
  pub no_shorter : length old ≤ length new
  pub no_longer : length new ≤ max (length old) (at + n)

-- after a cut: some length between
pub record IsTornCut (n : ℕ) (old new : List ℕ) : Type 0 where
  pub no_shorter : min n (length old) ≤ length new
  pub front : take (length new) old ≡ new

-- what a crash now may leave
abbrev pub MayLeave : History → List ℕ → Type 0
MayLeave (Fresh bytes) c = c ≡ bytes
MayLeave (Wrote at n now h) c = (d : List ℕ) × MayLeave h d × IsTornWrite at n d c
MayLeave (CutTo n now h) c = (d : List ℕ) × MayLeave h d × IsTornCut n d c
MayLeave (Synced h) c = c ≡ seen h
MayLeave (Broke now h) c = MayLeave h c

-- a file that was fetched anew after a crash
abbrev pub IsImageOf : History → History → Type 0
IsImageOf old new = (c : List ℕ) × MayLeave old c × (new ≡ Fresh c)

-- the moment, as a number
abbrev pub age : History → ℕ
age (Fresh bytes) = 0
age (Wrote at n now h) = age h + 1
age (CutTo n now h) = age h + 1
age (Synced h) = age h + 1
age (Broke now h) = age h + 1

-- what a crash at a moment from t on may have left
abbrev pub Since : ℕ → History → List ℕ → Type 0
Since t (Fresh bytes) c = c ≡ bytes
Since t (Wrote at n now h) c = MayLeave (Wrote at n now h) c ⊎ ((t ≤ age h) × Since t h c)
Since t (CutTo n now h) c = MayLeave (CutTo n now h) c ⊎ ((t ≤ age h) × Since t h c)
Since t (Synced h) c = MayLeave (Synced h) c ⊎ ((t ≤ age h) × Since t h c)
Since t (Broke now h) c = MayLeave (Broke now h) c ⊎ ((t ≤ age h) × Since t h c)

-- new is old with these bytes at this place
abbrev pub written : ℕ → List ℕ → List ℕ → List ℕ
written at piece old = take at old ++ piece ++ drop (at + length piece) old

-- what a write of the piece makes of what was before
abbrev pub wrote : ℕ → List ℕ → History → History
wrote at piece h = Wrote at (length piece) (written at piece (seen h)) h

-- what a cut to n bytes makes of what was before
abbrev pub was_cut : ℕ → History → History
was_cut n h = CutTo n (take n (seen h)) h

-- what a call that failed or stopped, and changed nothing, makes of what was before
abbrev pub went_wrong : History → History
went_wrong h = Broke (seen h) h

-- how many bytes a cut takes away, where that is told
abbrev pub cut_away : Option History → ℕ → ℕ
cut_away None n = 0
cut_away (Some h) n = length (seen h) - n

-- counts, how often it is planned to stop, and the room: so many calls more on a disk of at most that length, which write or cut away so many
-- bytes
pub record Meter : Type 0 where
  pub faults : ℕ
  pub stops : ℕ
  pub planned : ℕ
  pub stopped : Bool
  pub calls : ℕ
  pub longest : ℕ
  pub bytes : ℕ

-- after an error nothing has happened, or the step, and then what it reads is one of its images
abbrev pub MayStep : (List ℕ → History → History) → History → Option History → Type 0
MayStep step h new = (new ≡ Some h) ⊎ ((c : List ℕ) × (new ≡ Some (step c h)) × MayLeave (step c h) c)

-- a told disk goes on by the step at `Ok` and stays told, and an untold one stays untold
abbrev pub Steps : {T : Type 0} → (List ℕ → History → History) → (History → History) → Option History → Option History → Result T DiskError → Type 0
Steps step done None new result = new ≡ None
Steps step done (Some h) new result = MatchResult result (λ _. new ≡ Some (done h)) (λ _. MayStep step h new)

-- when each error comes, and how the counts go on
pub record HasCause {T : Type 0} (old new : Meter) (result : Result T DiskError) : Type 0 where
  pub faults : old.faults ≤ new.faults
  pub stops : old.stops ≤ new.stops
  pub quiet : OnOk result (new.faults ≡ old.faults)
  pub calm : OnOk result (new.stops ≡ old.stops)
  pub memory : IsErrOf result NoMemory → new.faults ≡ old.faults
  pub failed : IsErrOf result Failed → old.faults < new.faults
  pub stopped : IsErrOf result Stopped → (old.stops < new.stops) ⊎ IsTrue old.stopped
  pub spares : IsErrOf result Stopped → new.faults ≡ old.faults
  pub refuses : IsTrue old.stopped → IsErrOf result Stopped
  pub stays : IsErrOf result Stopped → IsTrue new.stopped
  pub goes : (IsErrOf result Stopped → ⊥) → new.stopped ≡ old.stopped
  pub planned : new.planned ≡ old.planned

-- there is room for a call that leaves it no longer than `reach` and writes or cuts away `spent` bytes; of an untold disk
-- the numbers alone count
pub record HasRoom (meter : Meter) (history : Option History) (reach spent : ℕ) : Type 0 where
  pub calls : 1 ≤ meter.calls
  pub reaches : reach ≤ meter.longest
  pub bytes : spent ≤ meter.bytes
  pub long : IfSome history (λ h. length (seen h) ≤ meter.longest)

-- a call for which there is room uses one and no more than its bytes, and isn't refused for want of memory
pub record KeepsRoom {T : Type 0} (old new : Meter) (spent : ℕ) (result : Result T DiskError) : Type 0 where
  pub given : IsErrOf result NoMemory → ⊥
  pub calls : new.calls ≡ old.calls - 1
  pub longest : new.longest ≡ old.longest
  pub bytes : old.bytes ≤ new.bytes + spent

-- the same, where there is room for it
abbrev pub KeepsRoomOf : {T : Type 0} → Option History → ℕ → ℕ → Meter → Meter → Result T DiskError → Type 0
KeepsRoomOf history reach spent old new result =
    HasRoom old history reach spent → KeepsRoom old new spent result

-- the meter with this room
abbrev pub with_room : ℕ → ℕ → ℕ → Meter → Meter
with_room calls longest bytes m = record m { calls = calls; longest = longest; bytes = bytes }

-- a crash at any moment since old leaves a file that has P
pub record Leaves (old new : History) (P : List ℕ → Type 0) : Type 0 where
  pub later : age old ≤ age new
  pub each : (c : List ℕ) → Since (age old) new c → P c
  -- for a run that began earlier
  pub before : (t : ℕ) (c : List ℕ) → t ≤ age old → Since t new c → Since t old c ⊎ P c

-- the same of two disks, where they are told
abbrev pub LeavesOnly : Option History → Option History → (List ℕ → Type 0) → Type 0
LeavesOnly old new P = IfSome old (λ h. (k : History) × (new ≡ Some k) × Leaves h k P)

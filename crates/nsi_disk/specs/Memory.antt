-- A disk in memory: its history, from what it reads, its past calls and the bytes that they overwrote.
use Rattle.std.specs.Prelude.{◌≡◌, ℕ, Bool, true, false, ◌+◌, ◌-◌, ◌≤◌, List, [], ◌∷◌, ◌++◌, length, take, drop, reverse, vec_len, vec_capacity, Result, OnOk, OnErr}
use Rattle.nsi_disk.specs.Disk.{History, Fresh, Wrote, CutTo, Synced, Broke}
use Rattle.nsi_disk.specs.declared.content.Past.{Past}
use Rattle.nsi_disk.specs.declared.content.Past.TheVariants.{Write, Cut, Sync, Pause}
use Rattle.nsi_disk.specs.declared.content.Content.{Content}

-- what was there before a write of n bytes at this place over these bytes
abbrev pub before_write : ℕ → ℕ → List ℕ → List ℕ → List ℕ
before_write at n over now = take at now ++ (over ++ drop (at + n) now)

-- the calls, the newest first
abbrev pub back : List Past → List ℕ → List ℕ → History
back [] saved now = Fresh now
back (Write at n k ∷ log) saved now = Wrote at n now (back log (take (length saved - k) saved) (before_write at n (drop (length saved - k) saved) now))
back (Cut n k ∷ log) saved now = CutTo n now (back log (take (length saved - k) saved) (now ++ drop (length saved - k) saved))
back (Sync ∷ log) saved now = Synced (back log saved now)
back (Pause ∷ log) saved now = Broke now (back log saved now)

unfoldable pub told : List Past → List ℕ → List ℕ → History
told log saved now = back (reverse log) saved now

abbrev pub told_by : Content → History
told_by c = told c.log.items c.saved.items c.bytes.items

abbrev pub reads : Content → List ℕ
reads c = c.bytes.items

-- nothing has changed but the room
abbrev pub SameContent : Content → Content → Type 0
SameContent old new = (told_by new ≡ told_by old) × (reads new ≡ reads old)

-- room for so many calls more on a disk of at most that length, which overwrite so many bytes
pub record HasSpace (calls longest more : ℕ) (c : Content) : Type 0 where
  pub bytes : longest ≤ vec_capacity c.bytes
  pub log : vec_len c.log + calls ≤ vec_capacity c.log
  pub saved : vec_len c.saved + more ≤ vec_capacity c.saved

-- a call that reaches so far and overwrites so many bytes needs no more than the room of one call
abbrev pub TakesRoom : {T E : Type 0} → ℕ → ℕ → Content → Content → Result T E → Type 0
TakesRoom reach spent old new result =
    (calls longest more : ℕ) → HasSpace (calls + 1) longest (more + spent) old
    → reach ≤ longest → length (reads old) ≤ longest → OnErr result ⊥ × HasSpace calls longest more new

-- what a call leaves besides what it has been through at `Ok`: what it reads then, the same past after an error, and what is
-- left of the room
pub record LeavesContent {T E : Type 0} (now : List ℕ) (reach spent : ℕ) (old new : Content) (result : Result T E) : Type 0 where
  pub reads : OnOk result (new.bytes.items ≡ now)
  pub same : OnErr result (told_by new ≡ told_by old)
  pub room : TakesRoom reach spent old new result
  pub kept : (l : ℕ) → HasSpace 0 l 0 old → HasSpace 0 l 0 new

abbrev pub is_sync : Past → Bool
is_sync (Write at n k) = false
is_sync (Cut n k) = false
is_sync Sync = true
is_sync Pause = false

-- what a call makes of what was before, where it reads these bytes now
abbrev pub made_by : Past → List ℕ → History → History
made_by (Write at n k) now h = Wrote at n now h
made_by (Cut n k) now h = CutTo n now h
made_by Sync now h = Synced h
made_by Pause now h = Broke now h

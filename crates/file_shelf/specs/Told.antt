-- What an open file tells of itself, and what each call makes of it.
use Rattle.std.specs.Prelude.{◌≡◌, ◌⊎◌, ◌≤◌, ⊤, ℕ, zero, suc, ◌+◌, Bool, true, false, not, ◌&&◌, ◌||◌, List, length, take, drop, Option, Some, None, IfSome, Result, MatchResult}
use Rattle.nsi_disk.specs.Disk.{History, Fresh, Wrote, Broke, MayLeave, seen, written}
use Rattle.file_shelf.specs.declared.outcome.CallOutcome.{CallOutcome}

-- what it has been through; that one of its syncs has failed; that no other program has it, where its file system has
-- locks; that a crash leaves it in its folder
pub record Told : Type 0 where
  pub past : History
  pub has_lost : Bool
  pub is_claimed : Bool
  pub is_entered : Bool

abbrev pub past_of : Option Told → Option History
past_of None = None
past_of (Some t) = Some t.past

-- it goes on from here
abbrev pub goes_to : History → Told → Told
goes_to h t = record t { past = h }

-- after a failed call nothing has happened, or the step, and then what it reads is what a crash may leave
abbrev pub MayGo : (List ℕ → History → History) → Told → Option Told → Type 0
MayGo step t new =
    (new ≡ Some t)
    ⊎ ((c : List ℕ) × (new ≡ Some (goes_to (step c t.past) t)) × MayLeave (step c t.past) c)

-- a told file goes on by the step where the call was done, and an untold one stays untold
abbrev pub Goes : (List ℕ → History → History) → (History → History) → Option Told → Option Told → CallOutcome → Type 0
Goes step done None new came = new ≡ None
Goes step done (Some t) new CallOutcome.Done = new ≡ Some (goes_to (done t.past) t)
Goes step done (Some t) new CallOutcome.Failed = MayGo step t new

abbrev pub lost : Told → Told
lost t = record t { has_lost = true }

-- the same of a sync: one that fails is noted, and none behind it is a promise
abbrev pub Syncs : (History → History) → Option Told → Option Told → CallOutcome → Type 0
Syncs done None new came = new ≡ None
Syncs done (Some t) new CallOutcome.Done = t.has_lost ≡ false → new ≡ Some (goes_to (done t.past) t)
Syncs done (Some t) new CallOutcome.Failed = MayGo Broke (lost t) new

-- the first k bytes of the piece are written at this place, and the rest is still to come
abbrev pub put : ℕ → List ℕ → ℕ → History → History
put place piece k h = Wrote place (length piece) (written place (take k piece) (seen h)) h

-- the same, where nothing has happened yet if k is zero
abbrev pub begun : ℕ → List ℕ → ℕ → History → History
begun place piece zero h = h
begun place piece (suc k) h = put place piece (suc k) h

-- of a file in which the first `done` bytes of the piece are written, so many more are
abbrev pub PutsSome : {E : Type 0} → ℕ → List ℕ → ℕ → Option Told → Option Told → Result ℕ E → Type 0
PutsSome place piece done old new result =
    (t : Told) → old ≡ Some (goes_to (begun place piece done t.past) t)
    → MatchResult result
    (λ n. new ≡ Some (goes_to (put place piece (done + n) t.past) t))
    (λ _. (new ≡ old) ⊎ MayGo (Wrote place (length piece)) t new)

-- a buffer that begins with `done` of the bytes from this place on begins with so many more
abbrev pub ReadsOn : ℕ → ℕ → ℕ → List ℕ → List ℕ → List ℕ → Type 0
ReadsOn place done n bytes old new =
    take done old ≡ take done (drop place bytes) → take (done + n) new ≡ take (done + n) (drop place bytes)

-- so many bytes are there
abbrev pub Reaches : ℕ → Option Told → Type 0
Reaches n told = IfSome told (λ t. n ≤ length (seen t.past))

-- the buffer has all bytes from this place on
abbrev pub ReadsAll : ℕ → Option Told → List ℕ → List ℕ → CallOutcome → Type 0
ReadsAll place None old new came = ⊤
ReadsAll place (Some t) old new CallOutcome.Done = new ≡ take (length old) (drop place (seen t.past))
ReadsAll place (Some t) old new CallOutcome.Failed = ⊤

-- a disk may be made of it: it is claimed and in its folder, and a sync that failed is known of
abbrev pub is_kept : Option Told → Bool → Bool
is_kept None knows = true
is_kept (Some t) knows = t.is_claimed && t.is_entered && (knows || not t.has_lost)

-- these bytes, to which nothing has happened, and no one else has them
abbrev pub untouched : List ℕ → Told
untouched bytes =
    record { past = Fresh bytes; has_lost = false; is_claimed = true; is_entered = true }

-- a file that was opened reads what its folder holds
pub record IsOpened (held : Option (List ℕ)) (told : Option Told) : Type 0 where
  pub sound : IfSome told (λ t. t.has_lost ≡ false)
  pub reads : IfSome held (λ bytes. (t : Told) × (told ≡ Some t) × (seen t.past ≡ bytes))

abbrev pub claimed : Option Told → Option Told
claimed None = None
claimed (Some t) = Some (record t { is_claimed = true })

abbrev pub entered : Option Told → Option Told
entered None = None
entered (Some t) = Some (record t { is_entered = true })

-- a disk may be made of it, which has what its folder holds and nothing behind it
pub record IsReady (held : Option (List ℕ)) (told : Option Told) : Type 0 where
  pub kept : is_kept told false ≡ true
  pub fresh : IfSome held (λ bytes. past_of told ≡ Some (Fresh bytes))

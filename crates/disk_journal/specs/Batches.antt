-- Files of batches on a disk, and what their calls leave.
use Rattle.std.specs.Prelude.{◌≡◌, ◌≢◌, ◌⊎◌, ℕ, ◌+◌, ◌-◌, ◌≤◌, ◌<◌, List, [], ◌∷◌, ◌++◌, length, take, drop, Option, Some, Result, Ok, Err, IfSome, OnOk, IsErrOf, false}
use Rattle.std.specs.Int.{w64, to_be_bytes}
use Rattle.nsi_disk.specs.Disk.{History, Meter, seen, MayLeave, Leaves}
use Rattle.nsi_disk.specs.declared.disk.DiskError.{DiskError}
use Rattle.nsi_disk.specs.declared.disk.DiskError.TheVariants.{Failed, Stopped}
use Rattle.journal_entry.specs.Journals.{recovers, whole}

-- open batches of these payloads
abbrev pub batches : List (List ℕ) → List ℕ
batches [] = []
batches (payload ∷ more) = 1 ∷ (to_be_bytes w64 (length payload) ++ (payload ++ batches more))

-- the length, the payload and a closed gate
abbrev pub framed : List ℕ → List ℕ
framed payload = to_be_bytes w64 (length payload) ++ (payload ++ 0 ∷ [])

-- a file begins with these batches and a closed gate: any byte but 1
pub record Begins (payloads : List (List ℕ)) (file : List ℕ) : Type 0 where
  pub gate : ℕ
  pub rest : List ℕ
  pub shut : gate ≢ 1
  pub is : file ≡ batches payloads ++ gate ∷ rest

-- and then this batch with a closed gate behind it
pub record BeginsWith (payloads : List (List ℕ)) (payload : List ℕ) (file : List ℕ) : Type 0 where
  pub gate : ℕ
  pub rest : List ℕ
  pub shut : gate ≢ 1
  pub is : file ≡ batches payloads ++ gate ∷ (framed payload ++ rest)

abbrev pub ok_or_none : Result (List (List ℕ)) ℕ → List (List ℕ)
ok_or_none (Ok payloads) = payloads
ok_or_none (Err place) = []

-- the payloads that a disk stands for
abbrev pub payloads : History → List (List ℕ)
payloads h = ok_or_none (recovers whole (seen h))

-- the closed gate stands behind the batches, in what it reads and in each image
pub record Settled (gate longest : ℕ) (h : History) : Type 0 where
  pub place : gate ≡ length (batches (payloads h))
  pub reads : Begins (payloads h) (seen h)
  pub images : (c : List ℕ) → MayLeave h c → Begins (payloads h) c
  pub long : length (seen h) ≤ longest

-- the bytes of the batch that waits behind the closed gate
abbrev pub waiting : ℕ → ℕ → History → List ℕ
waiting gate next h = take (next - gate - 9) (drop (gate + 9) (seen h))

-- a batch waits
pub record Waits (gate next longest : ℕ) (h : History) : Type 0 where
  pub settled : Settled gate longest h
  pub batch : BeginsWith (payloads h) (waiting gate next h) (seen h)
  pub ends : next ≡ gate + length (framed (waiting gate next h))

-- after a sync
pub record Grew (payload : List ℕ) (gate longest : ℕ) (h k : History) : Type 0 where
  pub settled : Settled gate longest k
  pub more : payloads k ≡ payloads h ++ payload ∷ []

-- after an append
pub record Held (payload : List ℕ) (gate next longest : ℕ) (h k : History) : Type 0 where
  pub waits : Waits gate next longest k
  pub same : payloads k ≡ payloads h
  pub held : waiting gate next k ≡ payload

-- where it is told, it stays told, and this holds of the two
abbrev pub Told : Option History → Option History → (History → History → Type 0) → Type 0
Told old new P = IfSome old (λ h. (k : History) × (new ≡ Some k) × P h k)

-- a file stands for these payloads
abbrev pub Means : List (List ℕ) → List ℕ → Type 0
Means ps file = recovers whole file ≡ Ok ps

abbrev pub MeansOneOf : List (List ℕ) → List ℕ → List ℕ → Type 0
MeansOneOf ps payload file = Means ps file ⊎ Means (ps ++ payload ∷ []) file

-- where it is told, a crash at any moment of a call leaves what the old history names
abbrev pub Crashes : Option History → Option History → (History → List ℕ → Type 0) → Type 0
Crashes old new P = IfSome old (λ h. (k : History) × (new ≡ Some k) × Leaves h k (P h))

-- room for the calls that make the waiting batch durable
pub record HasSyncRoom (meter : Meter) (gate longest : ℕ) : Type 0 where
  pub calls : 3 ≤ meter.calls
  pub reach : meter.longest ≡ longest
  pub inside : gate < longest
  pub bytes : 1 ≤ meter.bytes

-- why calls of a running disk failed
pub record HasCauses {T : Type 0} (old new : Meter) (result : Result T DiskError) : Type 0 where
  pub faults : old.faults ≤ new.faults
  pub stops : old.stops ≤ new.stops
  pub quiet : OnOk result (new.faults ≡ old.faults)
  pub calm : OnOk result (new.stops ≡ old.stops)
  pub runs : OnOk result (new.stopped ≡ false)
  pub failed : IsErrOf result Failed → old.faults < new.faults
  pub stopped : IsErrOf result Stopped → old.stops < new.stops
  pub spares : IsErrOf result Stopped → new.faults ≡ old.faults
  pub planned : new.planned ≡ old.planned

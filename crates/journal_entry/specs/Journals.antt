-- What the bytes of a journal stand for.
use Rattle.std.specs.Prelude.{◌≡◌, ℕ, zero, suc, ◌+◌, List, [], ◌∷◌, ◌++◌, length, take, drop, Option, Some, None, Result, Ok, Err, if◌then◌else◌, ◌==◌, nat_lt, nat_le}
use Rattle.std.specs.Int.{w64, from_be_bytes}

module _ {E : Type 0} (read : List ℕ → Option (List E)) where
  -- this batch's entries before those behind it
  abbrev pub followed_by : ℕ → Option (List E) → Result (List E) ℕ → Result (List E) ℕ
  followed_by place None later = Err place
  followed_by place (Some entries) (Err p) = Err p
  followed_by place (Some entries) (Ok later) = Ok (entries ++ later)

  -- from the gate at this place on; at most `fuel` gates
  abbrev pub entries_from : ℕ → ℕ → List ℕ → Result (List E) ℕ
  entries_from zero place bytes = Err place
  entries_from (suc fuel) place [] = Err place
  entries_from (suc fuel) place (gate ∷ rest) =
      if gate == 1 then (
      if nat_lt (length rest) 8 then Err place else (
      if nat_le (length (drop 8 rest)) (from_be_bytes w64 (take 8 rest)) then Err place else
      followed_by place (read (take (from_be_bytes w64 (take 8 rest)) (drop 8 rest)))
      (entries_from fuel (place + 9 + from_be_bytes w64 (take 8 rest)) (drop (from_be_bytes w64 (take 8 rest)) (drop 8 rest)))
      )
      ) else Ok []

  -- the entries, or the place without a reading
  abbrev pub recovers : List ℕ → Result (List E) ℕ
  recovers bytes = if nat_lt (length bytes) 9 then Ok [] else entries_from (length bytes) 0 bytes

  -- these entries before those of the rest
  abbrev pub joined : Option (List E) → Option (List E) → Option (List E)
  joined None later = None
  joined (Some entries) None = None
  joined (Some entries) (Some later) = Some (entries ++ later)

  -- the entries of payloads, where each of them is one
  abbrev pub read_all : List (List ℕ) → Option (List E)
  read_all [] = Some []
  read_all (payload ∷ more) = joined (read payload) (read_all more)

  -- these payloads hold these entries
  abbrev pub ReadAll : List (List ℕ) → List E → Type 0
  ReadAll payloads entries = read_all payloads ≡ Some entries

-- a payload that stands for itself
abbrev pub whole : List ℕ → Option (List (List ℕ))
whole payload = Some (payload ∷ [])

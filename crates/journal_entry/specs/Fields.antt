-- Numbers and texts within bytes.
use Rattle.std.specs.Prelude.{ℕ, ◌<◌, List, ◌++◌, length, take, drop, nat_lt, if◌then◌else◌, Option, Some, None}
use Rattle.std.specs.Int.{Width, w64, byte_len, from_be_bytes, to_be_bytes}
use Rattle.nsi_base.specs.Range.{within}
use Rattle.nsi_base.specs.Options.{◌>>=◌}

abbrev pub IsByte : ℕ → Type 0
IsByte b = b < 256

-- a number, the high byte first, and the bytes behind it
unfoldable pub number_at : Width → List ℕ → Option (ℕ × List ℕ)
number_at w bytes = if nat_lt (length bytes) (byte_len w) then None else Some (from_be_bytes w (take (byte_len w) bytes), drop (byte_len w) bytes)

-- a number up to a greatest one
unfoldable pub bounded_at : Width → ℕ → List ℕ → Option (ℕ × List ℕ)
bounded_at w most bytes = do
  n ← number_at w bytes
  value ← within 0 most n.0
  Some (value, n.1)

-- so many bytes
abbrev pub front_of : ℕ × List ℕ → Option (List ℕ × List ℕ)
front_of n = if nat_lt (length n.1) n.0 then None else Some (take n.0 n.1, drop n.0 n.1)

-- a text behind its length in 8 bytes
unfoldable pub text_at : List ℕ → Option (List ℕ × List ℕ)
text_at bytes = number_at w64 bytes >>= front_of

-- and how it is written
abbrev pub text_field : List ℕ → List ℕ
text_field text = to_be_bytes w64 (length text) ++ text

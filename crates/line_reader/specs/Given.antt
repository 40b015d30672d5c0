-- What a command is given: the lines of its input, up to the size that is taken.
use Rattle.std.specs.Prelude.{◌≡◌, ℕ, List, [], ◌∷◌, ◌++◌, length, take, Bool, true, false, nat_le, if◌then◌else◌, Option, Some, IfSome}
use Rattle.nsi_base.specs.Lines.{lines_of, ended_lines}

pub record Given : Type 0 where
  pub lines : List (List ℕ)
  pub long : Bool

-- the lines of the bytes; of bytes past the size, the lines that end within it
unfoldable pub given_of : ℕ → List ℕ → Given
given_of size bytes =
    if nat_le (length bytes) size then record { lines = lines_of bytes; long = false }
    else record { lines = ended_lines (take size bytes); long = true }

-- the piece is the front of what was left, and what is left now is the rest; it is empty only at the end
abbrev pub IsCutFrom : Option (List ℕ) → Option (List ℕ) → List ℕ → Type 0
IsCutFrom left now piece = IfSome left (λ bytes. (rest : List ℕ) × (now ≡ Some rest) × (bytes ≡ piece ++ rest) × (piece ≡ [] → rest ≡ []))

-- where it is told, it is the same
abbrev pub IsSame : {A : Type 0} → Option A → Option A → Type 0
IsSame old new = IfSome old (λ a. new ≡ Some a)

abbrev pub with_line : List ℕ → Given → Given
with_line line given = record { lines = line ∷ given.lines; long = given.long }

-- the line is the first of what was given before, and what is given now are the others
abbrev pub TakesLine : Option Given → Option Given → List ℕ → Type 0
TakesLine old new line = IfSome old (λ given. (rest : Given) × (new ≡ Some rest) × (given ≡ with_line line rest))

-- no line is left, and whether there was more than is taken
abbrev pub IsAtEnd : Option Given → Bool → Type 0
IsAtEnd old long = IfSome old (λ given. given ≡ record { lines = []; long = long })

-- An input as a whole.
use Rattle.std.specs.Prelude.{◌≡◌, ℕ, List, ◌++◌, Option, Some, IfSome}

-- the bytes are all that were left
abbrev pub IsWhole : Option (List ℕ) → List ℕ → Type 0
IsWhole left bytes = IfSome left (λ all. all ≡ bytes)

-- the bytes are the front of what was left, and what is left now is the rest
abbrev pub IsRead : Option (List ℕ) → Option (List ℕ) → List ℕ → Type 0
IsRead left now bytes = IfSome left (λ all. (rest : List ℕ) × (now ≡ Some rest) × (all ≡ bytes ++ rest))

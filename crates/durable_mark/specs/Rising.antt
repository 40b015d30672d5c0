-- A number that only rises, and what its seats know of it.
use Rattle.std.specs.Prelude.{◌≡◌, ℕ, ◌≤◌, max, slice_index, length}
use mathlib.Core.Option.{some}
use lib.ListN.{get_elem?}
use Rattle.atomic_table.specs.Table.{State, Me, Step}
use Rattle.atomic_table.specs.Seated.{TableId}

-- which mark it is
abbrev pub MarkId : Type 0
MarkId = TableId

-- of which mark a seat is, and a number that the mark has reached
pub record Known : Type 0 where
  pub mark : MarkId
  pub seen : ℕ

-- the one word of a mark, and what each of its seats has seen
abbrev pub MarkState : Type 0
MarkState = State (Unit {0}) ℕ

-- there is one word, and no seat has seen more
pub record IsAtMost (s : MarkState) : Type 0 where
  pub one : length s.words ≡ 1
  pub most : (seat seen : ℕ) → get_elem? s.views seat ≡ some seen → seen ≤ slice_index s.words 0

-- a load: the word is at least what the seat had seen, and the seat has seen it
abbrev pub Saw : Step (Unit {0}) → Me (Unit {0}) ℕ → ℕ → Me (Unit {0}) ℕ → Type 0
Saw s old found new = (old.0 ≤ found) × (new.0 ≡ found) × (new.1 ≡ old.1)

-- a fetch_max: the same, but that the seat has seen the larger of the word and the number that it raised to
abbrev pub Raised : Step (Unit {0}) → Me (Unit {0}) ℕ → ℕ → Me (Unit {0}) ℕ → Type 0
Raised s old found new = (old.0 ≤ found) × (new.0 ≡ max found s.first) × (new.1 ≡ old.1)

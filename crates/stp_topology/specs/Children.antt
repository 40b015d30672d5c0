-- Whose children the pairs tell.
use Rattle.std.specs.Prelude.{ℕ, List, ◌==◌, map}
use Rattle.std.specs.List.{filter}

-- the second numbers of the pairs whose first is that number, in the order of the pairs
abbrev pub children_in : List (ℕ × ℕ) → ℕ → List ℕ
children_in pairs a = map (λ e. e.1) (filter (λ e. e.0 == a) pairs)

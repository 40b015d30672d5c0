-- Which deadlines have come.
use Rattle.std.specs.Prelude.{◌≡◌, ◌≤◌, ℕ, List, Contains}
use Rattle.record_index.specs.declared.deadlines.Deadline.{Deadline}

-- a deadline of the place has come
abbrev pub IsDueIn : List Deadline → ℕ → ℕ → Type 0
IsDueIn ds now place = (d : Deadline) × Contains ds d × (d.place ≡ place) × (d.second ≤ now)

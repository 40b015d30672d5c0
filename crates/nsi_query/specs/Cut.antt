-- How many rows an answer has, and when some were left out.
use Rattle.std.specs.Prelude.{ℕ, Bool, false, ◌||◌, nat_lt, List, take, length}
use Rattle.nsi_query.specs.declared.rows.Rows.{Rows}

-- the connections of an owner
abbrev pub most_summaries : ℕ
most_summaries = 16

-- the notices of a connection, and its outcomes
abbrev pub most_numbered : ℕ
most_numbered = 32

-- a connection and those below it
abbrev pub most_nested : ℕ
most_nested = 128

-- the first rows of all, where it is known whether others are missing
abbrev pub cut_beside : {A : Type 0} → Bool → ℕ → List A → Rows A
cut_beside missing most all = record { rows = take most all; more = missing || nat_lt most (length all) }

-- the first rows of all, and whether there are more
abbrev pub cut : {A : Type 0} → ℕ → List A → Rows A
cut most all = cut_beside false most all

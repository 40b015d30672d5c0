-- An id that there may be.
use Rattle.std.specs.Prelude.{ℕ, Bool, false, Option, Some, None, ◌==◌}

-- whether there is one, and it is this
abbrev pub is_id : Option ℕ → ℕ → Bool
is_id None c = false
is_id (Some d) c = c == d

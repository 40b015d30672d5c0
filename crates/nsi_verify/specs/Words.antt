-- What the words ask for.
use Rattle.std.specs.Prelude.{ℕ, List, [], ◌∷◌, codes, bytes_eq, if◌then◌else◌, Option, Some, None}
use Rattle.nsi_base.specs.Digits.{number_of}
use Rattle.command_limits.specs.Limits.{most_events}

-- the number behind that word
abbrev pub number_behind : List ℕ → List ℕ → Option ℕ
number_behind name number = if bytes_eq name (codes "--events") then number_of 1 most_events number else None

-- how many events are followed at most: what `--events N` says, and as many as can be asked for where there is no word
abbrev pub limit_of : List (List ℕ) → Option ℕ
limit_of [] = Some most_events
limit_of (name ∷ number ∷ []) = number_behind name number
limit_of words = None

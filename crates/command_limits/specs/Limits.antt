-- How much a command may be asked for.
use Rattle.std.specs.Prelude.{ℕ}

-- the most events that can be asked for
abbrev pub most_events : ℕ
most_events = 2000000

-- the most workers that can be asked for
abbrev pub most_workers : ℕ
most_workers = 64

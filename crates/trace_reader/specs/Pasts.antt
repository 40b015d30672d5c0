-- What is known behind events that were read.
use Rattle.std.specs.Prelude.{ℕ, ◌+◌, ◌==◌, List, [], ◌∷◌, ◌++◌, get_or, take, if◌then◌else◌}
use Rattle.nsi_primitive.specs.declared.entry.Entry.{Entry}
use Rattle.nsi_primitive.specs.declared.entry.Happening.{Happening}
use Rattle.nsi_primitive.specs.declared.entry.Input.{Input}

-- the second of each agent, by a list of them
abbrev pub seconds_of : List ℕ → ℕ → ℕ
seconds_of seconds agent = get_or seconds agent 0

-- the entries that each agent has in its journal, and how many asks came
pub record Past : Type 0 where
  pub journal : ℕ → List Entry
  pub asks : ℕ

-- before anything has happened
abbrev pub start : Past
start = record { journal = λ agent. []; asks = 0 }

-- the clock behind entries: the second of the last one
abbrev pub clock_behind : (before : ℕ) → List Entry → ℕ
clock_behind before [] = before
clock_behind before (e ∷ es) = clock_behind e.second es

-- the second of each agent; its clock begins at 0
abbrev pub clocks : Past → ℕ → ℕ
clocks p agent = clock_behind 0 (p.journal agent)

-- one journal in place of an agent's, and the others
abbrev pub with_journal : Past → ℕ → List Entry → ℕ → List Entry
with_journal p agent entries other = if other == agent then entries else p.journal other

abbrev pub asks_behind : Input → (asks : ℕ) → ℕ
asks_behind (Input.Ask number ask) asks = asks + 1
asks_behind _ asks = asks

-- an entry comes behind the others of its agent; an agent that begins again has the first so many entries
abbrev pub past_behind : Past → ℕ → Happening → Past
past_behind p agent (Happening.Entry entry answer) = record { journal = with_journal p agent (p.journal agent ++ entry ∷ []); asks = asks_behind entry.input p.asks }
past_behind p agent (Happening.Sync count) = p
past_behind p agent (Happening.Restart count) = record { journal = with_journal p agent (take count (p.journal agent)); asks = p.asks }

-- The laws of a mark: a new one meets its rule, and each of the four kinds of step keeps it, from every state that does.
use Rattle.std.specs.Prelude.{ℕ, max, [], ◌∷◌}
use mathlib.Core.Option.{none}
use Rattle.atomic_table.specs.Table.{Me, Allows, Splits, Joins, opening, step}
use Rattle.durable_mark.specs.Rising.{IsAtMost, Saw, Raised}

-- one word, 0, and a seat that has seen 0
abbrev pub NewIsAtMost : Type 0
NewIsAtMost = IsAtMost (opening (0 ∷ []) [] 0)

-- a load: the word stays, and is what the seat has seen
abbrev pub LoadsKeep : Type 0
LoadsKeep = (slots seat : ℕ) (me : Me (Unit {0}) ℕ)
    → Allows IsAtMost slots seat me 0 (λ word. word) (Saw (step slots 0 0 0 none) me)

-- a fetch_max: the word, and what the seat has seen, become the larger of the word and the number
abbrev pub RaisesKeep : Type 0
RaisesKeep = (slots seat to : ℕ) (me : Me (Unit {0}) ℕ)
    → Allows IsAtMost slots seat me 0 (λ word. max word to) (Raised (step slots 0 to 0 none) me)

-- a seat that is split off has seen what the other one has
abbrev pub SplitsKeep : Type 0
SplitsKeep = (seat seen : ℕ) → Splits IsAtMost seat seen seen seen

-- a seat that takes another one in has seen what either has
abbrev pub JoinsKeep : Type 0
JoinsKeep = (seat seen other known : ℕ) → Joins IsAtMost seat seen other known (max seen known) 0

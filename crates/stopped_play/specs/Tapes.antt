-- What happens to the disks of a play: which of them stop, and what is left of what was being synced.
use Rattle.std.specs.Prelude.{ℕ, zero, suc, Bool, List, [], ◌∷◌, Option, None}

-- What a stop leaves of an agent: whether the batch that was being synced is kept, whole or not at all, and how often the disk stopped again
-- while it was read.
pub record Cut : Type 0 where
  pub keeps : Bool
  pub again : ℕ

-- whose disks stopped in a round, by the agents' numbers
abbrev pub Cuts : Type 0
Cuts = ℕ → Option Cut

abbrev pub none_cut : Cuts
none_cut a = None

-- Of a group: how often a disk stopped while an act read it, act after act, and whose disks stopped in each round. A group has no more rounds
-- than its tape.
pub record Tape : Type 0 where
  pub acts : List ℕ
  pub rounds : List Cuts

abbrev pub no_tape : Tape
no_tape = record { acts = []; rounds = [] }

-- of a play: how often each agent's disk stopped while its journal was first made, and a tape for each group
pub record Stops : Type 0 where
  pub making : ℕ → ℕ
  pub groups : List Tape

---- Where no disk stops

abbrev pub copies : {X : Type 0} → ℕ → X → List X
copies zero x = []
copies (suc n) x = x ∷ copies n x

-- so many rounds in which no disk stops
abbrev pub calm : ℕ → Tape
calm most = record { acts = []; rounds = copies most none_cut }

-- so many groups of so many rounds each
abbrev pub calm_stops : (groups most : ℕ) → Stops
calm_stops groups most = record { making = λ a. 0; groups = copies groups (calm most) }

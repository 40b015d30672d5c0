-- Callers that are served one after another.
use Rattle.std.specs.Prelude.{◌≡◌, ◌<◌, ◌==◌, ℕ, Bool, true, false, List, [], ◌∷◌, map, Option, Some, None}
use Rattle.std.specs.List.{All}
use Rattle.std.specs.List.Sorted.{IsStrictlyIncreasing}
use Rattle.stp_topology.specs.declared.network.Network.{Network}
use Rattle.nsi_script.specs.declared.script.Act.{Act}
use Rattle.race_run.specs.Found.{is_caller}
use Rattle.race_judging.specs.declared.judging.Own.{Own}
use Rattle.race_threads.specs.Raced.{own_agent, IsKept, HasOwn}

-- the agent is asked
abbrev pub is_ask_of : ℕ → Act → Bool
is_ask_of a (Act.Ask agent ask) = agent == a
is_ask_of a (Act.Force agent number) = false
is_ask_of a (Act.Restart agent) = false

-- whom the first act asks, or the one that is given
abbrev pub first_asked : ℕ → List Act → Option ℕ
first_asked given [] = Some given
first_asked given (Act.Ask agent ask ∷ acts) = Some agent
first_asked given (Act.Force agent number ∷ acts) = None
first_asked given (Act.Restart agent ∷ acts) = None

-- what an agent keeps that is a requester of the provider; none of another
abbrev pub IsOneOf : Network → ℕ → Option ℕ → List Act → ℕ → Option Own → Type 0
IsOneOf t p start acts a None = is_caller t p (Some a) ≡ false
IsOneOf t p start acts a (Some o) = (o.agent ≡ a) × IsKept t p start acts o

-- what the requesters of the provider among the first agents hand over, each once, in the order of the agents
pub record AreKeptBelow (t : Network) (p : ℕ) (start : Option ℕ) (acts : List Act) (n : ℕ) (owns : List Own) : Type 0 where
  pub each : All (IsKept t p start acts) owns
  pub below : All (λ o. o.agent < n) owns
  pub has : (a : ℕ) → a < n → is_caller t p (Some a) ≡ true → HasOwn owns a
  pub rising : IsStrictlyIncreasing (map own_agent owns)

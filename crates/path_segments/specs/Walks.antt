-- Walks over the owners below an agent.
use Rattle.std.specs.Prelude.{◌≡◌, ◌≢◌, ℕ, zero, suc, ◌<◌, ◌⊎◌, List, [], ◌∷◌, Some, slice_get, length}
use Rattle.stp_topology.specs.declared.network.Network.{Network}
use Rattle.path_segments.specs.Paths.{IsOwned}
use Rattle.stp_topology.specs.Network.{partner_of, children_of}

-- b is the agent, or below it
abbrev pub IsBelow : Network → ℕ → ℕ → ℕ → Type 0
IsBelow t zero a b = b ≡ a
IsBelow t (suc n) a b = (b ≡ a) ⊎ ((place : ℕ) × (k : ℕ) × (slice_get (children_of t a) place ≡ Some k) × IsBelow t n k b)

-- a walk by segments of owners alone, to a destination
pub data Walk (t : Network) (among : ℕ → Type 0) (dest : ℕ) : ℕ → Type 0 where
  last : (b p : ℕ) → among b → IsOwned t b p dest → p ≢ dest → Walk t among dest p
  more : (b p x y : ℕ) → among b → IsOwned t b p x → p ≢ x → partner_of t x ≡ Some y → Walk t among dest y → Walk t among dest p

abbrev pub AreLeaves : Network → Type 0
AreLeaves t = (p b : ℕ) → slice_get t.owners p ≡ Some b → children_of t b ≡ []

-- each point's partner has it as its partner
abbrev pub AreMutual : Network → Type 0
AreMutual t = (x y : ℕ) → partner_of t x ≡ Some y → partner_of t y ≡ Some x

abbrev pub In : ℕ → List ℕ → Type 0
In y [] = ⊥
In y (x ∷ xs) = (y ≡ x) ⊎ In y xs

-- the agent is one of the first children, or below one
pub record IsUnder (t : Network) (n : ℕ) (children : List ℕ) (bound b : ℕ) : Type 0 where
  pub place : ℕ
  pub child : ℕ
  pub early : place < bound
  pub is_child : slice_get children place ≡ Some child
  pub below : IsBelow t n child b

-- the children are agents
abbrev pub AreAgents : Network → Type 0
AreAgents t = (a place k : ℕ) → slice_get (children_of t a) place ≡ Some k → k < length t.agents

-- each of the list is an agent
abbrev pub AreListedAgents : Network → List ℕ → Type 0
AreListedAgents t agents = (i k : ℕ) → slice_get agents i ≡ Some k → k < length t.agents

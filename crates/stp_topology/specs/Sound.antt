-- What is true of every topology.
use Rattle.std.specs.Prelude.{◌≡◌, ◌≢◌, ◌⊎◌, ℕ, ◌<◌, ◌≤◌, List, false, Some, length, slice_get}
use Rattle.stp_topology.specs.declared.network.AgentKind.TheVariants.{Provider, Aggregator, Requester}
use Rattle.stp_topology.specs.Network.{Network, agent_of, stp_of}
use Rattle.stp_topology.specs.Lines.{is_too_deep}

-- how many there are of each
pub record IsFit (t : Network) : Type 0 where
  pub few_agents : length t.agents ≤ 64
  pub few_stps : length t.stps ≤ 4096
  pub kinds : length t.kinds ≡ length t.agents
  pub owners : length t.owners ≡ length t.stps
  pub capacities : length t.capacities ≡ length t.stps
  pub partners : length t.partners ≡ length t.stps

-- the agent is a provider
abbrev pub IsProvider : Network → ℕ → Type 0
IsProvider t a = (hold : ℕ) × (slice_get t.kinds a ≡ Some (Provider hold))

-- the agent is an aggregator
abbrev pub IsAggregator : Network → ℕ → Type 0
IsAggregator t a = slice_get t.kinds a ≡ Some Aggregator

-- requests are sent to the agent
abbrev pub TakesRequests : Network → ℕ → Type 0
TakesRequests t a = IsProvider t a ⊎ IsAggregator t a

-- each number leads to an agent or point of its sort, each name to one agent or point, points of two owners are joined
-- both ways, each `child` line stands once, and no rank passes 4
pub record IsSound (t : Network) : Type 0 where
  pub fit : IsFit t
  pub owned : (s a : ℕ) → slice_get t.owners s ≡ Some a → IsProvider t a
  pub asked : (a provider : ℕ) → slice_get t.kinds a ≡ Some (Requester provider) → (provider < a) × TakesRequests t provider
  pub joined : (s p : ℕ) → slice_get t.partners s ≡ Some (Some p) → slice_get t.partners p ≡ Some (Some s)
  pub parents : (k : ℕ) (e : ℕ × ℕ) → slice_get t.children k ≡ Some e → IsAggregator t e.0
  pub children : (k : ℕ) (e : ℕ × ℕ) → slice_get t.children k ≡ Some e → e.1 < length t.agents
  pub depth : is_too_deep t.kinds t.children ≡ false
  pub agents : (a : ℕ) (name : List ℕ) → slice_get t.agents a ≡ Some name → agent_of t name ≡ Some a
  pub stps : (s : ℕ) (name : List ℕ) → slice_get t.stps s ≡ Some name → stp_of t name ≡ Some s
  pub apart : (s p : ℕ) → slice_get t.partners s ≡ Some (Some p) → slice_get t.owners s ≢ slice_get t.owners p
  pub answering : (k : ℕ) (e : ℕ × ℕ) → slice_get t.children k ≡ Some e → TakesRequests t e.1
  pub once : (k l : ℕ) (e : ℕ × ℕ) → slice_get t.children k ≡ Some e → slice_get t.children l ≡ Some e → k ≡ l

-- Laws of every topology, in the words of its questions.
use Rattle.std.specs.Prelude.{◌≡◌, ◌≢◌, ◌↔◌, ℕ, zero, suc, ◌+◌, ◌<◌, ◌≤◌, List, [], ◌∷◌, ◌++◌, true, if◌then◌else◌, map, Some, Err, length, slice_get}
use Rattle.stp_topology.specs.declared.fault.TopologyFault.TheVariants.{Twice, Cycle, TooDeep}
use Rattle.stp_topology.specs.declared.network.AgentKind.TheVariants.{Requester}
use Rattle.stp_topology.specs.Network.{Network, agent_of, stp_of, name_of, stp_name_of, kind_of, owner_of, partner_of, children_of}
use Rattle.stp_topology.specs.Sound.{IsAggregator, TakesRequests}
use Rattle.stp_topology.specs.Lines.{is_aggregator, leads_down, with_child}
use Rattle.stp_topology.specs.Rank.{greatest, rank_to, rank_of}

-- a `child` line names the two
pub record IsChild (pairs : List (ℕ × ℕ)) (parent child : ℕ) : Type 0 where
  pub place : ℕ
  pub stands : slice_get pairs place ≡ Some (parent, child)

-- so many `child` lines lead from an agent down to another
abbrev pub LeadsDown : List (ℕ × ℕ) → ℕ → ℕ → ℕ → Type 0
LeadsDown pairs zero from to = from ≡ to
LeadsDown pairs (suc n) from to = (child : ℕ) × IsChild pairs from child × LeadsDown pairs n child to

-- an agent stands below another, however many steps
pub record IsBelow (pairs : List (ℕ × ℕ)) (low high : ℕ) : Type 0 where
  pub between : ℕ
  pub leads : LeadsDown pairs (suc between) high low

-- an agent stands below itself
pub record IsCyclic (pairs : List (ℕ × ℕ)) : Type 0 where
  pub agent : ℕ
  pub below : IsBelow pairs agent agent

-- a rank passes 4, however many levels are seen
pub record IsDeep (t : Network) : Type 0 where
  pub agent : ℕ
  pub levels : ℕ
  pub passes : 4 < rank_to levels t agent

-- the network with one `child` line more
abbrev pub child_after : Network → ℕ → ℕ → Network
child_after t i j = record t { children = t.children ++ (i, j) ∷ [] }

-- which fault a `child` line of an aggregator and an agent has
pub record IsToldWhy (t : Network) (i j : ℕ) : Type 0 where
  pub twice : (with_child t i j ≡ Err Twice) ↔ IsChild t.children i j
  pub cycle : (with_child t i j ≡ Err Cycle) ↔ IsCyclic (child_after t i j).children
  pub too_deep : (with_child t i j ≡ Err TooDeep) ↔ ((IsChild t.children i j → ⊥) × (IsCyclic (child_after t i j).children → ⊥) × IsDeep (child_after t i j))

-- Names and numbers lead to each other. Each point is in one SDP at most, of two owners. Requesters ask whom requests are
-- sent to. Children are listed once and rank lower. Four steps and four levels are as good as any number.
pub record IsWellFormed (t : Network) : Type 0 where
  pub agents : (a : ℕ) → a < length t.agents → agent_of t (name_of t a) ≡ Some a
  pub stps : (s : ℕ) → s < length t.stps → stp_of t (stp_name_of t s) ≡ Some s
  pub two_owners : (s p : ℕ) → partner_of t s ≡ Some p → owner_of t s ≢ owner_of t p
  pub mutual_partners : (s p : ℕ) → partner_of t s ≡ Some p → partner_of t p ≡ Some s
  pub one_sdp : (s r p : ℕ) → partner_of t s ≡ Some p → partner_of t r ≡ Some p → s ≡ r
  pub asked : (r provider : ℕ) → kind_of t r ≡ Some (Requester provider) → (provider < r) × TakesRequests t provider
  pub one_line : (k l : ℕ) (e : ℕ × ℕ) → slice_get t.children k ≡ Some e → slice_get t.children l ≡ Some e → k ≡ l
  pub one_place : (a k l c : ℕ) → slice_get (children_of t a) k ≡ Some c → slice_get (children_of t a) l ≡ Some c → k ≡ l
  pub listed : (a k c : ℕ) → slice_get (children_of t a) k ≡ Some c → IsChild t.children a c
  pub parent : (a c : ℕ) → IsChild t.children a c → IsAggregator t a
  pub child : (a c : ℕ) → IsChild t.children a c → TakesRequests t c
  pub other : (a c : ℕ) → IsChild t.children a c → a ≢ c
  pub rank : (a : ℕ) → rank_of t a ≡ if is_aggregator t.kinds a then 1 + greatest (map (rank_of t) (children_of t a)) else 0
  pub lower : (a c : ℕ) → IsChild t.children a c → rank_of t c < rank_of t a
  pub acyclic : IsCyclic t.children → ⊥
  pub four_steps : (i j : ℕ) → IsAggregator t i → (leads_down t.children 4 j i ≡ true) ↔ ((n : ℕ) × LeadsDown t.children n j i)
  pub four_levels : (n a : ℕ) → 4 ≤ n → rank_to n t a ≡ rank_of t a
  pub told_why : (i j : ℕ) → IsAggregator t i → IsToldWhy t i j

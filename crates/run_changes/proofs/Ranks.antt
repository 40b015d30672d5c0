-- How many aggregators may stand above an agent, by its rank.
use Rattle.std.proofs.Common.{◌≤◌, ◌+◌, ◌-◌, ℕ, zero, suc, List, [], ◌∷◌, Option, Some, None, arith, map, fold, max}
use Rattle.stp_topology.specs.Laws.{IsChild, IsWellFormed}
use Rattle.stp_topology.specs.Network.{agent_of, children_of}
use Rattle.stp_topology.specs.Rank.{rank_to, rank_of}
use Rattle.stp_topology.specs.declared.network.Network.{Network}
use Rattle.nsi_primitive.specs.declared.message.Identity.{Identity}

greatest_few : (r : ℕ → ℕ) (n : ℕ) → ((c : ℕ) → r c ≤ n) → (cs : List ℕ) (b : ℕ) → b ≤ n → fold max b (map r cs) ≤ n
greatest_few r n low [] b l = l
greatest_few r n low (c ∷ cs) b l = greatest_few r n low cs (max b (r c)) (grind (arith, l, low c))

rank_few : (n : ℕ) (t : Network) (a : ℕ) → rank_to n t a ≤ n
unfolding rank_to
rank_few zero t a = omega arith
rank_few (suc n) t a = grind (arith, greatest_few (λ c. rank_to n t c) n (λ c. rank_few n t c) (children_of t a) 0 (omega arith))

four_at_most : (t : Network) (a : ℕ) → IsWellFormed t → rank_of t a ≤ 4
four_at_most t a formed = omega (arith, rank_few 4 t a, formed.four_levels 4 a (omega arith))

-- so many may stand above an agent
abbrev pub room : Network → ℕ → ℕ
room t a = 4 - rank_of t a

pub room_few : (t : Network) (a : ℕ) → room t a ≤ 4
room_few t a = omega arith

-- above a child one more
pub room_below : (t : Network) (a b : ℕ) → IsWellFormed t → IsChild t.children a b → 1 + room t a ≤ room t b
room_below t a b formed child = omega (arith, formed.lower a b child, four_at_most t a formed)

-- above the agent that a name leads to
abbrev pub room_at : Network → Option ℕ → ℕ
room_at t None = 0
room_at t (Some a) = room t a

-- above the agent that is named as the provider
abbrev pub worth : Network → Identity → ℕ
worth t i = room_at t (agent_of t i.provider)

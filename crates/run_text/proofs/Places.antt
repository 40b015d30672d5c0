-- An agent whose name leads to it is one of the topology's.
use Rattle.std.proofs.Common.{ℕ, suc, ◌+◌, ◌<◌, ◌≡◌, Bool, true, false, cond, List, [], ◌∷◌, Some, length, arith}
use Rattle.std.specs.List.{position_from}
use Rattle.std.specs.Str.{bytes_eq}
use Rattle.stp_topology.specs.Network.{name_of}
use Rattle.stp_topology.specs.declared.network.Network.{Network}
use Rattle.nsi_agent.specs.Homes.{Routes, home_in}
use Rattle.nsi_world.specs.Worlds.{IsAgent}

found_within : {X : Type 0} (p : X → Bool) (xs : List X) (n i : ℕ) → position_from p n xs ≡ Some i → i < n + length xs
found_within p [] n i h = absurd (cc)
found_within p (x ∷ xs) n i h = by_test (p x) h (found_within p xs (n + 1) i)
  where
    by_test : (b : Bool) → cond b (Some n) (position_from p (n + 1) xs) ≡ Some i → (position_from p (n + 1) xs ≡ Some i → i < n + 1 + length xs) → i < n + suc (length xs)
    by_test true e f = let same : n ≡ i = cc in omega (arith, same)
    by_test false e f = omega (arith, f e)

pub agent_within : (t : Network) (routes : Routes) (a : ℕ) → IsAgent (home_in t routes) a → a < length t.agents
unfolding home_in
agent_within t routes a h = omega (arith, found_within (bytes_eq (name_of t a)) t.agents 0 a h)

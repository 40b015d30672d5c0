-- Whom an agent asks is its provider or one of its children: another agent, and no requester.
use Rattle.std.proofs.Common.{ℕ, zero, suc, ◌≡◌, ◌<◌, inl, inr, false, List, [], ◌∷◌, length, get_or, Option, Some, slice_get, sym, ap, arith}
use Rattle.std.proofs.lemmas.Option.{slice_get_within}
use Rattle.stp_topology.specs.declared.network.Network.{Network}
use Rattle.stp_topology.specs.declared.network.AgentKind.{AgentKind}
use Rattle.stp_topology.specs.Laws.{IsWellFormed}
use Rattle.stp_topology.specs.Network.{name_of, children_of}
use Rattle.stp_topology.specs.Sound.{IsSound, TakesRequests}
use Rattle.nsi_agent.specs.Homes.{Routes, AreRoutes, role_in, home_in}
use Rattle.nsi_agent.specs.Said.{Asks}
use Rattle.nsi_agent.specs.Asked.{IsAskedBy}
use Rattle.nsi_agent.proofs.LeastWays.{asks_go_along_links}
use Rattle.nsi_world.specs.Worlds.{Homes}
use Rattle.nsi_world.specs.Runs.{is_requester}
use Rattle.circuit_laws.specs.Backed.{IsChildOf}

-- each of those whom the agent asks is such a child
abbrev pub AsksOthers : Network → Homes → ℕ → Type 0
AsksOthers t homes a = (name : List ℕ) → Asks (homes a).role name → (b : ℕ) × IsChildOf t homes a name b

pub got_at : {X : Type 0} (xs : List X) (k : ℕ) (d x : X) → k < length xs → get_or xs k d ≡ x → slice_get xs k ≡ Some x
got_at [] k d x l e = absurd (omega (arith, l))
got_at (y ∷ ys) zero d x l e = ap (λ z. Some z) e
got_at (y ∷ ys) (suc k) d x l e = got_at ys k d x (omega (arith, l)) e

module _ (t : Network) (routes : Routes) (sound : IsSound t) (formed : IsWellFormed t) (routed : AreRoutes t routes) where
  within : (b : ℕ) (k : AgentKind) → slice_get t.kinds b ≡ Some k → b < length t.agents
  within b k e = omega (arith, slice_get_within t.kinds b k e, sound.fit.kinds)

  taken_within : (b : ℕ) → TakesRequests t b → b < length t.agents
  taken_within b (inl p) = within b (AgentKind.Provider p.0) p.1
  taken_within b (inr p) = within b AgentKind.Aggregator p

  asks_nobody : (b : ℕ) → TakesRequests t b → is_requester (home_in t routes b).role ≡ false
  unfolding home_in
  asks_nobody b (inl p) = ap (λ (o : Option AgentKind). is_requester (role_in o t routes b)) p.1
  asks_nobody b (inr p) = ap (λ (o : Option AgentKind). is_requester (role_in o t routes b)) p

  child_of_that : (a b : ℕ) (name : List ℕ) → IsAskedBy t a b → TakesRequests t b → (b ≡ a → ⊥) → name_of t b ≡ name → IsChildOf t (home_in t routes) a name b
  unfolding home_in
  child_of_that a b name below takes other named =
      record { agent = formed.agents b (taken_within b takes); named = sym named; below = below; other = other; asked = asks_nobody b takes }

  pub asks_others : (a : ℕ) → AsksOthers t (home_in t routes) a
  asks_others a name asks =
      let g = asks_go_along_links t routes a name routed asks in
      (g.0, by_link g.0 g.1 g.2)
    where
      by_link : (b : ℕ) → IsAskedBy t a b → name_of t b ≡ name → IsChildOf t (home_in t routes) a name b
      by_link b (inl e) n = let lower = formed.asked a b e in child_of_that a b name (inl e) lower.1 (λ same. absurd (omega (arith, lower.0, same))) n
      by_link b (inr c) n =
          let child = formed.listed a c.0 b (got_at (children_of t a) c.0 b b c.1 c.2) in
          child_of_that a b name (inr c) (formed.child a b child) (λ same. formed.other a b child (sym same)) n

-- What a leg comes to doesn't depend on how deep is looked, as long as it is deeper than the agent stands.
use Rattle.std.proofs.Common.{◌≡◌, ◌≤◌, ◌<◌, ◌+◌, ◌∙◌, inl, inr, ℕ, zero, suc, List, [], ◌∷◌, Option, Some, None, refl, sym, ap, subst, arith, length, map, fold, max, slice_get}
use Rattle.std.specs.List.{All, Contains, sum_by}
use Rattle.std.proofs.lemmas.List.Elements.{All-nil, All-head, All-tail, All-contains_itself, All-weaker}
use Rattle.std.proofs.lemmas.List.Sums.{sum_by-cons}
use Rattle.std.proofs.lemmas.Option.{none-some, slice_get-get_or}
use Rattle.stp_topology.specs.declared.network.AgentKind.{AgentKind}
use Rattle.stp_topology.specs.declared.network.Network.{Network}
use Rattle.stp_topology.specs.Network.{agent_of, stp_of, name_of, kind_of, children_of}
use Rattle.stp_topology.specs.Laws.{IsChild, IsWellFormed}
use Rattle.stp_topology.specs.Rank.{rank_to, rank_of}
use Rattle.stp_topology.specs.Sound.{IsSound, IsAggregator}
use Rattle.path_segments.specs.declared.path.Segment.{Segment}
use Rattle.path_segments.specs.Paths.{IsPath, position_of}
use Rattle.agent_state.specs.declared.parent.Leg.{Leg}
use Rattle.nsi_agent.specs.Homes.{Routes, AreRoutes, role_in, home_in}
use Rattle.nsi_agent.specs.Asked.{IsAskedBy}
use Rattle.nsi_agent.specs.Said.{Asks}
use Rattle.nsi_agent.proofs.LeastWays.{asks_go_along_links}
use Rattle.way_reach.specs.Reach.{legs_of_way, legs_below, reach_to}
use Rattle.way_reach.specs.Laws.{ReachIsASum}

---- Ranks

greatest_few : (r : ℕ → ℕ) (n : ℕ) → ((c : ℕ) → r c ≤ n) → (cs : List ℕ) (b : ℕ) → b ≤ n → fold max b (map r cs) ≤ n
greatest_few r n low [] b l = l
greatest_few r n low (c ∷ cs) b l = greatest_few r n low cs (max b (r c)) (grind (arith, l, low c))

rank_few : (n : ℕ) (t : Network) (a : ℕ) → rank_to n t a ≤ n
unfolding rank_to
rank_few zero t a = omega arith
rank_few (suc n) t a = grind (arith, greatest_few (λ c. rank_to n t c) n (λ c. rank_few n t c) (children_of t a) 0 (omega arith))

four_at_most : (t : Network) (a : ℕ) → IsWellFormed t → rank_of t a ≤ 4
four_at_most t a formed = omega (arith, rank_few 4 t a, formed.four_levels 4 a (omega arith))

sums_same : (f g : Leg → ℕ) (xs : List Leg) → All (λ x. f x ≡ g x) xs → sum_by f xs ≡ sum_by g xs
sums_same f g [] h = refl
sums_same f g (x ∷ xs) h =
    omega (arith, sum_by-cons f x xs, sum_by-cons g x xs, All-head (λ x. f x ≡ g x) x xs h, sums_same f g xs (All-tail (λ x. f x ≡ g x) x xs h))

---- Whom the legs lead to

-- the rank of the agent to which a leg leads
abbrev rank_at : Network → Option ℕ → ℕ
rank_at t None = 0
rank_at t (Some a) = rank_of t a

abbrev rank_of_leg : Network → Leg → ℕ
rank_of_leg t leg = rank_at t (agent_of t leg.child)

no_path : (t : Network) (a source dest : ℕ) → children_of t a ≡ [] → (xs : List Segment) → IsPath t a source dest xs → ⊥
no_path t a source dest e [] p = p
no_path t a source dest e (x ∷ xs) p = none-some p.1.child (subst (λ cs. slice_get cs (position_of (children_of t a) x.child) ≡ Some p.1.child) e p.1.is_child)

module _ (t : Network) (routes : Routes) (sound : IsSound t) (formed : IsWellFormed t) (are : AreRoutes t routes) where
  -- a leg of an aggregator's way leads to a child, which ranks lower
  child_lower : (a b : ℕ) → Contains (children_of t a) b → (name : List ℕ) → name_of t b ≡ name → rank_at t (agent_of t name) < rank_of t a
  child_lower a b c name e =
      let there : slice_get (children_of t a) c.0 ≡ Some b = slice_get-get_or (children_of t a) c.0 b c.1 ∙ ap Some c.2 in
      let child : IsChild t.children a b = formed.listed a c.0 b there in
      let within : b < length t.agents = sound.children child.place (a, b) child.stands in
      subst (λ (o : Option ℕ). rank_at t o < rank_of t a) (sym (ap (agent_of t) (sym e) ∙ formed.agents b within)) (formed.lower a b child)

  -- a leg of the way of an aggregator leads to one whom it asks
  leg_asked : (a source dest : ℕ) (leg : Leg) → kind_of t a ≡ Some AgentKind.Aggregator → Contains (routes a source dest) leg → Asks (home_in t routes a).role leg.child
  unfolding home_in
  leg_asked a source dest leg e c = subst (λ (o : Option AgentKind). Asks (role_in o t routes a) leg.child) (sym e) (source, dest, leg, c, refl)

  leg_lower : (a source dest : ℕ) (leg : Leg) → kind_of t a ≡ Some AgentKind.Aggregator → Contains (routes a source dest) leg → rank_of_leg t leg < rank_of t a
  leg_lower a source dest leg e c = by (asks_go_along_links t routes a leg.child are (leg_asked a source dest leg e c))
    where
      by : (b : ℕ) × IsAskedBy t a b × (name_of t b ≡ leg.child) → rank_of_leg t leg < rank_of t a
      by (b, inl k, n) = absurd (let z : Some AgentKind.Aggregator ≡ Some (AgentKind.Requester b) = sym e ∙ k in cc)
      by (b, inr k, n) = child_lower a b k leg.child n

  all_lower : (a source dest : ℕ) → All (λ (leg : Leg). rank_of_leg t leg < rank_of t a) (routes a source dest)
  all_lower a source dest = by (children_of t a) refl
    where
      Lower : Leg → Type 0
      Lower leg = rank_of_leg t leg < rank_of t a

      by : (cs : List ℕ) → children_of t a ≡ cs → All (λ (leg : Leg). rank_of_leg t leg < rank_of t a) (routes a source dest)
      by [] e = subst (λ (legs : List Leg). All Lower legs) (sym ((are a source dest).none (no_path t a source dest e))) (All-nil Lower)
      by (c ∷ cs) e =
          let child : IsChild t.children a c = formed.listed a 0 c (ap (λ xs. slice_get xs 0) e) in
          let kind : IsAggregator t a = formed.parent a c child in
          All-weaker (Contains (routes a source dest)) Lower (λ leg i. leg_lower a source dest leg kind i) (routes a source dest) (All-contains_itself (routes a source dest))

  ways_lower : (o p q : Option ℕ) → All (λ (leg : Leg). rank_of_leg t leg < rank_at t o) (legs_of_way routes o p q)
  ways_lower (Some a) (Some source) (Some dest) = all_lower a source dest
  ways_lower None p q = All-nil (λ (leg : Leg). rank_of_leg t leg < 0)
  ways_lower (Some a) None q = All-nil (λ (leg : Leg). rank_of_leg t leg < rank_of t a)
  ways_lower (Some a) (Some source) None = All-nil (λ (leg : Leg). rank_of_leg t leg < rank_of t a)

  below_lower : (leg : Leg) → All (λ (low : Leg). rank_of_leg t low < rank_of_leg t leg) (legs_below t routes leg)
  unfolding legs_below
  below_lower leg = ways_lower (agent_of t leg.child) (stp_of t leg.source) (stp_of t leg.dest)

  ---- Sums

  none_lower : (n : ℕ) (f : Leg → ℕ) (legs : List Leg) → n ≤ 0 → All (λ (low : Leg). rank_of_leg t low < n) legs → sum_by f legs ≡ 0
  none_lower n f [] l all = refl
  none_lower n f (x ∷ xs) l all = let h = All-head (λ (low : Leg). rank_of_leg t low < n) x xs all in absurd (omega (arith, l, h))

  steady : (n : ℕ) (leg : Leg) → rank_of_leg t leg ≤ n → reach_to (suc n) t routes leg ≡ reach_to n t routes leg
  unfolding reach_to
  steady zero leg l = omega (arith, none_lower (rank_of_leg t leg) (reach_to 0 t routes) (legs_below t routes leg) l (below_lower leg))
  steady (suc n) leg l =
      ap (λ (z : ℕ). 1 + z)
      (sums_same (reach_to (suc n) t routes) (reach_to n t routes) (legs_below t routes leg)
      (All-weaker (λ (low : Leg). rank_of_leg t low < rank_of_leg t leg) (λ (low : Leg). reach_to (suc n) t routes low ≡ reach_to n t routes low) (λ low h. steady n low (omega (arith, h, l))) (legs_below t routes leg) (below_lower leg)))

pub reach_is_a_sum : ReachIsASum
unfolding reach_to
reach_is_a_sum t routes leg sound formed are =
    let few : rank_of_leg t leg ≤ 4 = few_at (agent_of t leg.child) in
    ap (λ (z : ℕ). 1 + z)
    (sums_same (reach_to 3 t routes) (reach_to 4 t routes) (legs_below t routes leg)
    (All-weaker (λ (low : Leg). rank_of_leg t low < rank_of_leg t leg) (λ (low : Leg). reach_to 3 t routes low ≡ reach_to 4 t routes low)
    (λ low h. sym (steady t routes sound formed are 3 low (omega (arith, h, few)))) (legs_below t routes leg) (below_lower t routes sound formed are leg)))
  where
    few_at : (o : Option ℕ) → rank_at t o ≤ 4
    few_at None = omega arith
    few_at (Some a) = four_at_most t a formed

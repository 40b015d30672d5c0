-- What the bridge is given of a well-formed topology.
use Rattle.std.proofs.Common.{ℕ, suc, ◌+◌, ◌≡◌, Bool, true, false, cond, List, [], ◌∷◌, Some, refl, sym, ap, ◌∙◌, subst, arith, get_or}
use Rattle.std.specs.List.{position_from}
use Rattle.std.specs.Str.{bytes_eq}
use Rattle.std.proofs.lemmas.Slice.Eq.{bytes_eq-Decides}
use Rattle.stp_topology.specs.declared.network.Network.{Network}
use Rattle.stp_topology.specs.Network.{agent_of, name_of}
use Rattle.nsi_agent.specs.Homes.{Routes, home_in}
use Rattle.nsi_agent.proofs.OwnMessages.{is_named_as_declared}
use Rattle.nsi_world.proofs.Given.{AreLaws, Given}

found_at : {X : Type 0} (p : X → Bool) (xs : List X) (n i : ℕ) (d : X) → position_from p n xs ≡ Some i → (k : ℕ) × (i ≡ n + k) × (p (get_or xs k d) ≡ true)
found_at p [] n i d h = absurd (cc)
found_at p (x ∷ xs) n i d h = by_test (p x) refl h (found_at p xs (n + 1) i d)
  where
    by_test : (b : Bool) → p x ≡ b → cond b (Some n) (position_from p (n + 1) xs) ≡ Some i → (position_from p (n + 1) xs ≡ Some i → (k : ℕ) × (i ≡ n + 1 + k) × (p (get_or xs k d) ≡ true))
        → (k : ℕ) × (i ≡ n + k) × (p (get_or (x ∷ xs) k d) ≡ true)
    by_test true q e f = let same : n ≡ i = cc in (0, omega (arith, same), q)
    by_test false q e f = let r = f e in (suc r.0, omega (arith, r.1), r.2)

named_back : (t : Network) (name : List ℕ) (b : ℕ) → agent_of t name ≡ Some b → name_of t b ≡ name
named_back t name b e =
    let r = found_at (bytes_eq name) t.agents 0 b [] e in
    let same : b ≡ r.0 = omega (arith, r.1) in
    sym ((bytes_eq-Decides name (name_of t b)).0 (subst (λ k. bytes_eq name (get_or t.agents k []) ≡ true) (sym same) r.2))

pub home_name : (t : Network) (routes : Routes) (a : ℕ) → (home_in t routes a).name ≡ name_of t a
unfolding home_in
home_name t routes a = refl

pub home_leads : (t : Network) (routes : Routes) (a : ℕ) → (home_in t routes a).agent_of ≡ agent_of t
unfolding home_in
home_leads t routes a = refl

home_back : (t : Network) (routes : Routes) (a b : ℕ) (name : List ℕ) → (home_in t routes a).agent_of name ≡ Some b → (home_in t routes b).name ≡ name
home_back t routes a b name e = home_name t routes b ∙ named_back t name b (ap (λ f. f name) (sym (home_leads t routes a)) ∙ e)

pub given_in : AreLaws → (t : Network) (routes : Routes) → Given (home_in t routes)
given_in laws t routes = record {
  leads = λ a b. home_leads t routes a ∙ sym (home_leads t routes b);
  back = home_back t routes;
  named = λ a. (is_named_as_declared t routes a).0;
  laws = laws;
}

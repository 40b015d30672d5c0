-- What a search asks of a topology is true of every topology.
use Rattle.std.proofs.Common.{◌≡◌, ℕ, zero, suc, ◌<◌, inl, inr, ◌==◌, true, false, List, [], ◌∷◌, Option, Some, None, length, slice_get, get_or, sym, ◌∙◌, refl, subst, ap, arith}
use Rattle.std.proofs.lemmas.Bool.{cases_eq}
use Rattle.std.proofs.lemmas.Option.{slice_get_within}
use Rattle.stp_topology.specs.declared.network.Network.{Network}
use Rattle.stp_topology.specs.declared.network.AgentKind.TheVariants.{Provider, Aggregator}
use Rattle.stp_topology.specs.Sound.{IsSound, IsAggregator, IsProvider}
use Rattle.stp_topology.specs.Network.{children_of}
use Rattle.stp_topology.specs.Children.{children_in}
use Rattle.path_segments.specs.Walks.{AreMutual, AreLeaves, AreAgents}
use Rattle.path_segments.specs.Steps.{IsFit}

-- a partner that is read is one that stands there
joined_at : (ps : List (Option ℕ)) (x y : ℕ) → get_or ps x None ≡ Some y → slice_get ps x ≡ Some (Some y)
joined_at [] x y h = absurd (cc)
joined_at (p ∷ ps) zero y h = ap Some h
joined_at (p ∷ ps) (suc x) y h = joined_at ps x y h

read_at : (ps : List (Option ℕ)) (x y : ℕ) → slice_get ps x ≡ Some (Some y) → get_or ps x None ≡ Some y
read_at [] x y h = absurd (cc)
read_at (p ∷ ps) zero y h = let e : p ≡ Some y = cc in e
read_at (p ∷ ps) (suc x) y h = read_at ps x y h

pub are_mutual : (t : Network) → IsSound t → AreMutual t
are_mutual t s x y h = read_at t.partners y x (s.joined x y (joined_at t.partners x y h))

pub is_fit : (t : Network) → IsSound t → IsFit t
is_fit t s = record {
  few = let a = s.fit.owners in let b = s.fit.few_stps in omega (arith, a, b);
  pairs = s.fit.partners ∙ sym s.fit.owners;
  within = λ p y h. let g = slice_get_within t.partners y (Some p) (s.joined p y (joined_at t.partners p y h)) in let a = s.fit.owners in let b = s.fit.partners in omega (arith, g, a, b);
}

-- a child of the pairs stands in a pair
record IsChild (pairs : List (ℕ × ℕ)) (a k : ℕ) : Type 0 where
  place : ℕ
  pair : ℕ × ℕ
  is_pair : slice_get pairs place ≡ Some pair
  is_parent : pair.0 ≡ a
  is_child : pair.1 ≡ k

later : (e : ℕ × ℕ) (es : List (ℕ × ℕ)) (a k : ℕ) → IsChild es a k → IsChild (e ∷ es) a k
later e es a k g = record { place = suc g.place; pair = g.pair; is_pair = g.is_pair; is_parent = g.is_parent; is_child = g.is_child }

here : (e : ℕ × ℕ) (es : List (ℕ × ℕ)) (a k : ℕ) → ((place k : ℕ) → slice_get (children_in es a) place ≡ Some k → IsChild es a k)
    → (place : ℕ) → e.0 ≡ a → slice_get (e.1 ∷ children_in es a) place ≡ Some k → IsChild (e ∷ es) a k
here e es a k rest zero same g = record { place = 0; pair = e; is_pair = refl; is_parent = same; is_child = cc }
here e es a k rest (suc place) same g = later e es a k (rest place k g)

pair_of : (pairs : List (ℕ × ℕ)) (a place k : ℕ) → slice_get (children_in pairs a) place ≡ Some k → IsChild pairs a k
pair_of [] a place k h = absurd (cc)
pair_of (e ∷ es) a place k h = elim (cases_eq e.0 a) [
  | inl same ↦ here e es a k (pair_of es a) place same (let test : (e.0 == a) ≡ true = grind arith in rw test at h)
  | inr other ↦ later e es a k (pair_of es a place k (let test : (e.0 == a) ≡ false = grind arith in rw test at h))
]

pub are_agents : (t : Network) → IsSound t → AreAgents t
are_agents t s a place k h = let g = pair_of t.children a place k h in subst (λ z. z < length t.agents) g.is_child (s.children g.place g.pair g.is_pair)

none_there : (xs : List ℕ) → ((k : ℕ) → slice_get xs 0 ≡ Some k → ⊥) → xs ≡ []
none_there [] h = refl
none_there (x ∷ xs) h = absurd (h x refl)

not_both : (t : Network) (a : ℕ) → IsProvider t a → IsAggregator t a → ⊥
not_both t a p g = clash p.0 (sym p.1 ∙ g)
  where
    clash : (hold : ℕ) → Some (Provider hold) ≡ Some Aggregator → ⊥
    clash hold e = absurd (cc)

pub are_leaves : (t : Network) → IsSound t → AreLeaves t
are_leaves t s p b o = none_there (children_of t b) (λ k h. let g = pair_of t.children b 0 k h in not_both t b (s.owned p b o) (subst (IsAggregator t) g.is_parent (s.parents g.place g.pair g.is_pair)))

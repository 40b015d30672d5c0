-- Every sound topology is well formed.
use Rattle.std.proofs.Common.{◌≡◌, ◌≢◌, ℕ, zero, suc, ◌==◌, List, [], ◌∷◌, ◌++◌, Bool, true, false, cond, Option, Some, None, Result, Ok, Err, get_or, slice_get, sym, ◌∙◌, refl, ap, arith, inl, inr, subst}
use Rattle.std.proofs.lemmas.Bool.{cases_eq}
use Rattle.std.proofs.lemmas.Option.{slice_get_within, slice_get-get_or}
use Rattle.stp_topology.specs.Children.{children_in}
use Rattle.stp_topology.specs.declared.fault.TopologyFault.{TopologyFault}
use Rattle.stp_topology.specs.declared.fault.TopologyFault.TheVariants.{Twice, Cycle, TooDeep}
use Rattle.stp_topology.specs.declared.declare.Sort.TheVariants as sorts
use Rattle.stp_topology.specs.Network.{Network}
use Rattle.stp_topology.specs.Sound.{IsSound, IsAggregator}
use Rattle.stp_topology.specs.Lines.{is_of, is_aggregator, has_pair, leads_down, stands_over, is_too_deep, with_child}
use Rattle.stp_topology.specs.Rank.{rank_of}
use Rattle.stp_topology.specs.Laws.{IsChild, LeadsDown, IsCyclic, child_after, IsToldWhy, IsWellFormed}
use Rattle.stp_topology.proofs.RankLemmas.{none_over_four}
use Rattle.stp_topology.proofs.PairLemmas.{found_pair, pair_found}
use Rattle.stp_topology.proofs.ChainLemmas.{child_before, closes, closed, down_is_chain, found_within}
use Rattle.stp_topology.proofs.RankLaws.{levels_same, rank_is, child_lower, chain_lower, deep_passes, passes_deep}

---- Points

-- a partner that is read is one that stands there
joined_at : (ps : List (Option ℕ)) (s p : ℕ) → get_or ps s None ≡ Some p → slice_get ps s ≡ Some (Some p)
joined_at [] s p h = cc
joined_at (x ∷ ps) zero p h = ap (λ o. Some o) h
joined_at (x ∷ ps) (suc s) p h = joined_at ps s p h

read_at : (ps : List (Option ℕ)) (s p : ℕ) → slice_get ps s ≡ Some (Some p) → get_or ps s None ≡ Some p
read_at [] s p h = cc
read_at (x ∷ ps) zero p h = let e : x ≡ Some p = cc in e
read_at (x ∷ ps) (suc s) p h = read_at ps s p h

mutual_at : (t : Network) → IsSound t → (s p : ℕ) → get_or t.partners s None ≡ Some p → get_or t.partners p None ≡ Some s
mutual_at t i s p h = read_at t.partners p s (i.joined s p (joined_at t.partners s p h))

owned_by : (t : Network) → IsSound t → (s p : ℕ) → slice_get t.partners s ≡ Some (Some p) → slice_get t.owners s ≡ Some (get_or t.owners s 0)
owned_by t i s p h = slice_get-get_or t.owners s 0 (omega (arith, slice_get_within t.partners s (Some p) h, i.fit.partners, i.fit.owners))

two_at : (t : Network) → IsSound t → (s p : ℕ) → get_or t.partners s None ≡ Some p → get_or t.owners s 0 ≢ get_or t.owners p 0
two_at t i s p h e =
    let there = joined_at t.partners s p h in
    i.apart s p there (owned_by t i s p there ∙ (ap (λ o. Some o) e ∙ sym (owned_by t i p s (i.joined s p there))))

same_value : {X : Type 0} (x y : X) (o : Option X) → o ≡ Some x → o ≡ Some y → x ≡ y
same_value x y o h g = cc

---- Children

-- where a child stands among the children its line stands among the pairs
later : (e : ℕ × ℕ) (es : List (ℕ × ℕ)) (a c : ℕ) → IsChild es a c → IsChild (e ∷ es) a c
later e es a c g = record { place = suc g.place; stands = g.stands }

line_of_child : (pairs : List (ℕ × ℕ)) (a k c : ℕ) → slice_get (children_in pairs a) k ≡ Some c → IsChild pairs a c
line_of_child [] a k c h = cc
line_of_child (e ∷ es) a k c h = elim (cases_eq e.0 a) [
  | inl same ↦ at_place same (λ l g. line_of_child es a l c g) k (let test : (e.0 == a) ≡ true = grind arith in rw test at h)
  | inr other ↦ later e es a c (line_of_child es a k c (let test : (e.0 == a) ≡ false = grind arith in rw test at h))
]
  where
    at_place : e.0 ≡ a → ((l : ℕ) → slice_get (children_in es a) l ≡ Some c → IsChild es a c) → (k : ℕ) → slice_get (e.1 ∷ children_in es a) k ≡ Some c → IsChild (e ∷ es) a c
    at_place same rest zero g = let child : e.1 ≡ c = cc in record { place = 0; stands = ap (λ x. Some (x, e.1)) same ∙ ap (λ x. Some (a, x)) child }
    at_place same rest (suc k) g = later e es a c (rest k g)

abbrev StandOnce : List (ℕ × ℕ) → Type 0
StandOnce pairs = (k l : ℕ) (e : ℕ × ℕ) → slice_get pairs k ≡ Some e → slice_get pairs l ≡ Some e → k ≡ l

not_again : (e : ℕ × ℕ) (es : List (ℕ × ℕ)) (a c : ℕ) → StandOnce (e ∷ es) → e.0 ≡ a → e.1 ≡ c → IsChild es a c → ⊥
not_again e es a c once p q g =
    let first : 0 ≡ suc g.place = once 0 (suc g.place) (a, c) (ap (λ x. Some (x, e.1)) p ∙ ap (λ x. Some (a, x)) q) g.stands in
    absurd (omega (arith, first))

once_behind : (e : ℕ × ℕ) (es : List (ℕ × ℕ)) → StandOnce (e ∷ es) → StandOnce es
once_behind e es once k l x h g = let more : suc k ≡ suc l = once (suc k) (suc l) x h g in omega (arith, more)

child_once : (pairs : List (ℕ × ℕ)) (a c : ℕ) → StandOnce pairs → (k l : ℕ) → slice_get (children_in pairs a) k ≡ Some c → slice_get (children_in pairs a) l ≡ Some c → k ≡ l
child_once [] a c once k l h g = cc
child_once (e ∷ es) a c once k l h g = elim (cases_eq e.0 a) [
  | inl same ↦ let test : (e.0 == a) ≡ true = grind arith in at_places same (child_once es a c (once_behind e es once)) k l (rw test at h) (rw test at g)
  | inr other ↦ let test : (e.0 == a) ≡ false = grind arith in child_once es a c (once_behind e es once) k l (rw test at h) (rw test at g)
]
  where
    at_places : e.0 ≡ a → ((k l : ℕ) → slice_get (children_in es a) k ≡ Some c → slice_get (children_in es a) l ≡ Some c → k ≡ l) → (k l : ℕ) → slice_get (e.1 ∷ children_in es a) k ≡ Some c → slice_get (e.1 ∷ children_in es a) l ≡ Some c → k ≡ l
    at_places same rest zero zero h g = refl
    at_places same rest zero (suc l) h g = absurd (not_again e es a c once same (cc) (line_of_child es a l c g))
    at_places same rest (suc k) zero h g = absurd (not_again e es a c once same (cc) (line_of_child es a k c h))
    at_places same rest (suc k) (suc l) h g = ap suc (rest k l h g)

is_test : (t : Network) (a : ℕ) → IsAggregator t a → is_aggregator t.kinds a ≡ true
is_test t a h = ap (is_of sorts.OneAggregator) h

parent_test : (t : Network) → IsSound t → (a c : ℕ) → IsChild t.children a c → is_aggregator t.kinds a ≡ true
parent_test t i a c g = is_test t a (i.parents g.place (a, c) g.stands)

not_cyclic : (t : Network) → IsSound t → IsCyclic t.children → ⊥
not_cyclic t i c = absurd (omega (arith, chain_lower t i.depth (parent_test t i) (suc c.below.between) c.agent c.agent c.below.leads))

---- The faults of a `child` line

abbrev outcome : Bool → Bool → Bool → Network → Result Network TopologyFault
outcome a b c x = cond a (Err Twice) (cond b (Err Cycle) (cond c (Err TooDeep) (Ok x)))

twice_so : (a b c : Bool) (x : Network) → outcome a b c x ≡ Err Twice → a ≡ true
twice_so true b c x h = refl
twice_so false true c x h = cc
twice_so false false true x h = cc
twice_so false false false x h = cc

cycle_so : (a b c : Bool) (x : Network) → outcome a b c x ≡ Err Cycle → b ≡ true
cycle_so true b c x h = cc
cycle_so false true c x h = refl
cycle_so false false true x h = cc
cycle_so false false false x h = cc

deep_so : (a b c : Bool) (x : Network) → outcome a b c x ≡ Err TooDeep → (a ≡ false) × (b ≡ false) × (c ≡ true)
deep_so true b c x h = cc
deep_so false true c x h = cc
deep_so false false true x h = (refl, refl, refl)
deep_so false false false x h = cc

so_twice : (a b c : Bool) (x : Network) → a ≡ true → outcome a b c x ≡ Err Twice
so_twice true b c x h = refl
so_twice false b c x h = cc

so_cycle : (a b c : Bool) (x : Network) → a ≡ false → b ≡ true → outcome a b c x ≡ Err Cycle
so_cycle true b c x h g = cc
so_cycle false true c x h g = refl
so_cycle false false c x h g = cc

so_deep : (a b c : Bool) (x : Network) → a ≡ false → b ≡ false → c ≡ true → outcome a b c x ≡ Err TooDeep
so_deep true b c x h g f = cc
so_deep false true c x h g f = cc
so_deep false false true x h g f = refl
so_deep false false false x h g f = cc

not_true : (b : Bool) → (b ≡ true → ⊥) → b ≡ false
not_true true h = absurd (h refl)
not_true false h = refl

not_false : (b : Bool) → b ≡ false → b ≡ true → ⊥
not_false true h g = cc
not_false false h g = cc

module _ (t : Network) (i j : ℕ) (s : IsSound t) (p : IsAggregator t i) where
  abbrev has : Bool
  has = has_pair t.children i j

  abbrev leads : Bool
  leads = leads_down t.children 4 j i

  abbrev deep : Bool
  deep = is_too_deep t.kinds (t.children ++ (i, j) ∷ [])

  abbrev after : Network
  after = child_after t i j

  -- a chain of any length is found in four steps
  pub leads_so : (n : ℕ) → LeadsDown t.children n j i → leads ≡ true
  leads_so n f = elim (found_within t.kinds t.children (parent_test t s) i (is_test t i p) 4 n j f) [
    | inl e ↦ e
    | inr e ↦ absurd (not_false (stands_over t.kinds t.children 4 j) (none_over_four t.kinds t.children j s.depth) e)
  ]

  cyclic_so : leads ≡ true → IsCyclic after.children
  cyclic_so h = let r = down_is_chain t.children 4 j i h in closes t.children i j r.0 r.1

  so_cyclic : IsCyclic after.children → leads ≡ true
  so_cyclic c = let r = closed t.children i j (not_cyclic t s) c in leads_so r.0 r.1

  -- a line that stands there closes no cycle
  new_so : IsCyclic after.children → has ≡ false
  new_so c = not_true has (λ h. not_cyclic t s (record { agent = i; below = (let r = closed t.children i j (not_cyclic t s) c in record { between = r.0; leads = (j, found_pair t.children i j h, r.1) }) }))

  parent_after : (a c : ℕ) → IsChild after.children a c → is_aggregator after.kinds a ≡ true
  parent_after a c g = elim (child_before t.children i j a c g) [
    | inl e ↦ parent_test t s a c e
    | inr e ↦ is_test t a (subst (IsAggregator t) e.0 p)
  ]

  pub told_why : IsToldWhy t i j
  unfolding with_child
  told_why = record {
    twice = (λ h. found_pair t.children i j (twice_so has leads deep after h), λ g. so_twice has leads deep after (pair_found t.children i j g));
    cycle = (λ h. cyclic_so (cycle_so has leads deep after h), λ c. so_cycle has leads deep after (new_so c) (so_cyclic c));
    too_deep = (
      λ h. let d = deep_so has leads deep after h in
          (λ g. not_false has d.0 (pair_found t.children i j g), λ c. not_false leads d.1 (so_cyclic c), deep_passes after parent_after d.2),
      λ d. so_deep has leads deep after (not_true has (λ h. d.0 (found_pair t.children i j h))) (not_true leads (λ h. d.1 (cyclic_so h))) (passes_deep after d.2),
    );
  }

pub well_formed : (t : Network) → IsSound t → IsWellFormed t
well_formed t i = record {
  agents = λ a l. i.agents a (get_or t.agents a []) (slice_get-get_or t.agents a [] l);
  stps = λ s l. i.stps s (get_or t.stps s []) (slice_get-get_or t.stps s [] l);
  two_owners = two_at t i;
  mutual_partners = mutual_at t i;
  one_sdp = λ s r p h g. same_value s r (get_or t.partners p None) (mutual_at t i s p h) (mutual_at t i r p g);
  asked = i.asked;
  one_line = i.once;
  one_place = λ a k l c h g. child_once t.children a c i.once k l h g;
  listed = λ a k c h. line_of_child t.children a k c h;
  parent = λ a c g. i.parents g.place (a, c) g.stands;
  child = λ a c g. i.answering g.place (a, c) g.stands;
  other = λ a c g e. let low = child_lower t a c i.depth (parent_test t i a c g) g in absurd (omega (arith, low, ap (rank_of t) e));
  rank = λ a. rank_is t a i.depth;
  lower = λ a c g. child_lower t a c i.depth (parent_test t i a c g) g;
  acyclic = not_cyclic t i;
  four_steps = λ k j p. (λ h. down_is_chain t.children 4 j k h, λ f. leads_so t k j i p f.0 f.1);
  four_levels = λ n a l. levels_same t n a i.depth l;
  told_why = λ k j p. told_why t k j i p;
}

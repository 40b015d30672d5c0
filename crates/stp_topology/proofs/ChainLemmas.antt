-- Chains of `child` lines: however long, four steps tell whether there is one.
use Rattle.std.proofs.Common.{◌≡◌, ℕ, zero, suc, ◌==◌, ◌&&◌, List, [], ◌∷◌, ◌++◌, true, sym, ◌∙◌, refl, ap, ◌⊎◌, inl, inr, subst}
use Rattle.std.specs.List.{list_any}
use Rattle.stp_topology.specs.Network.{AgentKind}
use Rattle.stp_topology.specs.Lines.{leads_down, is_aggregator, stands_over}
use Rattle.stp_topology.specs.Laws.{IsChild, LeadsDown, IsCyclic}
use Rattle.stp_topology.proofs.PairLemmas.{both_are, first_is_so, second_is_so, is_equal, equal_is, one_of, found_child, child_found}
use Rattle.stp_topology.proofs.NameLemmas.{at_push}
use Rattle.stp_topology.proofs.SoundLemmas.{stays_at}

-- a chain behind another
joined_chain : (pairs : List (ℕ × ℕ)) (m n a b c : ℕ) → LeadsDown pairs m a b → LeadsDown pairs n b c → (k : ℕ) × LeadsDown pairs k a c
joined_chain pairs zero n a b c f g = (n, subst (λ x. LeadsDown pairs n x c) (sym f) g)
joined_chain pairs (suc m) n a b c f g = let r = joined_chain pairs m n f.0 b c f.2 g in (suc r.0, (f.0, f.1, r.1))

still_child : (pairs more : List (ℕ × ℕ)) (a c : ℕ) → IsChild pairs a c → IsChild (pairs ++ more) a c
still_child pairs more a c g = record { place = g.place; stands = stays_at pairs more (a, c) g.place g.stands }

still_chain : (pairs more : List (ℕ × ℕ)) (n a b : ℕ) → LeadsDown pairs n a b → LeadsDown (pairs ++ more) n a b
still_chain pairs more zero a b f = f
still_chain pairs more (suc n) a b f = (f.0, still_child pairs more a f.0 f.1, still_chain pairs more n f.0 b f.2)

last_child : (pairs : List (ℕ × ℕ)) (i j : ℕ) → IsChild (pairs ++ (i, j) ∷ []) i j
last_child [] i j = record { place = 0; stands = refl }
last_child (e ∷ es) i j = let r = last_child es i j in record { place = suc r.place; stands = r.stands }

pub child_before : (pairs : List (ℕ × ℕ)) (i j a c : ℕ) → IsChild (pairs ++ (i, j) ∷ []) a c → IsChild pairs a c ⊎ ((i ≡ a) × (j ≡ c))
child_before pairs i j a c g = elim (at_push pairs (i, j) (a, c) g.place g.stands) [
  | inl e ↦ inl (record { place = g.place; stands = e })
  | inr e ↦ inr (ap (λ (x : ℕ × ℕ). x.0) e.1, ap (λ (x : ℕ × ℕ). x.1) e.1)
]

-- the chains to the one end of a line and from its other
record LeadsOver (pairs : List (ℕ × ℕ)) (i j a b : ℕ) : Type 0 where
  before : ℕ
  behind : ℕ
  to : LeadsDown pairs before a i
  from : LeadsDown pairs behind j b

-- a chain over one line more goes over that line or doesn't
split_chain : (pairs : List (ℕ × ℕ)) (i j n a b : ℕ) → LeadsDown (pairs ++ (i, j) ∷ []) n a b → LeadsDown pairs n a b ⊎ LeadsOver pairs i j a b
split_chain pairs i j zero a b f = inl f
split_chain pairs i j (suc n) a b f = by_line (child_before pairs i j a f.0 f.1) (split_chain pairs i j n f.0 b f.2)
  where
    by_line : IsChild pairs a f.0 ⊎ ((i ≡ a) × (j ≡ f.0)) → LeadsDown pairs n f.0 b ⊎ LeadsOver pairs i j f.0 b → LeadsDown pairs (suc n) a b ⊎ LeadsOver pairs i j a b
    by_line (inl g) (inl r) = inl (f.0, g, r)
    by_line (inl g) (inr r) = inr (record { before = suc r.before; behind = r.behind; to = (f.0, g, r.to); from = r.from })
    by_line (inr e) (inl r) = inr (record { before = 0; behind = n; to = sym e.0; from = subst (λ x. LeadsDown pairs n x b) (sym e.1) r })
    by_line (inr e) (inr r) = inr (record { before = 0; behind = r.behind; to = sym e.0; from = r.from })

-- the line closes a cycle exactly where its child leads down to its parent
pub closes : (pairs : List (ℕ × ℕ)) (i j n : ℕ) → LeadsDown pairs n j i → IsCyclic (pairs ++ (i, j) ∷ [])
closes pairs i j n f = record { agent = i; below = record { between = n; leads = (j, last_child pairs i j, still_chain pairs ((i, j) ∷ []) n j i f) } }

pub closed : (pairs : List (ℕ × ℕ)) (i j : ℕ) → (IsCyclic pairs → ⊥) → IsCyclic (pairs ++ (i, j) ∷ []) → (n : ℕ) × LeadsDown pairs n j i
closed pairs i j none c = by_line (split_chain pairs i j (suc c.below.between) c.agent c.agent c.below.leads)
  where
    by_line : LeadsDown pairs (suc c.below.between) c.agent c.agent ⊎ LeadsOver pairs i j c.agent c.agent → (n : ℕ) × LeadsDown pairs n j i
    by_line (inl r) = absurd (none (record { agent = c.agent; below = record { between = c.below.between; leads = r } }))
    by_line (inr r) = joined_chain pairs r.behind r.before j c.agent i r.from r.to

-- what the search for so many steps finds is a chain
pub down_is_chain : (pairs : List (ℕ × ℕ)) (n from to : ℕ) → leads_down pairs n from to ≡ true → (m : ℕ) × LeadsDown pairs m from to
unfolding leads_down
down_is_chain pairs zero from to h = (0, is_equal from to h)
down_is_chain pairs (suc n) from to h = elim (one_of (from == to) (list_any (λ e. (e.0 == from) && leads_down pairs n e.1 to) pairs) h) [
  | inl e ↦ (0, is_equal from to e)
  | inr e ↦
      let r = found_child (λ c. leads_down pairs n c to) pairs from e in
      let s = down_is_chain pairs n r.0 to r.2 in
      (suc s.0, (r.0, r.1, s.1))
]

module _ (kinds : List AgentKind) (pairs : List (ℕ × ℕ)) (parents : (a c : ℕ) → IsChild pairs a c → is_aggregator kinds a ≡ true) (to : ℕ) (at_end : is_aggregator kinds to ≡ true) where
  first_above : (n from : ℕ) → LeadsDown pairs n from to → is_aggregator kinds from ≡ true
  first_above zero from f = ap (is_aggregator kinds) f ∙ at_end
  first_above (suc n) from f = parents from f.0 f.1

  -- a chain down to an aggregator is found in so many steps, or so many aggregators stand below its begin
  pub found_within : (m n from : ℕ) → LeadsDown pairs n from to → (leads_down pairs m from to ≡ true) ⊎ (stands_over kinds pairs m from ≡ true)
  unfolding leads_down stands_over
  found_within zero n from f = inr refl
  found_within (suc m) zero from f = inl (first_is_so (from == to) (list_any (λ e. (e.0 == from) && leads_down pairs m e.1 to) pairs) (equal_is from to f))
  found_within (suc m) (suc n) from f = elim (found_within m n f.0 f.2) [
    | inl e ↦ inl (second_is_so (from == to) (list_any (λ e. (e.0 == from) && leads_down pairs m e.1 to) pairs) (child_found (λ c. leads_down pairs m c to) pairs from f.0 f.1 e))
    | inr e ↦ inr (child_found (λ c. is_aggregator kinds c && stands_over kinds pairs m c) pairs from f.0 f.1 (both_are (is_aggregator kinds f.0) (stands_over kinds pairs m f.0) (first_above n f.0 f.2) e))
  ]

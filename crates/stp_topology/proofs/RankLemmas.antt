-- No rank passes 4.
use Rattle.std.proofs.Common.{◌≡◌, ℕ, zero, suc, ◌+◌, ◌<◌, ◌≤◌, ◌==◌, ◌&&◌, ◌||◌, List, [], ◌∷◌, ◌++◌, Bool, true, false, cond, Some, ◌⊎◌, ◌≢◌, inl, inr, length, slice_get, ◌∙◌, refl, ap, arith, map, fold, max}
use Rattle.std.specs.List.{list_any, filter}
use Rattle.std.proofs.lemmas.Bool.Decides.{nat_tests}
use Rattle.std.proofs.lemmas.Bool.{cases_eq}
use Rattle.stp_topology.specs.Children.{children_in}
use Rattle.stp_topology.specs.declared.declare.Sort.TheVariants as sorts
use Rattle.stp_topology.specs.Network.{Network, AgentKind, children_of}
use Rattle.stp_topology.specs.Lines.{is_of, is_aggregator, stands_over, is_too_deep}
use Rattle.stp_topology.specs.Rank.{rank_to, rank_of}

pub neither_of : (a b : Bool) → (a || b) ≡ false → (a ≡ false) × (b ≡ false)
neither_of a b h = (grind arith, grind arith)

pub no_both : (a b : Bool) → (a && b) ≡ false → a ≡ true → b ≡ false
no_both a b h t = grind arith

-- the greatest rank of the children, where each that passes the bound is one of those that there are none of
greatest_within : (r : ℕ → ℕ) (q : ℕ → Bool) (m a : ℕ) → ((c : ℕ) → q c ≡ false → r c ≤ m) → (pairs : List (ℕ × ℕ)) (b : ℕ) → b ≤ m
    → list_any (λ (e : ℕ × ℕ). (e.0 == a) && q e.1) pairs ≡ false → fold max b (map r (children_in pairs a)) ≤ m
greatest_within r q m a low [] b l h = l
greatest_within r q m a low (e ∷ es) b l h =
    let n = neither_of ((e.0 == a) && q e.1) (list_any (λ (e : ℕ × ℕ). (e.0 == a) && q e.1) es) h in
    by_test (e.0 == a) (no_both (e.0 == a) (q e.1) n.0) (λ b' l'. greatest_within r q m a low es b' l' n.1)
  where
    by_test : (t : Bool) → (t ≡ true → q e.1 ≡ false) → ((b' : ℕ) → b' ≤ m → fold max b' (map r (children_in es a)) ≤ m)
        → fold max b (map r (map (λ (e : ℕ × ℕ). e.1) (cond t (e ∷ filter (λ (e : ℕ × ℕ). e.0 == a) es) (filter (λ (e : ℕ × ℕ). e.0 == a) es)))) ≤ m
    by_test true f next = next (max b (r e.1)) (grind (arith, l, low e.1 (f refl)))
    by_test false f next = next b l

-- an agent's rank is at most the number of aggregators that can't stand below it
pub rank_within : (t : Network) (n m a : ℕ) → (is_aggregator t.kinds a && stands_over t.kinds t.children m a) ≡ false → rank_to n t a ≤ m
unfolding rank_to stands_over
rank_within t zero m a h = omega arith
rank_within t (suc n) zero a h = by_test (is_aggregator t.kinds a) h
  where
    by_test : (b : Bool) → (b && true) ≡ false → cond b (1 + fold max 0 (map (λ c. rank_to n t c) (children_of t a))) 0 ≤ 0
    by_test true e = cc
    by_test false e = omega arith
rank_within t (suc n) (suc m) a h = by_test (is_aggregator t.kinds a) h (λ e. greatest_within (λ c. rank_to n t c) (λ c. is_aggregator t.kinds c && stands_over t.kinds t.children m c) m a (λ c f. rank_within t n m c f) t.children 0 (omega arith) e)
  where
    by_test : (b : Bool) → (b && list_any (λ (e : ℕ × ℕ). (e.0 == a) && (is_aggregator t.kinds e.1 && stands_over t.kinds t.children m e.1)) t.children) ≡ false
        → (list_any (λ (e : ℕ × ℕ). (e.0 == a) && (is_aggregator t.kinds e.1 && stands_over t.kinds t.children m e.1)) t.children ≡ false → fold max 0 (map (λ c. rank_to n t c) (children_of t a)) ≤ m)
        → cond b (1 + fold max 0 (map (λ c. rank_to n t c) (children_of t a))) 0 ≤ suc m
    by_test true e low = omega (arith, low e)
    by_test false e low = omega arith

-- agents that don't stand over the agent don't count
none_over : (s : ℕ → Bool) (g : ℕ × ℕ → Bool) (a : ℕ) → s a ≡ true → (pairs : List (ℕ × ℕ)) → list_any (λ (e : ℕ × ℕ). s e.0) pairs ≡ false → list_any (λ (e : ℕ × ℕ). (e.0 == a) && g e) pairs ≡ false
none_over s g a t [] h = refl
none_over s g a t (e ∷ es) h =
    let n = neither_of (s e.0) (list_any (λ (e : ℕ × ℕ). s e.0) es) h in
    ap (λ b. (b && g e) || list_any (λ (e : ℕ × ℕ). (e.0 == a) && g e) es) (apart (cases_eq e.0 a) n.0) ∙ none_over s g a t es n.1
  where
    apart : (e.0 ≡ a) ⊎ (e.0 ≢ a) → s e.0 ≡ false → (e.0 == a) ≡ false
    apart (inl q) f = absurd (cc (ap s q, t, f))
    apart (inr q) f = grind (arith, nat_tests)

false_if_not_true : (b : Bool) → (b ≡ true → b ≡ false) → b ≡ false
false_if_not_true true f = f refl
false_if_not_true false f = refl

not_over : (kinds : List AgentKind) (pairs : List (ℕ × ℕ)) (a : ℕ) → is_too_deep kinds pairs ≡ false → stands_over kinds pairs 4 a ≡ true → stands_over kinds pairs 4 a ≡ false
unfolding stands_over
not_over kinds pairs a h t = none_over (λ x. stands_over kinds pairs 4 x) (λ (e : ℕ × ℕ). is_aggregator kinds e.1 && stands_over kinds pairs 3 e.1) a t pairs h

and_false : (a : Bool) → (a && false) ≡ false
and_false a = grind arith

-- no agent stands over four aggregators
pub none_over_four : (kinds : List AgentKind) (pairs : List (ℕ × ℕ)) (a : ℕ) → is_too_deep kinds pairs ≡ false → stands_over kinds pairs 4 a ≡ false
none_over_four kinds pairs a h = false_if_not_true (stands_over kinds pairs 4 a) (not_over kinds pairs a h)

pub none_four : (kinds : List AgentKind) (pairs : List (ℕ × ℕ)) (a : ℕ) → is_too_deep kinds pairs ≡ false → (is_aggregator kinds a && stands_over kinds pairs 4 a) ≡ false
none_four kinds pairs a h = ap (λ b. is_aggregator kinds a && b) (none_over_four kinds pairs a h) ∙ and_false (is_aggregator kinds a)

pub rank_at_most_4 : (t : Network) (a : ℕ) → is_too_deep t.kinds t.children ≡ false → rank_of t a ≤ 4
rank_at_most_4 t a h = rank_within t 5 4 a (none_four t.kinds t.children a h)

pub before : {X : Type 0} (xs ys : List X) (k : ℕ) → k < length xs → slice_get (xs ++ ys) k ≡ slice_get xs k
before [] ys k l = absurd (omega arith)
before (x ∷ xs) ys zero l = refl
before (x ∷ xs) ys (suc k) l = before xs ys k (omega arith)

any_same_in : {X : Type 0} (p q : X → Bool) (xs : List X) → ((k : ℕ) → (x : X) → slice_get xs k ≡ Some x → p x ≡ q x) → list_any p xs ≡ list_any q xs
any_same_in p q [] h = refl
any_same_in p q (x ∷ xs) h = ap (λ b. b || list_any p xs) (h 0 x refl) ∙ ap (λ b. q x || b) (any_same_in p q xs (λ k y e. h (suc k) y e))

over_same : (kinds : List AgentKind) (kind : AgentKind) (pairs : List (ℕ × ℕ)) → ((k : ℕ) → (e : ℕ × ℕ) → slice_get pairs k ≡ Some e → e.1 < length kinds) → (n a : ℕ)
    → stands_over (kinds ++ kind ∷ []) pairs n a ≡ stands_over kinds pairs n a
unfolding stands_over
over_same kinds kind pairs w zero a = refl
over_same kinds kind pairs w (suc n) a = any_same_in _ _ pairs (λ k (e : ℕ × ℕ) h.
    ap (λ o. (e.0 == a) && (is_of sorts.OneAggregator o && stands_over (kinds ++ kind ∷ []) pairs n e.1)) (before kinds (kind ∷ []) e.1 (w k e h))
    ∙ ap (λ b. (e.0 == a) && (is_aggregator kinds e.1 && b)) (over_same kinds kind pairs w n e.1))

-- an agent more makes nothing deeper
pub deep_same : (kinds : List AgentKind) (kind : AgentKind) (pairs : List (ℕ × ℕ)) → ((k : ℕ) → (e : ℕ × ℕ) → slice_get pairs k ≡ Some e → e.1 < length kinds)
    → is_too_deep (kinds ++ kind ∷ []) pairs ≡ is_too_deep kinds pairs
deep_same kinds kind pairs w = any_same_in _ _ pairs (λ k (e : ℕ × ℕ) h. over_same kinds kind pairs w 4 e.0)

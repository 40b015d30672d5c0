-- Agents marked by the pairs that lead to them.
use Rattle.std.proofs.Common.{◌≡◌, ◌≢◌, ℕ, zero, suc, ◌+◌, ◌<◌, ◌≤◌, ◌==◌, ◌&&◌, ◌||◌, List, [], ◌∷◌, Bool, true, false, length, replicate, take, get_or, slice_set, sym, ◌∙◌, refl, ap, arith, cond, ◌⊎◌, inl, inr}
use Rattle.std.specs.List.{list_any}
use Rattle.std.proofs.lemmas.Bool.{cases_eq}
use Rattle.std.proofs.lemmas.Bool.Decides.{nat_tests}
use Rattle.std.proofs.lemmas.List.{get_or-set_same, get_or-set_other, take_all}
use Rattle.std.proofs.lemmas.List.Folds.{list_any_more}
use Rattle.stp_topology.specs.Network.{AgentKind}
use Rattle.stp_topology.specs.Lines.{leads_down, is_aggregator, stands_over}

-- no agent is marked
pub none_marked : (n x : ℕ) → get_or (replicate n false) x false ≡ false
none_marked zero x = refl
none_marked (suc n) zero = refl
none_marked (suc n) (suc x) = none_marked n x

-- each agent is marked
pub all_marked : (n x : ℕ) → get_or (replicate n true) x true ≡ true
all_marked zero x = refl
all_marked (suc n) zero = refl
all_marked (suc n) (suc x) = all_marked n x

or_true : (a : Bool) → true ≡ (a || true)
or_true a = grind arith

or_false : (a : Bool) → a ≡ (a || false)
or_false a = grind arith

or_and_false : (a b : Bool) → a ≡ (a || (b && false))
or_and_false a b = grind arith

-- one agent more is marked, or none
marked_so : (above : List Bool) (i x : ℕ) (b : Bool) → (b ≡ true → i < length above) → get_or (cond b (slice_set above i true) above) x false ≡ (get_or above x false || ((i == x) && b))
marked_so above i x true l = by_place (cases_eq x i)
  where
    by_place : (x ≡ i) ⊎ (x ≢ i) → get_or (slice_set above i true) x false ≡ (get_or above x false || ((i == x) && true))
    by_place (inl e) = let s = get_or-set_same above i true false (l refl) in let t : (i == x) ≡ true = grind (arith, nat_tests) in rw (t, e, s) (or_true (get_or above i false))
    by_place (inr n) = let s = get_or-set_other above i x true false n in let t : (i == x) ≡ false = grind (arith, nat_tests) in rw (t, s) (or_false (get_or above x false))
marked_so above i x false l = or_and_false (get_or above x false) (i == x)

-- one pair more
pub one_more : (above after : List Bool) (pairs : List (ℕ × ℕ)) (q : ℕ → Bool) (k : ℕ) (e : ℕ × ℕ) (b : Bool) → k < length pairs → e ≡ get_or pairs k e → (b ≡ true → e.0 < length above) → b ≡ q e.1
    → after ≡ cond b (slice_set above e.0 true) above → (x : ℕ) → get_or above x false ≡ list_any (λ e. (e.0 == x) && q e.1) (take k pairs) → get_or after x false ≡ list_any (λ e. (e.0 == x) && q e.1) (take (k + 1) pairs)
one_more above after pairs q k e b l at w t a x h =
    ap (λ m. get_or m x false) a ∙ marked_so above e.0 x b w ∙ ap (λ y. y || ((e.0 == x) && b)) h ∙ ap (λ y. list_any (λ e. (e.0 == x) && q e.1) (take k pairs) || ((e.0 == x) && y)) t
    ∙ ap (λ (z : ℕ × ℕ). list_any (λ e. (e.0 == x) && q e.1) (take k pairs) || ((z.0 == x) && q z.1)) at
    ∙ sym (list_any_more (λ (e : ℕ × ℕ). (e.0 == x) && q e.1) pairs k e l)

pub at_the_end : (pairs : List (ℕ × ℕ)) (p : ℕ × ℕ → Bool) (k : ℕ) → length pairs ≤ k → list_any p (take k pairs) ≡ list_any p pairs
at_the_end pairs p k l = ap (list_any p) (take_all k pairs l)

any_same : {X : Type 0} (p q : X → Bool) (xs : List X) → ((x : X) → p x ≡ q x) → list_any p xs ≡ list_any q xs
any_same p q [] h = refl
any_same p q (x ∷ xs) h = ap (λ b. b || list_any p xs) (h x) ∙ ap (λ b. q x || b) (any_same p q xs h)

swapped : (a t : Bool) → (a || (t && true)) ≡ (t || a)
swapped a t = grind arith

turned : (a b : ℕ) → (a == b) ≡ (b == a)
turned a b = grind (arith, nat_tests)

-- one step more down to an agent
pub down_more : (pairs : List (ℕ × ℕ)) (marked once after : List Bool) (n to : ℕ) → ((x : ℕ) → get_or marked x false ≡ leads_down pairs n x to)
    → ((x : ℕ) → get_or once x false ≡ list_any (λ e. (e.0 == x) && get_or marked e.1 false) pairs) → to < length once → after ≡ slice_set once to true
    → (x : ℕ) → get_or after x false ≡ leads_down pairs (n + 1) x to
unfolding leads_down
down_more pairs marked once after n to h o l a x =
    let more : n + 1 ≡ suc n = omega arith in
    rw more (ap (λ m. get_or m x false) a ∙ marked_so once to x true (λ _. l) ∙ swapped (get_or once x false) (to == x) ∙ ap (λ b. b || get_or once x false) (turned to x)
    ∙ ap (λ b. (x == to) || b) (o x ∙ any_same _ _ pairs (λ (e : ℕ × ℕ). ap (λ b. (e.0 == x) && b) (h e.1))))

-- the agent itself
pub down_none : (pairs : List (ℕ × ℕ)) (marked : List Bool) (to : ℕ) → to < 64 → marked ≡ slice_set (replicate 64 false) to true → (x : ℕ) → get_or marked x false ≡ leads_down pairs 0 x to
unfolding leads_down
down_none pairs marked to l m x =
    ap (λ y. get_or y x false) m ∙ marked_so (replicate 64 false) to x true (λ _. l) ∙ swapped (get_or (replicate 64 false) x false) (to == x)
    ∙ ap (λ b. (to == x) || b) (none_marked 64 x) ∙ sym (or_false (to == x)) ∙ turned to x

-- one aggregator more
pub over_more : (kinds : List AgentKind) (pairs : List (ℕ × ℕ)) (marked after : List Bool) (n : ℕ) (d : Bool) → ((x : ℕ) → get_or marked x d ≡ stands_over kinds pairs n x)
    → ((x : ℕ) → get_or after x false ≡ list_any (λ e. (e.0 == x) && (is_aggregator kinds e.1 && get_or marked e.1 d)) pairs)
    → (x : ℕ) → get_or after x false ≡ stands_over kinds pairs (n + 1) x
unfolding stands_over
over_more kinds pairs marked after n d h a x =
    let more : n + 1 ≡ suc n = omega arith in
    rw more (a x ∙ any_same _ _ pairs (λ (e : ℕ × ℕ). ap (λ b. (e.0 == x) && (is_aggregator kinds e.1 && b)) (h e.1)))

-- over each agent stand none
pub over_none : (kinds : List AgentKind) (pairs : List (ℕ × ℕ)) (x : ℕ) → get_or (replicate 64 true) x true ≡ stands_over kinds pairs 0 x
unfolding stands_over
over_none kinds pairs x = all_marked 64 x

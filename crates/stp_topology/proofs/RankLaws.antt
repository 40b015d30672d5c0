-- The rank of an agent, however many levels are seen.
use Rattle.std.proofs.Common.{◌≡◌, ℕ, zero, suc, ◌+◌, ◌<◌, ◌≤◌, ◌==◌, ◌&&◌, List, [], ◌∷◌, Bool, true, false, cond, slice_get, Some, sym, ◌∙◌, refl, ap, arith, map, fold, max}
use Rattle.std.specs.List.{list_any, filter}
use Rattle.stp_topology.specs.Children.{children_in}
use Rattle.stp_topology.specs.Network.{Network, children_of}
use Rattle.stp_topology.specs.Lines.{is_aggregator, stands_over, is_too_deep}
use Rattle.stp_topology.specs.Rank.{greatest, rank_to, rank_of}
use Rattle.stp_topology.specs.Laws.{IsChild, LeadsDown, IsDeep}
use Rattle.stp_topology.proofs.RankLemmas.{neither_of, no_both, rank_within, none_four}
use Rattle.stp_topology.proofs.PairLemmas.{both_of, equal_is, found_any, found_child}

-- two functions that agree on the children whose test is not met
same_ranks : (r s : ℕ → ℕ) (q : ℕ → Bool) (a : ℕ) → ((c : ℕ) → q c ≡ false → r c ≡ s c) → (pairs : List (ℕ × ℕ)) → list_any (λ (e : ℕ × ℕ). (e.0 == a) && q e.1) pairs ≡ false → map r (children_in pairs a) ≡ map s (children_in pairs a)
same_ranks r s q a agree [] h = refl
same_ranks r s q a agree (e ∷ es) h =
    let n = neither_of ((e.0 == a) && q e.1) (list_any (λ (e : ℕ × ℕ). (e.0 == a) && q e.1) es) h in
    by_test (e.0 == a) (no_both (e.0 == a) (q e.1) n.0) (same_ranks r s q a agree es n.1)
  where
    by_test : (t : Bool) → (t ≡ true → q e.1 ≡ false) → map r (children_in es a) ≡ map s (children_in es a)
        → map r (map (λ (e : ℕ × ℕ). e.1) (cond t (e ∷ filter (λ (e : ℕ × ℕ). e.0 == a) es) (filter (λ (e : ℕ × ℕ). e.0 == a) es)))
        ≡ map s (map (λ (e : ℕ × ℕ). e.1) (cond t (e ∷ filter (λ (e : ℕ × ℕ). e.0 == a) es) (filter (λ (e : ℕ × ℕ). e.0 == a) es)))
    by_test true f next = ap (λ x. x ∷ map r (children_in es a)) (agree e.1 (f refl)) ∙ ap (λ xs. s e.1 ∷ xs) next
    by_test false f next = next

-- where fewer aggregators stand below an agent, more levels change nothing
steady : (t : Network) (m n a : ℕ) → m ≤ n → (is_aggregator t.kinds a && stands_over t.kinds t.children m a) ≡ false → rank_to n t a ≡ rank_to m t a
unfolding rank_to stands_over
steady t zero zero a l h = refl
steady t zero (suc k) a l h = by_test (is_aggregator t.kinds a) h
  where
    by_test : (b : Bool) → (b && true) ≡ false → cond b (1 + fold max 0 (map (λ c. rank_to k t c) (children_of t a))) 0 ≡ 0
    by_test true e = cc
    by_test false e = refl
steady t (suc m) zero a l h = absurd (omega arith)
steady t (suc m) (suc n) a l h = by_test (is_aggregator t.kinds a) h (same_ranks (λ c. rank_to n t c) (λ c. rank_to m t c) (λ c. is_aggregator t.kinds c && stands_over t.kinds t.children m c) a (λ c f. steady t m n c (omega arith) f) t.children)
  where
    by_test : (b : Bool) → (b && list_any (λ (e : ℕ × ℕ). (e.0 == a) && (is_aggregator t.kinds e.1 && stands_over t.kinds t.children m e.1)) t.children) ≡ false
        → (list_any (λ (e : ℕ × ℕ). (e.0 == a) && (is_aggregator t.kinds e.1 && stands_over t.kinds t.children m e.1)) t.children ≡ false → map (λ c. rank_to n t c) (children_of t a) ≡ map (λ c. rank_to m t c) (children_of t a))
        → cond b (1 + fold max 0 (map (λ c. rank_to n t c) (children_of t a))) 0 ≡ cond b (1 + fold max 0 (map (λ c. rank_to m t c) (children_of t a))) 0
    by_test true e same = ap (λ xs. 1 + fold max 0 xs) (same e)
    by_test false e same = refl

-- five levels are as good as four
five_as_four : (t : Network) (a : ℕ) → is_too_deep t.kinds t.children ≡ false → rank_of t a ≡ rank_to 4 t a
five_as_four t a h = steady t 4 5 a (omega arith) (none_four t.kinds t.children a h)

-- more than four levels change nothing
pub levels_same : (t : Network) (n a : ℕ) → is_too_deep t.kinds t.children ≡ false → 4 ≤ n → rank_to n t a ≡ rank_of t a
levels_same t n a h l = steady t 4 n a l (none_four t.kinds t.children a h) ∙ sym (five_as_four t a h)

all_same : {X Y : Type 0} (f g : X → Y) (xs : List X) → ((x : X) → f x ≡ g x) → map f xs ≡ map g xs
all_same f g [] h = refl
all_same f g (x ∷ xs) h = ap (λ y. y ∷ map f xs) (h x) ∙ ap (λ ys. g x ∷ ys) (all_same f g xs h)

-- the rank by the ranks of the children
pub rank_is : (t : Network) (a : ℕ) → is_too_deep t.kinds t.children ≡ false → rank_of t a ≡ cond (is_aggregator t.kinds a) (1 + greatest (map (rank_of t) (children_of t a))) 0
unfolding rank_to
rank_is t a h =
    ap (λ xs. cond (is_aggregator t.kinds a) (1 + greatest xs) 0) (all_same (λ c. rank_to 4 t c) (rank_of t) (children_of t a) (λ c. sym (five_as_four t c h)))

from_first : (b : ℕ) (ns : List ℕ) → b ≤ fold max b ns
from_first b [] = omega arith
from_first b (n ∷ ns) = grind (arith, from_first (max b n) ns)

-- a child's number is at most the greatest
greatest_over : (r : ℕ → ℕ) (b a c k : ℕ) (pairs : List (ℕ × ℕ)) → slice_get pairs k ≡ Some (a, c) → r c ≤ fold max b (map r (children_in pairs a))
greatest_over r b a c k [] h = cc
greatest_over r b a c zero (e ∷ es) h = by_test (e.0 == a) (equal_is e.0 a (cc))
  where
    child : e.1 ≡ c
    child = cc

    by_test : (t : Bool) → t ≡ true → r c ≤ fold max b (map r (map (λ (e : ℕ × ℕ). e.1) (cond t (e ∷ filter (λ (e : ℕ × ℕ). e.0 == a) es) (filter (λ (e : ℕ × ℕ). e.0 == a) es))))
    by_test true q = grind (arith, from_first (max b (r e.1)) (map r (children_in es a)), ap r child)
    by_test false q = cc
greatest_over r b a c (suc k) (e ∷ es) h = by_test (e.0 == a) (λ d. greatest_over r d a c k es h)
  where
    by_test : (t : Bool) → ((d : ℕ) → r c ≤ fold max d (map r (children_in es a))) → r c ≤ fold max b (map r (map (λ (e : ℕ × ℕ). e.1) (cond t (e ∷ filter (λ (e : ℕ × ℕ). e.0 == a) es) (filter (λ (e : ℕ × ℕ). e.0 == a) es))))
    by_test true next = next (max b (r e.1))
    by_test false next = next b

-- a child's rank is below its parent's
pub child_lower : (t : Network) (a c : ℕ) → is_too_deep t.kinds t.children ≡ false → is_aggregator t.kinds a ≡ true → IsChild t.children a c → rank_of t c < rank_of t a
child_lower t a c h g line =
    let here = rank_is t a h ∙ ap (λ b. cond b (1 + greatest (map (rank_of t) (children_of t a))) 0) g in
    omega (arith, here, greatest_over (rank_of t) 0 a c line.place t.children line.stands)

pub chain_lower : (t : Network) → is_too_deep t.kinds t.children ≡ false → ((a c : ℕ) → IsChild t.children a c → is_aggregator t.kinds a ≡ true) → (n from to : ℕ) → LeadsDown t.children n from to → rank_of t to + n ≤ rank_of t from
chain_lower t h parents zero from to f = omega (arith, ap (rank_of t) f)
chain_lower t h parents (suc n) from to f = omega (arith, child_lower t from f.0 h (parents from f.0 f.1) f.1, chain_lower t h parents n f.0 to f.2)

-- over an aggregator with so many below it the rank is greater than their number
rank_over : (t : Network) (m a : ℕ) → is_aggregator t.kinds a ≡ true → stands_over t.kinds t.children m a ≡ true → m < rank_to (suc m) t a
unfolding rank_to stands_over
rank_over t zero a g h = omega (arith, ap (λ b. cond b (1 + fold max 0 (map (λ c. rank_to 0 t c) (children_of t a))) 0) g)
rank_over t (suc m) a g h =
    let r = found_child (λ c. is_aggregator t.kinds c && stands_over t.kinds t.children m c) t.children a h in
    let b = both_of (is_aggregator t.kinds r.0) (stands_over t.kinds t.children m r.0) r.2 in
    let here = ap (λ b. cond b (1 + fold max 0 (map (λ c. rank_to (suc m) t c) (children_of t a))) 0) g in
    omega (arith, here, greatest_over (λ c. rank_to (suc m) t c) 0 a r.0 r.1.place t.children r.1.stands, rank_over t m r.0 b.0 b.1)

-- too deep is that a rank passes 4
pub deep_passes : (t : Network) → ((a c : ℕ) → IsChild t.children a c → is_aggregator t.kinds a ≡ true) → is_too_deep t.kinds t.children ≡ true → IsDeep t
deep_passes t parents h =
    let r = found_any (λ (e : ℕ × ℕ). stands_over t.kinds t.children 4 e.0) t.children h in
    record { agent = r.1.0; levels = 5; passes = rank_over t 4 r.1.0 (parents r.1.0 r.1.1 (record { place = r.0; stands = r.2 })) r.3 }

pub passes_deep : (t : Network) → IsDeep t → is_too_deep t.kinds t.children ≡ true
passes_deep t d = by_test (is_too_deep t.kinds t.children) refl
  where
    by_test : (b : Bool) → is_too_deep t.kinds t.children ≡ b → b ≡ true
    by_test true e = refl
    by_test false e = absurd (omega (arith, d.passes, rank_within t d.levels 4 d.agent (none_four t.kinds t.children d.agent e)))

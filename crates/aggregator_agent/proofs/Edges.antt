-- Places in rising order, at which something is done one after another: behind which of all places the done ones end.
use Rattle.std.proofs.Common.{◌≡◌, ◌≤◌, ◌<◌, ◌+◌, ◌-◌, ◌∙◌, ℕ, zero, suc, add-one, List, length, get_or, ap, subst, arith, inl, inr}
use Rattle.std.specs.List.{Contains}
use Rattle.std.specs.List.Sorted.{IsStrictlyIncreasing}
use Rattle.std.proofs.lemmas.Bool.{cases_lt}
use Rattle.std.proofs.lemmas.List.{get_or_default}
use Rattle.std.proofs.lemmas.List.Kept.{AllPairs-from_increasing}
use Rattle.std.proofs.lemmas.Map.Keys.{non_decreasing_from_sorted, sorted_from_strictly_increasing}

-- behind the first so many places
abbrev pub edge : List ℕ → ℕ → ℕ
edge ps zero = 0
edge ps (suc i) = get_or ps i 0 + 1

pub edge_next : (ps : List ℕ) (i : ℕ) → edge ps (i + 1) ≡ get_or ps i 0 + 1
edge_next ps i = ap (edge ps) (add-one i)

not_after : (ps : List ℕ) (i j : ℕ) → IsStrictlyIncreasing ps → i ≤ j → j < length ps → get_or ps i 0 ≤ get_or ps j 0
not_after ps i j up le l = non_decreasing_from_sorted ps (sorted_from_strictly_increasing ps up) i j 0 le l

pub edge_before : (ps : List ℕ) (i : ℕ) → IsStrictlyIncreasing ps → i < length ps → edge ps i ≤ get_or ps i 0
edge_before ps zero up l = omega arith
edge_before ps (suc i) up l = let less = AllPairs-from_increasing ps up i (suc i) 0 (omega arith) l in omega (arith, less)

-- between the edge and the next place none of the places lies
pub no_place : (ps : List ℕ) (i q : ℕ) → IsStrictlyIncreasing ps → i ≤ length ps → edge ps i ≤ q → (i < length ps → q < get_or ps i 0) → Contains ps q → ⊥
no_place ps i q up le ge lt has = elim (cases_lt has.0 i) [
  | inl m ↦ before i m le ge
  | inr n ↦
      let later = not_after ps i has.0 up n has.1 in
      let less = lt (omega (arith, n, has.1)) in
      omega (arith, at, later, less)
]
  where
    at : get_or ps has.0 0 ≡ q
    at = get_or_default ps has.0 0 q has.1 ∙ has.2

    before : (k : ℕ) → has.0 < k → k ≤ length ps → edge ps k ≤ q → ⊥
    before zero m l g = omega (arith, m)
    before (suc k) m l g = let later = not_after ps has.0 k up (omega (arith, m)) (omega (arith, l)) in omega (arith, at, later, g)

through : (P : ℕ → Type 0) (a m : ℕ) → ((q : ℕ) → a ≤ q → q < a + m → P q → P (q + 1)) → P a → P (a + m)
through P a zero step start = let e : a ≡ a + 0 = omega arith in subst P e start
through P a (suc m) step start =
    let e : a + m + 1 ≡ a + suc m = omega arith in
    subst P e (step (a + m) (omega arith) (omega arith) (through P a m (λ q ge l. step q ge (omega (arith, l))) start))

-- what each place hands on comes from the one end to the other
pub along : (P : ℕ → Type 0) (a k : ℕ) → a ≤ k → ((q : ℕ) → a ≤ q → q < k → P q → P (q + 1)) → P a → P k
along P a k le step start =
    let end : a + (k - a) ≡ k = omega arith in
    subst P end (through P a (k - a) (λ q ge l. step q ge (omega (arith, end, l))) start)

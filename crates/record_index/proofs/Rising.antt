-- Numbers that rise, where one is put in or taken out.
use Rattle.std.proofs.Common.{◌≡◌, ◌≢◌, ◌↔◌, ◌≤◌, ◌<◌, ◌+◌, ◌-◌, ◌⊎◌, inl, inr, ◌∙◌, ℕ, List, Result, Ok, Err, arith, sym, ap, subst, length, get_or, Contains}
use Rattle.std.proofs.lemmas.List.{get_or_default}
use Rattle.record_index.proofs.Members.{contains_insert, contains_remove, contains_one_less}
use Rattle.std.specs.List.{insert, remove}
use Rattle.std.specs.List.Sorted.{IsStrictlyIncreasing, IsBinarySearchResult}
use Rattle.std.specs.Ordering.{nat_cmp}
use Rattle.std.specs.Result.{MatchResult}
use Rattle.std.proofs.lemmas.Bool.{cases_lt}
use Rattle.std.proofs.lemmas.List.Edits.{length-insert, get_or-insert_below, get_or-insert_at, get_or-insert_above, length-remove, get_or-remove_below, get_or-remove_above}
use Rattle.std.proofs.lemmas.List.Kept.{AllPairs-from_increasing}
use Rattle.std.proofs.lemmas.List.Sorted.{searched}
use Rattle.std.proofs.lemmas.Map.Keys.{non_decreasing_from_sorted, sorted_from_strictly_increasing}

---- Where a number is

-- a number is wanting: the first ones are less, and the others more
pub record IsGap (xs : List ℕ) (i x : ℕ) : Type 0 where
  pub within : i ≤ length xs
  pub before : (k : ℕ) → k < i → get_or xs k 0 < x
  pub behind : (k : ℕ) → i ≤ k → k < length xs → x < get_or xs k 0

by_search : (xs : List ℕ) (x : ℕ) (r : Result ℕ ℕ) → IsStrictlyIncreasing xs → IsBinarySearchResult (λ y. nat_cmp y x) xs r
    → MatchResult r (λ i. (i < length xs) × (get_or xs i 0 ≡ x)) (λ i. (i ≤ length xs) × ((k : ℕ) → k < i → get_or xs k 0 < x) × ((k : ℕ) → i ≤ k → k < length xs → x < get_or xs k 0))
by_search xs x r up h = searched xs x r h (λ i j le l. non_decreasing_from_sorted xs (sorted_from_strictly_increasing xs up) i j 0 le l)

pub found_at : (xs : List ℕ) (x i : ℕ) → IsStrictlyIncreasing xs → IsBinarySearchResult (λ y. nat_cmp y x) xs (Ok i) → (i < length xs) × (get_or xs i 0 ≡ x)
found_at xs x i up h = by_search xs x (Ok i) up h

pub gap_at : (xs : List ℕ) (x i : ℕ) → IsStrictlyIncreasing xs → IsBinarySearchResult (λ y. nat_cmp y x) xs (Err i) → IsGap xs i x
gap_at xs x i up h = let gap = by_search xs x (Err i) up h in record { within = gap.0; before = gap.1; behind = gap.2 }

-- what is contained stands somewhere
at_place : (xs : List ℕ) (x : ℕ) (has : Contains xs x) → get_or xs has.0 0 ≡ x
at_place xs x has = get_or_default xs has.0 0 x has.1 ∙ has.2

pub absent : (xs : List ℕ) (i x : ℕ) → IsGap xs i x → Contains xs x → ⊥
absent xs i x gap has =
    let at = at_place xs x has in
    elim (cases_lt has.0 i) [
      | inl l ↦ omega (arith, gap.before has.0 l, at)
      | inr le ↦ omega (arith, gap.behind has.0 le has.1, at)
    ]

---- Edits

-- One more number.
pub rising_insert : (xs : List ℕ) (i x : ℕ) → IsStrictlyIncreasing xs → IsGap xs i x → IsStrictlyIncreasing (insert xs i x)
rising_insert xs i x up gap k l =
    let long = length-insert xs i x gap.within in
    elim (cases_lt k i) [
      | inl before ↦ elim (cases_lt (k + 1) i) [
        | inl l2 ↦ omega (arith, get_or-insert_below xs i x 0 k before gap.within, get_or-insert_below xs i x 0 (k + 1) l2 gap.within, up k (omega (arith, gap.within)))
        | inr le ↦
            let last : k + 1 ≡ i = omega arith in
            let here = ap (λ n. get_or (insert xs i x) n 0) last ∙ get_or-insert_at xs i x 0 gap.within in
            omega (arith, get_or-insert_below xs i x 0 k before gap.within, here, gap.before k before)
      ]
      | inr le ↦ elim (cases_lt i k) [
        | inl behind ↦
            let one : (k - 1) + 1 ≡ k = omega arith in
            let here = ap (λ n. get_or (insert xs i x) n 0) (sym one) ∙ get_or-insert_above xs i x 0 (k - 1) (omega arith) gap.within in
            let next = get_or-insert_above xs i x 0 k le gap.within in
            let rise = up (k - 1) (omega (arith, long)) in
            let moved = ap (λ n. get_or xs n 0) one in
            omega (arith, here, next, rise, moved)
        | inr ge ↦
            let same : k ≡ i = omega arith in
            let here = ap (λ n. get_or (insert xs i x) n 0) same ∙ get_or-insert_at xs i x 0 gap.within in
            omega (arith, here, get_or-insert_above xs i x 0 k le gap.within, gap.behind k le (omega (arith, long)))
      ]
    ]

-- One number less.
pub rising_remove : (xs : List ℕ) (i : ℕ) → IsStrictlyIncreasing xs → i < length xs → IsStrictlyIncreasing (remove xs i)
rising_remove xs i up within k l =
    let long = length-remove xs i within in
    elim (cases_lt k i) [
      | inl before ↦ elim (cases_lt (k + 1) i) [
        | inl l2 ↦ omega (arith, get_or-remove_below xs i 0 k before within, get_or-remove_below xs i 0 (k + 1) l2 within, up k (omega arith))
        | inr le ↦ omega (arith, get_or-remove_below xs i 0 k before within, get_or-remove_above xs i 0 (k + 1) le within, up k (omega arith), up (k + 1) (omega (arith, long)))
      ]
      | inr le ↦ omega (arith, get_or-remove_above xs i 0 k le within, get_or-remove_above xs i 0 (k + 1) (omega arith) within, up (k + 1) (omega (arith, long)))
    ]

-- a number that was taken out isn't there
gone : (xs : List ℕ) (i x : ℕ) → IsStrictlyIncreasing xs → i < length xs → get_or xs i 0 ≡ x → Contains (remove xs i) x → ⊥
gone xs i x up within is has =
    let at = at_place (remove xs i) x has in
    let k = has.0 in
    let long = length-remove xs i within in
    elim (cases_lt k i) [
      | inl before ↦ omega (arith, at, is, get_or-remove_below xs i 0 k before within, AllPairs-from_increasing xs up k i 0 before within)
      | inr le ↦ omega (arith, at, is, get_or-remove_above xs i 0 k le within, AllPairs-from_increasing xs up i (k + 1) 0 (omega arith) (omega (arith, long, has.1)))
    ]

---- What a clause says

pub added : (xs ys : List ℕ) (i x : ℕ) → ys ≡ insert xs i x → (p : ℕ) → Contains ys p ↔ ((p ≡ x) ⊎ Contains xs p)
added xs ys i x is p = subst (λ zs. Contains zs p ↔ ((p ≡ x) ⊎ Contains xs p)) (sym is) (contains_insert xs i x p)

pub removed : (xs ys : List ℕ) (i x : ℕ) → IsStrictlyIncreasing xs → (i < length xs) × (get_or xs i 0 ≡ x) → ys ≡ remove xs i → (p : ℕ) → Contains ys p ↔ ((p ≢ x) × Contains xs p)
removed xs ys i x up at is p = subst (λ zs. Contains zs p ↔ ((p ≢ x) × Contains xs p)) (sym is) (left, right)
  where
    here : x ≡ get_or xs i x
    here = sym (get_or_default xs i x 0 at.0 ∙ at.1)

    left : Contains (remove xs i) p → (p ≢ x) × Contains xs p
    left has = (λ e. gone xs i x up at.0 at.1 (subst (Contains (remove xs i)) e has), contains_remove xs i x p at.0 here has)

    right : (p ≢ x) × Contains xs p → Contains (remove xs i) p
    right h = contains_one_less xs i x p at.0 here h.0 h.1

pub as_before : (xs : List ℕ) (i x : ℕ) → IsGap xs i x → (p : ℕ) → Contains xs p ↔ ((p ≢ x) × Contains xs p)
as_before xs i x gap p = (λ has. (λ e. absent xs i x gap (subst (Contains xs) e has), has), λ h. h.1)

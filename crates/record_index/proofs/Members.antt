-- What is in a list after an edit.
use Rattle.std.proofs.Common.{◌≡◌, ◌≢◌, ◌↔◌, ◌<◌, ◌⊎◌, inl, inr, ℕ, zero, suc, List, [], ◌∷◌, arith, sym, length, get_or, Contains}
use Rattle.std.specs.List.{insert, remove}
use Rattle.std.proofs.lemmas.List.Sorted.{Contains-permutation, IsPermutation-sym, IsPermutation-insert, IsPermutation-remove}

pub nothing_in : {X : Type 0} (x : X) → Contains [] x → ⊥
nothing_in x has = omega (arith, has.1)

pub contains_first : {X : Type 0} (x p : X) (xs : List X) → Contains (x ∷ xs) p → (p ≡ x) ⊎ Contains xs p
contains_first x p xs (zero, l, e) = inl (sym e)
contains_first x p xs (suc k, l, e) = inr (k, omega arith, e)

pub contains_more : {X : Type 0} (x p : X) (xs : List X) → (p ≡ x) ⊎ Contains xs p → Contains (x ∷ xs) p
contains_more x p xs (inl e) = (zero, omega arith, sym e)
contains_more x p xs (inr h) = (suc h.0, omega (arith, h.1), h.2)

pub contains_insert : {X : Type 0} (xs : List X) (i : ℕ) (x p : X) → Contains (insert xs i x) p ↔ ((p ≡ x) ⊎ Contains xs p)
contains_insert xs i x p = (
  λ h. contains_first x p xs (Contains-permutation (insert xs i x) (x ∷ xs) p (IsPermutation-sym (x ∷ xs) (insert xs i x) (IsPermutation-insert xs i x)) h),
  λ h. Contains-permutation (x ∷ xs) (insert xs i x) p (IsPermutation-insert xs i x) (contains_more x p xs h),
)

-- x is what is taken out
pub contains_remove : {X : Type 0} (xs : List X) (i : ℕ) (x p : X) → i < length xs → x ≡ get_or xs i x → Contains (remove xs i) p → Contains xs p
contains_remove xs i x p l at h = Contains-permutation (x ∷ remove xs i) xs p (IsPermutation-sym xs (x ∷ remove xs i) (IsPermutation-remove xs i x l at)) (contains_more x p (remove xs i) (inr h))

pub contains_one_less : {X : Type 0} (xs : List X) (i : ℕ) (x p : X) → i < length xs → x ≡ get_or xs i x → p ≢ x → Contains xs p → Contains (remove xs i) p
contains_one_less xs i x p l at differ h = elim (contains_first x p (remove xs i) (Contains-permutation xs (x ∷ remove xs i) p (IsPermutation-remove xs i x l at) h)) [
  | inl e ↦ absurd (differ e)
  | inr has ↦ has
]

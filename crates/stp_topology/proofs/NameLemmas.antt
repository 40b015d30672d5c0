-- Each name leads to its place.
use Rattle.std.proofs.Common.{◌≡◌, ℕ, zero, suc, ◌+◌, List, [], ◌∷◌, ◌++◌, Bool, true, false, cond, Option, Some, None, length, slice_get, ◌⊎◌, inl, inr, ◌∙◌, refl, ap, arith, subst, bytes_eq}
use Rattle.std.specs.List.{position_from}
use Rattle.std.proofs.lemmas.Slice.Eq.{bytes_eq-Decides}
use Rattle.stp_topology.specs.Names.{place_of}

-- where an element stands that a longer list has
pub at_push : {X : Type 0} (xs : List X) (y z : X) (k : ℕ) → slice_get (xs ++ y ∷ []) k ≡ Some z → (slice_get xs k ≡ Some z) ⊎ ((k ≡ length xs) × (y ≡ z))
at_push [] y z zero h = inr (refl, cc)
at_push [] y z (suc k) h = cc
at_push (x ∷ xs) y z zero h = inl h
at_push (x ∷ xs) y z (suc k) h = elim (at_push xs y z k h) [ inl e ↦ inl e | inr e ↦ inr (ap suc e.0, e.1) ]

found_before : {X : Type 0} (p : X → Bool) (xs ys : List X) (n i : ℕ) → position_from p n xs ≡ Some i → position_from p n (xs ++ ys) ≡ Some i
found_before p [] ys n i h = cc
found_before p (x ∷ xs) ys n i h = by_test (p x) h (found_before p xs ys (n + 1) i)
  where
    by_test : (b : Bool) → cond b (Some n) (position_from p (n + 1) xs) ≡ Some i → (position_from p (n + 1) xs ≡ Some i → position_from p (n + 1) (xs ++ ys) ≡ Some i) → cond b (Some n) (position_from p (n + 1) (xs ++ ys)) ≡ Some i
    by_test true e f = e
    by_test false e f = f e

found_last : {X : Type 0} (p : X → Bool) (xs : List X) (y : X) (n : ℕ) → position_from p n xs ≡ None → p y ≡ true → position_from p n (xs ++ y ∷ []) ≡ Some (n + length xs)
found_last p [] y n h q = let none : n ≡ n + 0 = omega arith in ap (λ b. cond {A = Option ℕ} b (Some n) None) q ∙ ap (λ k. Some k) none
found_last p (x ∷ xs) y n h q = by_test (p x) h (λ e. found_last p xs y (n + 1) e q)
  where
    by_test : (b : Bool) → cond {A = Option ℕ} b (Some n) (position_from p (n + 1) xs) ≡ None → (position_from p (n + 1) xs ≡ None → position_from p (n + 1) (xs ++ y ∷ []) ≡ Some (n + 1 + length xs))
        → cond b (Some n) (position_from p (n + 1) (xs ++ y ∷ [])) ≡ Some (n + suc (length xs))
    by_test true e f = cc
    by_test false e f = let more : n + 1 + length xs ≡ n + suc (length xs) = omega arith in f e ∙ ap (λ k. Some k) more

-- one name more
pub names_after : (names : List (List ℕ)) (name : List ℕ) → place_of names name ≡ None → ((k : ℕ) (n : List ℕ) → slice_get names k ≡ Some n → place_of names n ≡ Some k)
    → (k : ℕ) (n : List ℕ) → slice_get (names ++ name ∷ []) k ≡ Some n → place_of (names ++ name ∷ []) n ≡ Some k
names_after names name new old k n h = elim (at_push names name n k h) [
  | inl e ↦ found_before (bytes_eq n) names (name ∷ []) 0 k (old k n e)
  | inr e ↦
      let at : 0 + length names ≡ k = omega (arith, e.0) in
      subst (λ x. place_of (names ++ name ∷ []) x ≡ Some k) e.1 (found_last (bytes_eq name) names name 0 new ((bytes_eq-Decides name name).1 refl) ∙ ap (λ x. Some x) at)
]

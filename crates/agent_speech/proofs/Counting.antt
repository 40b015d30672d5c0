-- Counting over lists, and over lists of lists.
use Rattle.std.proofs.Common.{ℕ, zero, suc, ◌+◌, ◌≤◌, ◌≡◌, Bool, true, false, List, [], ◌∷◌, Some, ◌⊎◌, inl, inr, refl, sym, ap, ◌∙◌, arith, slice_get, slice_set, map}
use Rattle.std.specs.List.{Contains}
use Rattle.std.proofs.lemmas.List.Elements.{Contains-append_cases, Contains-push_cases}
use Rattle.std.proofs.lemmas.Option.{none-some}
use Rattle.connection_record.specs.Speaking.{one, tally}

pub tally_none : {X : Type 0} (p : X → Bool) → tally p [] ≡ 0
unfolding tally
tally_none p = refl

pub tally_cons : {X : Type 0} (p : X → Bool) (x : X) (xs : List X) → tally p (x ∷ xs) ≡ one (p x) + tally p xs
unfolding tally
tally_cons p x xs = refl

pub tally_set : {X : Type 0} (p : X → Bool) (xs : List X) (n : ℕ) (x y : X) → slice_get xs n ≡ Some x → tally p (slice_set xs n y) + one (p x) ≡ tally p xs + one (p y)
unfolding tally
tally_set p [] n x y h = absurd (none-some x h)
tally_set p (z ∷ zs) zero x y h = let e : z ≡ x = cc in omega (arith, ap (λ w. one (p w)) e)
tally_set p (z ∷ zs) (suc n) x y h = omega (arith, tally_set p zs n x y h)

-- an element counts no more than all
pub tally_has : {X : Type 0} (p : X → Bool) (xs : List X) (n : ℕ) (x : X) → slice_get xs n ≡ Some x → one (p x) ≤ tally p xs
unfolding tally
tally_has p [] n x h = absurd (none-some x h)
tally_has p (z ∷ zs) zero x h = let e : z ≡ x = cc in omega (arith, ap (λ w. one (p w)) e)
tally_has p (z ∷ zs) (suc n) x h = omega (arith, tally_has p zs n x h)

-- where each counts no more than before
pub tally_map_less : {X : Type 0} (p : X → Bool) (f : X → X) → ((x : X) → one (p (f x)) ≤ one (p x)) → (xs : List X) → tally p (map f xs) ≤ tally p xs
unfolding tally
tally_map_less p f h [] = omega arith
tally_map_less p f h (x ∷ xs) = omega (arith, h x, tally_map_less p f h xs)

-- where each counts as much as before, but for what counts for another test
pub tally_map_but : {X : Type 0} (p q : X → Bool) (f : X → X) → ((x : X) → one (p x) ≤ one (p (f x)) + one (q x)) → (xs : List X) → tally p xs ≤ tally p (map f xs) + tally q xs
unfolding tally
tally_map_but p q f h [] = omega arith
tally_map_but p q f h (x ∷ xs) = omega (arith, h x, tally_map_but p q f h xs)

---- What is contained

none_contained : {X : Type 0} → (x : X) → Contains [] x → ⊥
none_contained x c = let lt = c.1 in omega (arith, lt)

-- what a list contains is its first or among the others
pub first_or_later : {X : Type 0} → (x : X) (xs : List X) (y : X) → Contains (x ∷ xs) y → (x ≡ y) ⊎ Contains xs y
first_or_later x xs y c = elim (Contains-append_cases (x ∷ []) xs y c) [
  | inl a ↦ elim (Contains-push_cases [] x y a) [ inl z ↦ absurd (none_contained y z) | inr e ↦ inl e ]
  | inr b ↦ inr b
]

-- what passes counts
pub tally_in : {X : Type 0} (p : X → Bool) (x : X) (xs : List X) → Contains xs x → p x ≡ true → 1 ≤ tally p xs
unfolding tally
tally_in p x [] c h = absurd (none_contained x c)
tally_in p x (y ∷ ys) c h = by (first_or_later y ys x c) (λ d. tally_in p x ys d h)
  where
    by : (y ≡ x) ⊎ Contains ys x → (Contains ys x → 1 ≤ tally p ys) → 1 ≤ one (p y) + tally p ys
    by (inl e) more = let k : p y ≡ true = ap p e ∙ h in omega (arith, ap one k)
    by (inr d) more = omega (arith, more d)

-- where none passes, this doesn't
pub tally_zero : {X : Type 0} (p : X → Bool) (x : X) (xs : List X) → Contains xs x → tally p xs ≡ 0 → p x ≡ false
tally_zero p x xs c h = by (p x) refl
  where
    by : (b : Bool) → p x ≡ b → b ≡ false
    by false e = refl
    by true e = absurd (let k : 1 ≤ tally p xs = tally_in p x xs c e in omega (arith, k, h))

-- where one passes at most, two that pass are one
pub tally_one : {X : Type 0} (p : X → Bool) (x y : X) (xs : List X) → Contains xs x → Contains xs y → p x ≡ true → p y ≡ true → tally p xs ≤ 1 → x ≡ y
unfolding tally
tally_one p x y [] c d a b h = absurd (none_contained x c)
tally_one p x y (z ∷ zs) c d a b h = by (first_or_later z zs x c) (first_or_later z zs y d) (λ e f. tally_one p x y zs e f a b (omega (arith, h)))
  where
    by : (z ≡ x) ⊎ Contains zs x → (z ≡ y) ⊎ Contains zs y → (Contains zs x → Contains zs y → x ≡ y) → x ≡ y
    by (inl e) (inl f) more = sym e ∙ f
    by (inl e) (inr f) more = absurd (let k : p z ≡ true = ap p e ∙ a in omega (arith, ap one k, tally_in p y zs f b, h))
    by (inr e) (inl f) more = absurd (let k : p z ≡ true = ap p f ∙ b in omega (arith, ap one k, tally_in p x zs e a, h))
    by (inr e) (inr f) more = more e f

-- what counts for one test counts for another
pub tally_less : {X : Type 0} (p q : X → Bool) → ((x : X) → one (p x) ≤ one (q x)) → (xs : List X) → tally p xs ≤ tally q xs
unfolding tally
tally_less p q h [] = omega arith
tally_less p q h (x ∷ xs) = omega (arith, h x, tally_less p q h xs)

-- The records at their places, where one is put or one is added, and sums over them.
use Rattle.std.proofs.Common.{◌≡◌, ◌≢◌, ◌≤◌, ◌<◌, ◌+◌, ◌-◌, ◌⊎◌, inl, inr, ◌∙◌, ℕ, zero, suc, List, [], ◌∷◌, ◌++◌, Some, arith, refl, sym, ap, add-one, length, length-append, map, take, drop, get_or, slice_get, slice_set, sum_by}
use Rattle.std.proofs.lemmas.List.Sums.{sum_by-cons, sum_by-append, sum_by-set, sum_by-take-drop, sum_by-drop_more}
use Rattle.std.proofs.lemmas.Bool.{cases_eq}
use Rattle.std.proofs.lemmas.Option.{same_Some, slice_get_within, get_or_from_slice_get, none-some}
use Rattle.nsi_primitive.specs.declared.message.Criteria.{Criteria}
use Rattle.connection_record.specs.Demand.{last}

-- what is put at a place stands there
pub set_here : {X : Type 0} (xs : List X) (n : ℕ) (x : X) → n < length xs → slice_get (slice_set xs n x) n ≡ Some x
set_here [] n x h = absurd (omega arith)
set_here (y ∷ ys) zero x h = refl
set_here (y ∷ ys) (suc n) x h = set_here ys n x (omega arith)

-- and all else where it stood
pub set_elsewhere : {X : Type 0} (xs : List X) (n k : ℕ) (x : X) → k ≢ n → slice_get (slice_set xs n x) k ≡ slice_get xs k
set_elsewhere [] n k x h = refl
set_elsewhere (y ∷ ys) zero zero x h = absurd (h refl)
set_elsewhere (y ∷ ys) zero (suc k) x h = refl
set_elsewhere (y ∷ ys) (suc n) zero x h = refl
set_elsewhere (y ∷ ys) (suc n) (suc k) x h = set_elsewhere ys n k x (λ e. h (ap suc e))

-- what is found is what was put, or what stood there
pub set_cases : {X : Type 0} (xs : List X) (n k : ℕ) (x y z : X) → slice_get xs n ≡ Some z → slice_get (slice_set xs n x) k ≡ Some y → ((k ≡ n) × (x ≡ y)) ⊎ (slice_get xs k ≡ Some y)
set_cases xs n k x y z h g = elim (cases_eq k n) [
  | inl e ↦ inl (e, same_Some x y (sym (set_here xs n x (slice_get_within xs n z h)) ∙ (ap (slice_get (slice_set xs n x)) (sym e) ∙ g)))
  | inr d ↦ inr (sym (set_elsewhere xs n k x d) ∙ g)
]

-- what is added stands behind the others
pub push_here : {X : Type 0} (xs : List X) (x : X) → slice_get (xs ++ x ∷ []) (length xs) ≡ Some x
push_here [] x = refl
push_here (y ∷ ys) x = push_here ys x

pub push_elsewhere : {X : Type 0} (xs : List X) (k : ℕ) (x y : X) → slice_get xs k ≡ Some y → slice_get (xs ++ x ∷ []) k ≡ Some y
push_elsewhere [] k x y h = absurd (none-some y h)
push_elsewhere (z ∷ zs) zero x y h = h
push_elsewhere (z ∷ zs) (suc k) x y h = push_elsewhere zs k x y h

-- what is found is what was added, or what stood there
pub push_cases : {X : Type 0} (xs : List X) (k : ℕ) (x y : X) → slice_get (xs ++ x ∷ []) k ≡ Some y → ((k ≡ length xs) × (x ≡ y)) ⊎ (slice_get xs k ≡ Some y)
push_cases [] zero x y h = inl (refl, (cc))
push_cases [] (suc k) x y h = absurd (none-some y h)
push_cases (z ∷ zs) zero x y h = inr h
push_cases (z ∷ zs) (suc k) x y h = elim (push_cases zs k x y h) [ inl e ↦ inl (ap suc e.0, e.1) | inr r ↦ inr r ]

-- A sum is that of the others and the one at a place,
pub sum_beside : {X : Type 0} (f : X → ℕ) (xs : List X) (n : ℕ) (x : X) → slice_get xs n ≡ Some x → sum_by f xs ≡ sum_by f (take n xs ++ drop (suc n) xs) + f x
sum_beside f xs n x h =
    let lt = slice_get_within xs n x h in
    let at : f (get_or xs n x) ≡ f x = ap f (get_or_from_slice_get xs n x x h) in
    let next : sum_by f (drop (n + 1) xs) ≡ sum_by f (drop (suc n) xs) = ap (λ k. sum_by f (drop k xs)) (add-one n) in
    omega (arith, sum_by-take-drop f xs n, sum_by-drop_more f xs n x lt, sum_by-append f (take n xs) (drop (suc n) xs), at, next)

-- and with another there, that of the others and the other one.
pub sum_with : {X : Type 0} (f : X → ℕ) (xs : List X) (n : ℕ) (x y : X) → slice_get xs n ≡ Some x → sum_by f (slice_set xs n y) ≡ sum_by f (take n xs ++ drop (suc n) xs) + f y
sum_with f xs n x y h =
    let lt = slice_get_within xs n x h in
    let at : f (get_or xs n x) ≡ f x = ap f (get_or_from_slice_get xs n x x h) in
    omega (arith, sum_by-set f xs n y x lt, sum_beside f xs n x h, at)

-- A sum of less is less.
pub sum_map_le : {X : Type 0} (f : X → ℕ) (g : X → X) (xs : List X) → ((x : X) → f (g x) ≤ f x) → sum_by f (map g xs) ≤ sum_by f xs
sum_map_le f g [] h = omega arith
sum_map_le f g (x ∷ xs) h = omega (arith, sum_by-cons f x xs, sum_by-cons f (g x) (map g xs), h x, sum_map_le f g xs h)

-- the criteria that were added stand last
pub last_pushed : (cs : List Criteria) (c : Criteria) → last (cs ++ c ∷ []) ≡ Some c
last_pushed cs c =
    let at : length (cs ++ c ∷ []) - 1 ≡ length cs = omega (arith, length-append cs (c ∷ [])) in
    ap (λ k. slice_get (cs ++ c ∷ []) k) at ∙ push_here cs c

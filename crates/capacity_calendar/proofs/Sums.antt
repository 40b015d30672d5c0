-- Sums over numbers.
use Rattle.std.proofs.Common.{◌≡◌, ◌≢◌, ◌≤◌, ◌<◌, ◌+◌, ℕ, zero, suc, ◌⊎◌, inl, inr, true, false, cond, eqb, List, [], ◌∷◌, length, sum_by, arith, refl, sym, ap, ◌∙◌}
use Rattle.std.proofs.lemmas.Bool.{cases_Bool}
use Rattle.std.proofs.lemmas.Bool.Decides.{nat_tests}
use Rattle.std.proofs.lemmas.List.Sums.{sum_by-cons}
use Rattle.std.specs.List.{slice_get}
use Rattle.std.specs.Option.{option_map_or}
use Rattle.capacity_calendar.specs.Sums.{sum_upto, sum_but}

pub sum_upto-zero : (f : ℕ → ℕ) → sum_upto 0 f ≡ 0
unfolding sum_upto
sum_upto-zero f = refl

pub sum_upto-suc : (n : ℕ) (f : ℕ → ℕ) → sum_upto (suc n) f ≡ sum_upto n f + f n
unfolding sum_upto
sum_upto-suc n f = refl

pub sum_upto-same : (n : ℕ) (f g : ℕ → ℕ) → ((k : ℕ) → k < n → f k ≡ g k) → sum_upto n f ≡ sum_upto n g
unfolding sum_upto
sum_upto-same zero f g h = refl
sum_upto-same (suc n) f g h = omega (arith, sum_upto-same n f g (λ k lt. h k (omega arith)), h n (omega arith))

pub sum_upto-le : (n : ℕ) (f g : ℕ → ℕ) → ((k : ℕ) → k < n → f k ≤ g k) → sum_upto n f ≤ sum_upto n g
unfolding sum_upto
sum_upto-le zero f g h = omega arith
sum_upto-le (suc n) f g h = omega (arith, sum_upto-le n f g (λ k lt. h k (omega arith)), h n (omega arith))

pub sum_upto-nothing : (n : ℕ) (f : ℕ → ℕ) → ((k : ℕ) → k < n → f k ≡ 0) → sum_upto n f ≡ 0
unfolding sum_upto
sum_upto-nothing zero f h = refl
sum_upto-nothing (suc n) f h = omega (arith, sum_upto-nothing n f (λ k lt. h k (omega arith)), h n (omega arith))

-- further numbers that count nothing change nothing
pub sum_upto-further : (n more : ℕ) (f : ℕ → ℕ) → ((k : ℕ) → n ≤ k → f k ≡ 0) → sum_upto (n + more) f ≡ sum_upto n f
sum_upto-further n zero f h = ap (λ m. sum_upto m f) (omega arith)
sum_upto-further n (suc more) f h =
    let moved : n + suc more ≡ suc (n + more) = omega arith in
    ap (λ m. sum_upto m f) moved ∙ omega (arith, sum_upto-suc (n + more) f, sum_upto-further n more f h, h (n + more) (omega arith))

-- the first number by itself
pub sum_upto-front : (n : ℕ) (f : ℕ → ℕ) → sum_upto (suc n) f ≡ f 0 + sum_upto n (λ k. f (suc k))
unfolding sum_upto
sum_upto-front zero f = omega arith
sum_upto-front (suc n) f = omega (arith, sum_upto-front n f)

-- whether a number is m decides what it counts
but_at : (f : ℕ → ℕ) (m : ℕ) → cond (eqb m m) 0 (f m) ≡ 0
but_at f m = let e : eqb m m ≡ true = grind (arith, nat_tests) in ap (λ c. cond c 0 (f m)) e

but_other : (f : ℕ → ℕ) (m k : ℕ) → k ≢ m → cond (eqb k m) 0 (f k) ≡ f k
but_other f m k d = let e : eqb k m ≡ false = grind (arith, nat_tests) in ap (λ c. cond c 0 (f k)) e

-- a number that isn't below n isn't in the sum
pub sum_but-past : (m n : ℕ) (f : ℕ → ℕ) → n ≤ m → sum_but m n f ≡ sum_upto n f
sum_but-past m n f h = sum_upto-same n _ f (λ k lt. but_other f m k (λ e. absurd (omega (arith, e, h, lt))))

here_or_below : (m n : ℕ) → m < suc n → (m ≡ n) ⊎ (m < n)
here_or_below m n h = grind arith

-- a number below n by itself
pub sum_upto-one_out : (m n : ℕ) (f : ℕ → ℕ) → m < n → sum_upto n f ≡ f m + sum_but m n f
unfolding sum_upto
sum_upto-one_out m zero f h = absurd (omega arith)
sum_upto-one_out m (suc n) f h = elim (here_or_below m n h) [
  | inl e ↦ omega (arith, sum_but-past m n f (omega (arith, e)), ap f e, ap (λ k. cond (eqb k m) 0 (f k)) e, but_at f m)
  | inr l ↦ omega (arith, sum_upto-one_out m n f l, but_other f m n (λ e. absurd (omega (arith, e, l))))
]

pub sum_but-same : (m n : ℕ) (f g : ℕ → ℕ) → ((k : ℕ) → k < n → k ≢ m → f k ≡ g k) → sum_but m n f ≡ sum_but m n g
sum_but-same m n f g h = sum_upto-same n _ _ (λ k lt. elim (cases_Bool (eqb k m)) [
  | inl e ↦ ap (λ c. cond c 0 (f k)) e ∙ sym (ap (λ c. cond c 0 (g k)) e)
  | inr e ↦ ap (cond (eqb k m) 0) (h k lt (apart k m e))
])
  where
    apart : (k m : ℕ) → eqb k m ≡ false → k ≢ m
    apart k m e = grind (arith, nat_tests)

-- a sum over a list is one over its places
pub sum_by-places : {X : Type 0} (f : X → ℕ) (xs : List X) → sum_by f xs ≡ sum_upto (length xs) (λ k. option_map_or f (slice_get xs k) 0)
unfolding sum_upto
sum_by-places f [] = refl
sum_by-places f (x ∷ xs) = sum_by-cons f x xs ∙ ap (λ n. f x + n) (sum_by-places f xs) ∙ sym (sum_upto-front (length xs) (λ k. option_map_or f (slice_get (x ∷ xs) k) 0))

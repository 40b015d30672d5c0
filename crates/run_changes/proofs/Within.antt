-- What stands in a list once each costs no more than the whole list.
use Rattle.std.proofs.Common.{◌≡◌, ◌≤◌, ◌⊎◌, inl, inr, ℕ, List, [], ◌∷◌, ◌++◌, ap, subst, arith, get_or}
use Rattle.std.specs.List.{All, Contains, sum_by}
use Rattle.std.proofs.lemmas.List.Elements.{All-nil, All-cons, All-head, All-tail, Contains-append_left, Contains-append_right, Contains-append_cases}
use Rattle.std.proofs.lemmas.List.Sums.{sum_by-cons, sum_by-append}
use Rattle.run_changes.specs.Told.{AreApart}

-- one element, and what stands before and behind it
pub record Splits {X : Type 0} (xs : List X) (x : X) : Type 0 where
  pub front : List X
  pub rest : List X
  pub whole : xs ≡ front ++ x ∷ rest

alone : {X : Type 0} (x y : X) → Contains (x ∷ []) y → x ≡ y
alone x y (k, l, e) = let z : k ≡ 0 = omega (arith, l) in subst (λ n. get_or (x ∷ []) n y ≡ y) z e

pub splits : {X : Type 0} (xs : List X) (x : X) → Contains xs x → Splits xs x
splits [] x (k, l, e) = absurd (omega (arith, l))
splits (y ∷ ys) x c = by (Contains-append_cases (y ∷ []) ys x c) (splits ys x)
  where
    by : Contains (y ∷ []) x ⊎ Contains ys x → (Contains ys x → Splits ys x) → Splits (y ∷ ys) x
    by (inl h) rest = record { front = []; rest = ys; whole = ap (λ z. z ∷ ys) (alone y x h) }
    by (inr t) rest = let s = rest t in record { front = y ∷ s.front; rest = s.rest; whole = ap (λ zs. y ∷ zs) s.whole }

-- what is there and isn't the one element is among the others
others : {X : Type 0} (front rest : List X) (x y : X) → (x ≡ y → ⊥) → Contains (front ++ x ∷ rest) y → Contains (front ++ rest) y
others front rest x y n c = by (Contains-append_cases front (x ∷ rest) y c)
  where
    behind : Contains (x ∷ []) y ⊎ Contains rest y → Contains (front ++ rest) y
    behind (inl h) = absurd (n (alone x y h))
    behind (inr t) = Contains-append_right front rest y t

    by : Contains front y ⊎ Contains (x ∷ rest) y → Contains (front ++ rest) y
    by (inl f) = Contains-append_left front rest y f
    by (inr t) = behind (Contains-append_cases (x ∷ []) rest y t)

all_others : {X : Type 0} (front rest : List X) (x : X) (ys : List X) → All (λ y. x ≡ y → ⊥) ys → All (Contains (front ++ x ∷ rest)) ys → All (Contains (front ++ rest)) ys
all_others front rest x [] n c = All-nil (Contains (front ++ rest))
all_others front rest x (y ∷ ys) n c =
    All-cons (Contains (front ++ rest)) y ys (others front rest x y (All-head (λ z. x ≡ z → ⊥) y ys n) (All-head (Contains (front ++ x ∷ rest)) y ys c))
    (all_others front rest x ys (All-tail (λ z. x ≡ z → ⊥) y ys n) (All-tail (Contains (front ++ x ∷ rest)) y ys c))

pub costs_within : {X : Type 0} (f : X → ℕ) (xs ys : List X) → AreApart xs → All (Contains ys) xs → sum_by f xs ≤ sum_by f ys
costs_within f [] ys n c = omega arith
costs_within f (x ∷ xs) ys n c =
    let s : Splits ys x = splits ys x (All-head (Contains ys) x xs c) in
    let there : All (Contains (s.front ++ x ∷ s.rest)) xs = subst (λ zs. All (Contains zs) xs) s.whole (All-tail (Contains ys) x xs c) in
    let low : sum_by f xs ≤ sum_by f (s.front ++ s.rest) = costs_within f xs (s.front ++ s.rest) n.1 (all_others s.front s.rest x xs n.0 there) in
    omega (
      arith,
      low,
      sum_by-cons f x xs,
      sum_by-append f s.front s.rest,
      sum_by-append f s.front (x ∷ s.rest),
      sum_by-cons f x s.rest,
      ap (sum_by f) s.whole,
    )

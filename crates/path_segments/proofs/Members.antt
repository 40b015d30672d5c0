-- Which numbers stand in a list.
use Rattle.std.proofs.Common.{◌≡◌, ℕ, zero, suc, slice_get, ◌⊎◌, inl, inr, List, [], ◌∷◌, ◌++◌, Option, Some, None, sym}
use Rattle.path_segments.specs.Walks.{In}
use Rattle.path_segments.specs.Searches.{listed}

pub in_front : (y : ℕ) (xs ys : List ℕ) → In y xs → In y (xs ++ ys)
in_front y [] ys h = absurd h
in_front y (z ∷ zs) ys (inl h) = inl h
in_front y (z ∷ zs) ys (inr h) = inr (in_front y zs ys h)

pub in_behind : (y : ℕ) (xs ys : List ℕ) → In y ys → In y (xs ++ ys)
in_behind y [] ys h = h
in_behind y (z ∷ zs) ys h = inr (in_behind y zs ys h)

pub in_cases : (y : ℕ) (xs ys : List ℕ) → In y (xs ++ ys) → In y xs ⊎ In y ys
in_cases y [] ys h = inr h
in_cases y (z ∷ zs) ys (inl h) = inl (inl h)
in_cases y (z ∷ zs) ys (inr h) = elim (in_cases y zs ys h) [ inl g ↦ inl (inr g) | inr g ↦ inr g ]

pub in_one : (y x : ℕ) → In y (x ∷ []) → y ≡ x
in_one y x (inl h) = h
in_one y x (inr h) = absurd h

pub listed_in : (o : Option ℕ) (z : ℕ) → o ≡ Some z → In z (listed o)
listed_in (Some x) z h = inl (same x z h)
  where
    same : (a b : ℕ) → Some a ≡ Some b → b ≡ a
    same a b q = let e : a ≡ b = cc in sym e
listed_in None z h = absurd (cc)

pub in_listed : (o : Option ℕ) (z : ℕ) → In z (listed o) → o ≡ Some z
in_listed (Some x) z (inl h) = let e : z ≡ x = h in cc
in_listed (Some x) z (inr h) = absurd h
in_listed None z h = absurd h

pub in_item : (xs : List ℕ) (i x : ℕ) → slice_get xs i ≡ Some x → In x xs
in_item [] i x h = absurd (cc)
in_item (y ∷ ys) zero x h = inl (same y x h)
  where
    same : (a b : ℕ) → Some a ≡ Some b → b ≡ a
    same a b q = let e : a ≡ b = cc in sym e
in_item (y ∷ ys) (suc i) x h = inr (in_item ys i x h)

-- No order of paths goes down for ever.
use Rattle.std.proofs.Common.{◌≡◌, ◌<◌, ◌+◌, inl, inr, ◌∙◌, ℕ, zero, suc, List, [], ◌∷◌, length, refl, sym, ap, subst, arith}
use Rattle.path_segments.specs.declared.path.PlacedSegment.{PlacedSegment}
use Rattle.path_segments.specs.Paths.{Before, Less, fewer, by_points, by_places, points, places}

-- what holds of a number where it holds of all lower ones holds of every number
below : (P : ℕ → Type 0) → ((n : ℕ) → ((m : ℕ) → m < n → P m) → P n) → (n m : ℕ) → m < n → P m
below P step zero m l = absurd (omega (arith, l))
below P step (suc n) m l = step m (λ k up. below P step n k (omega (arith, l, up)))

pub by_number : (P : ℕ → Type 0) → ((n : ℕ) → ((m : ℕ) → m < n → P m) → P n) → (n : ℕ) → P n
by_number P step n = below P step (suc n) n (omega arith)

-- the same of lists of one length
abbrev LongerAt : ℕ → (List ℕ → Type 0) → ℕ → Type 0
LongerAt k P n = (ts : List ℕ) → length ts ≡ k → P (n ∷ ts)

none_before : (xs : List ℕ) → length xs ≡ 0 → Before xs [] → ⊥
none_before [] f b = b
none_before (x ∷ xs) f b = b

before_by : (k n : ℕ) (P : List ℕ → Type 0) (ts : List ℕ) → ((m : ℕ) → m < n → LongerAt k P m) → ((us : List ℕ) → length us ≡ k → Before us ts → P (n ∷ us)) → (xs : List ℕ) → length xs ≡ suc k → Before xs (n ∷ ts) → P xs
before_by k n P ts lower earlier [] g b = absurd b
before_by k n P ts lower earlier (x ∷ xs) g (inl l) = lower x l xs (omega (arith, g))
before_by k n P ts lower earlier (x ∷ xs) g (inr q) = subst (λ h. P (h ∷ xs)) (sym q.0) (earlier xs (omega (arith, g)) q.1)

pub by_list : (k : ℕ) (P : List ℕ → Type 0) → ((ys : List ℕ) → length ys ≡ k → ((xs : List ℕ) → length xs ≡ k → Before xs ys → P xs) → P ys) → (ys : List ℕ) → length ys ≡ k → P ys
by_list zero P step [] e = step [] e (λ xs f b. absurd (none_before xs f b))
by_list zero P step (y ∷ ys) e = absurd (omega (arith, e))
by_list (suc k) P step [] e = absurd (omega (arith, e))
by_list (suc k) P step (y ∷ ys) e =
    by_number (LongerAt k P)
    (λ n lower. by_list k (λ ts. P (n ∷ ts)) (λ ts f earlier. step (n ∷ ts) (omega (arith, f)) (before_by k n P ts lower earlier)))
    y ys (omega (arith, e))

---- Paths

length_points : (xs : List PlacedSegment) → length (points xs) ≡ length xs + length xs
length_points [] = refl
length_points (x ∷ xs) = let more = length_points xs in omega (arith, more)

length_places : (xs : List PlacedSegment) → length (places xs) ≡ length xs
length_places [] = refl
length_places (x ∷ xs) = let more = length_places xs in omega (arith, more)

-- what holds of a path where it holds of all that come before it holds of every path
module _ (P : List PlacedSegment → Type 0) (step : (ys : List PlacedSegment) → ((xs : List PlacedSegment) → Less xs ys → P xs) → P ys) where
  abbrev Of : ℕ → Type 0
  Of n = (ys : List PlacedSegment) → length ys ≡ n → P ys

  abbrev Through : ℕ → List ℕ → Type 0
  Through n ps = (ys : List PlacedSegment) → length ys ≡ n → points ys ≡ ps → P ys

  abbrev Among : ℕ → List ℕ → List ℕ → Type 0
  Among n ps cs = (ys : List PlacedSegment) → length ys ≡ n → points ys ≡ ps → places ys ≡ cs → P ys

  at_last : (n : ℕ) → ((m : ℕ) → m < n → Of m) → (ps : List ℕ) → ((qs : List ℕ) → length qs ≡ n + n → Before qs ps → Through n qs) → (cs : List ℕ) → ((ds : List ℕ) → length ds ≡ n → Before ds cs → Among n ps ds) → Among n ps cs
  at_last n lower ps sooner cs earlier ys e f g = step ys before
    where
      before : (xs : List PlacedSegment) → Less xs ys → P xs
      before xs (fewer l) = lower (length xs) (omega (arith, l, e)) xs refl
      before xs (by_points l b) = sooner (points xs) (omega (arith, length_points xs, l, e)) (subst (Before (points xs)) f b) xs (omega (arith, l, e)) refl
      before xs (by_places l q b) = earlier (places xs) (omega (arith, length_places xs, l, e)) (subst (Before (places xs)) g b) xs (omega (arith, l, e)) (q ∙ f) refl

  at_points : (n : ℕ) → ((m : ℕ) → m < n → Of m) → (ps : List ℕ) → ((qs : List ℕ) → length qs ≡ n + n → Before qs ps → Through n qs) → Through n ps
  at_points n lower ps sooner ys e f =
      by_list n (Among n ps) (λ cs le earlier. at_last n lower ps sooner cs earlier) (places ys) (length_places ys ∙ e) ys e f refl

  at_length : (n : ℕ) → ((m : ℕ) → m < n → Of m) → Of n
  at_length n lower ys e =
      by_list (n + n) (Through n) (λ ps le sooner. at_points n lower ps sooner) (points ys) (length_points ys ∙ ap (λ k. k + k) e) ys e refl

  pub by_path : (ys : List PlacedSegment) → P ys
  by_path ys = by_number Of at_length (length ys) ys refl

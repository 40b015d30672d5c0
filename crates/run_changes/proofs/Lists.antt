-- Lists of which no two are the same, and what lists that are made of others contain.
use Rattle.std.proofs.Common.{ℕ, zero, suc, ◌≡◌, ◌⊎◌, inl, inr, Bool, true, false, cond, List, [], ◌∷◌, ◌++◌, ◌+◌, refl, sym, subst, arith, map, flat_map}
use Rattle.std.specs.List.{All, Contains, filter, range_with_len}
use Rattle.std.proofs.lemmas.List.Elements.{All-nil, All-head, All-tail, All-push, All-append, All-filter, Contains-append_left, Contains-append_right, Contains-push}
use Rattle.std.proofs.lemmas.List.FromFn.{length-range_with_len, get_or-range_with_len}
use Rattle.agent_speech.proofs.Counting.{first_or_later}
use Rattle.run_changes.specs.Told.{AreApart}

-- it is another one
abbrev pub Differs : {X : Type 0} → X → X → Type 0
Differs x y = x ≡ y → ⊥

pub apart_push : {X : Type 0} (xs : List X) (x : X) → AreApart xs → All (λ y. y ≡ x → ⊥) xs → AreApart (xs ++ x ∷ [])
apart_push [] x a n = (All-nil (Differs x), tt)
apart_push (y ∷ ys) x a n = (All-push (Differs y) ys x a.0 (All-head (λ z. z ≡ x → ⊥) y ys n), apart_push ys x a.1 (All-tail (λ z. z ≡ x → ⊥) y ys n))

pub apart_append : {X : Type 0} (xs ys : List X) → AreApart xs → AreApart ys → All (λ x. All (Differs x) ys) xs → AreApart (xs ++ ys)
apart_append [] ys p q r = q
apart_append (x ∷ xs) ys p q r =
    (All-append (Differs x) xs ys p.0 (All-head (λ z. All (Differs z) ys) x xs r), apart_append xs ys p.1 q (All-tail (λ z. All (Differs z) ys) x xs r))

pub apart_filter : {X : Type 0} (p : X → Bool) (xs : List X) → AreApart xs → AreApart (filter p xs)
apart_filter p [] a = tt
apart_filter p (x ∷ xs) a = by (p x) (apart_filter p xs a.1)
  where
    by : (b : Bool) → AreApart (filter p xs) → AreApart (cond b (x ∷ filter p xs) (filter p xs))
    by true rest = (All-filter p (Differs x) xs a.0, rest)
    by false rest = rest

-- numbers one after another
pub apart_range : (a n : ℕ) → AreApart (range_with_len a n)
apart_range a zero = tt
apart_range a (suc n) =
    (λ k d lt same. absurd (omega (arith, same, get_or-range_with_len (a + 1) n k d (omega (arith, lt, length-range_with_len (a + 1) n)))), apart_range (a + 1) n)

---- What is contained

pub contained_first : {X : Type 0} (x : X) (xs : List X) → Contains (x ∷ xs) x
contained_first x xs = Contains-append_left (x ∷ []) xs x (Contains-push [] x)

pub filter_contains : {X : Type 0} (p : X → Bool) (xs : List X) (x : X) → p x ≡ true → Contains xs x → Contains (filter p xs) x
filter_contains p [] x e c = c
filter_contains p (y ∷ ys) x e c = by (p y) refl (first_or_later y ys x c) (filter_contains p ys x e)
  where
    never : (b : Bool) → b ≡ false → b ≡ true → ⊥
    never b f g = absurd (cc)

    by : (b : Bool) → p y ≡ b → (y ≡ x) ⊎ Contains ys x → (Contains ys x → Contains (filter p ys) x) → Contains (cond b (y ∷ filter p ys) (filter p ys)) x
    by true f (inl same) rest = subst (Contains (y ∷ filter p ys)) same (contained_first y (filter p ys))
    by true f (inr later) rest = Contains-append_right (y ∷ []) (filter p ys) x (rest later)
    by false f (inl same) rest = absurd (never (p x) (subst (λ z. p z ≡ false) same f) e)
    by false f (inr later) rest = rest later

pub map_contains : {X Y : Type 0} (f : X → Y) (xs : List X) (x : X) → Contains xs x → Contains (map f xs) (f x)
map_contains f [] x c = absurd (let lt = c.1 in omega (arith, lt))
map_contains f (y ∷ ys) x c = by (first_or_later y ys x c) (map_contains f ys x)
  where
    by : (y ≡ x) ⊎ Contains ys x → (Contains ys x → Contains (map f ys) (f x)) → Contains (f y ∷ map f ys) (f x)
    by (inl same) rest = subst (λ z. Contains (f y ∷ map f ys) (f z)) same (contained_first (f y) (map f ys))
    by (inr later) rest = Contains-append_right (f y ∷ []) (map f ys) (f x) (rest later)

pub flat_contains : {X Y : Type 0} (f : X → List Y) (xs : List X) (x : X) (y : Y) → Contains xs x → Contains (f x) y → Contains (flat_map f xs) y
flat_contains f [] x y c d = absurd (let lt = c.1 in omega (arith, lt))
flat_contains f (z ∷ zs) x y c d = by (first_or_later z zs x c) (λ later. flat_contains f zs x y later d)
  where
    by : (z ≡ x) ⊎ Contains zs x → (Contains zs x → Contains (flat_map f zs) y) → Contains (f z ++ flat_map f zs) y
    by (inl same) rest = Contains-append_left (f z) (flat_map f zs) y (subst (λ u. Contains (f u) y) (sym same) d)
    by (inr later) rest = Contains-append_right (f z) (flat_map f zs) y (rest later)

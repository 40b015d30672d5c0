-- The places of an id are those between its first and its last possible one.
use Rattle.std.proofs.Common.{◌≡◌, ◌↔◌, ◌≤◌, ◌<◌, ◌^◌, ◌⊎◌, inl, inr, ◌∙◌, refl, ℕ, zero, suc, Bool, true, false, cond, List, [], ◌∷◌, ◌++◌, Ordering, Less, Equal, Greater, arith, sym, ap, subst, map, Contains, All}
use Rattle.std.specs.BTreeMap.Range.{range_contains}
use Rattle.std.specs.declared.ops.Bound.TheVariants.{Included}
use Rattle.std.specs.List.{filter}
use Rattle.std.specs.Cmp.{nat_cmp_is}
use Rattle.std.specs.Ordering.{nat_cmp, ordering_then, is_gt}
use Rattle.std.proofs.lemmas.List.Elements.{All-contains, Contains-append_left, Contains-append_right, Contains-append_cases}
use Rattle.std.proofs.lemmas.Map.Keys.{le_from_not_gt}
use Rattle.std.proofs.lemmas.Map.Views.{IsInRange-from_range_contains, range_contains-from_IsInRange}
use Rattle.id_index.specs.declared.IdPlace.{IdPlace}
use Rattle.id_index.proofs.Order.{place_cmp, total}

---- What is in a part of a list

contains_first : {X : Type 0} (x p : X) (xs : List X) → Contains (x ∷ xs) p → (p ≡ x) ⊎ Contains xs p
contains_first x p xs (zero, l, e) = inl (sym e)
contains_first x p xs (suc k, l, e) = inr (k, omega arith, e)

contains_more : {X : Type 0} (x p : X) (xs : List X) → (p ≡ x) ⊎ Contains xs p → Contains (x ∷ xs) p
contains_more x p xs (inl e) = (zero, omega arith, sym e)
contains_more x p xs (inr h) = (suc h.0, omega (arith, h.1), h.2)

module _ {X Y : Type 0} (test : X → Bool) (f : X → Y) where
  part : List X → List Y
  part xs = map f (filter test xs)

  of_part : (xs : List X) (y : Y) → Contains (map f (filter test xs)) y → (x : X) × Contains xs x × (test x ≡ true) × (f x ≡ y)
  of_part [] y has = absurd (omega (arith, has.1))
  of_part (x ∷ xs) y has = by (test x) refl has (of_part xs y)
    where
      more : (z : X) × Contains xs z × (test z ≡ true) × (f z ≡ y) → (z : X) × Contains (x ∷ xs) z × (test z ≡ true) × (f z ≡ y)
      more h = (h.0, contains_more x h.0 xs (inr h.1), h.2, h.3)

      by : (b : Bool) → test x ≡ b → Contains (map f (cond b (x ∷ filter test xs) (filter test xs))) y
          → (Contains (map f (filter test xs)) y → (z : X) × Contains xs z × (test z ≡ true) × (f z ≡ y))
          → (z : X) × Contains (x ∷ xs) z × (test z ≡ true) × (f z ≡ y)
      by true is h rest = elim (contains_first (f x) y (map f (filter test xs)) h) [
        | inl same ↦ (x, contains_more x x xs (inl refl), is, sym same)
        | inr later ↦ more (rest later)
      ]
      by false is h rest = more (rest h)

  in_part : (xs : List X) (x : X) → Contains xs x → test x ≡ true → Contains (map f (filter test xs)) (f x)
  in_part [] x has is = absurd (omega (arith, has.1))
  in_part (z ∷ xs) x has is = by (test z) refl (contains_first z x xs has) (λ later. in_part xs x later is)
    where
      by : (b : Bool) → test z ≡ b → (x ≡ z) ⊎ Contains xs x → (Contains xs x → Contains (map f (filter test xs)) (f x))
          → Contains (map f (cond b (z ∷ filter test xs) (filter test xs))) (f x)
      by true e (inl same) rest = contains_more (f z) (f x) (map f (filter test xs)) (inl (ap f same))
      by true e (inr later) rest = contains_more (f z) (f x) (map f (filter test xs)) (inr (rest later))
      by false e (inl same) rest = absurd (cc (sym is ∙ (ap test same ∙ e)))
      by false e (inr later) rest = rest later

---- The places of an id

abbrev last_place : ℕ
last_place = 18446744073709551615

first_decides : (o p : Ordering) → is_gt (ordering_then o p) ≡ false → is_gt o ≡ false
first_decides Less p h = refl
first_decides Equal p h = refl
first_decides Greater p h = h

same_id : (a b : IdPlace) → is_gt (place_cmp a b) ≡ false → a.id ≤ b.id
same_id a b h = le_from_not_gt a.id b.id (first_decides (nat_cmp a.id b.id) (nat_cmp a.place b.place) h)

not_above : (a b : ℕ) → a ≤ b → is_gt (nat_cmp a b) ≡ false
not_above a b le = grind (arith, le)

no_greater : (id a b : ℕ) → a ≤ b → is_gt (ordering_then (nat_cmp id id) (nat_cmp a b)) ≡ false
no_greater id a b le = ap (λ o. is_gt (ordering_then o (nat_cmp a b))) (sym (nat_cmp_is id id Equal refl)) ∙ not_above a b le

abbrev is_of : ℕ → IdPlace → Bool
is_of id e = range_contains place_cmp (Included (record { id = id; place = 0 })) (Included (record { id = id; place = last_place })) e

is_its_own : (id : ℕ) (e : IdPlace) → is_of id e ≡ true → e.id ≡ id
is_its_own id e h =
    let first : IdPlace = record { id = id; place = 0 } in
    let last : IdPlace = record { id = id; place = last_place } in
    let within = IsInRange-from_range_contains total (Included first) (Included last) e h in
    omega (arith, same_id first e within.0, same_id e last within.1)

is_there : (id p : ℕ) → p ≤ last_place → is_of id (record { id = id; place = p }) ≡ true
is_there id p le =
    let first : IdPlace = record { id = id; place = 0 } in
    let last : IdPlace = record { id = id; place = last_place } in
    let here : IdPlace = record { id = id; place = p } in
    range_contains-from_IsInRange total (Included first) (Included last) here (no_greater id 0 p (omega arith), no_greater id p last_place le)

-- what is noted is what was there, and the places of the id
pub noted : (id : ℕ) (es : List IdPlace) (old : List ℕ) → All (λ e. e.place < 2 ^ 64) es → (p : ℕ) →
    Contains (old ++ map (λ e. e.place) (filter (is_of id) es)) p ↔ (Contains old p ⊎ Contains es (record { id = id; place = p }))
noted id es old small p = (to, from)
  where
    at : IdPlace
    at = record { id = id; place = p }

    it : (h : (e : IdPlace) × Contains es e × (is_of id e ≡ true) × (e.place ≡ p)) → Contains es at
    it h = subst (Contains es) (ap (λ n. record { id = n; place = h.0.place }) (is_its_own id h.0 h.2) ∙ ap (λ n. record { id = id; place = n }) h.3) h.1

    to : Contains (old ++ map (λ e. e.place) (filter (is_of id) es)) p → Contains old p ⊎ Contains es at
    to has = elim (Contains-append_cases old (map (λ e. e.place) (filter (is_of id) es)) p has) [
      | inl before ↦ inl before
      | inr behind ↦ inr (it (of_part (is_of id) (λ (e : IdPlace). e.place) es p behind))
    ]

    from : Contains old p ⊎ Contains es at → Contains (old ++ map (λ e. e.place) (filter (is_of id) es)) p
    from (inl before) = Contains-append_left old (map (λ e. e.place) (filter (is_of id) es)) p before
    from (inr has) =
        Contains-append_right old (map (λ e. e.place) (filter (is_of id) es)) p
        (in_part (is_of id) (λ (e : IdPlace). e.place) es at has (is_there id p (omega (arith, All-contains (λ (e : IdPlace). e.place < 2 ^ 64) es at small has))))

pub noted_by : (id : ℕ) (first last : IdPlace) → first ≡ record { id = id; place = 0 } → last ≡ record { id = id; place = last_place } → (es part : List IdPlace) (old new : List ℕ)
    → part ≡ filter (λ e. range_contains place_cmp (Included first) (Included last) e) es → new ≡ old ++ map (λ (e : IdPlace). e.place) part → All (λ (e : IdPlace). e.place < 2 ^ 64) es
    → (p : ℕ) → Contains new p ↔ (Contains old p ⊎ Contains es (record { id = id; place = p }))
noted_by id first last low high es part old new between all small p = rw (all, between, low, high) (noted id es old small p)

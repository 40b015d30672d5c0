-- Labels in tables.
use Rattle.std.proofs.Common.{◌≡◌, ◌≢◌, ◌<◌, ℕ, ◌+◌, List, [], ◌∷◌, ◌++◌, Bool, true, false, ◌||◌, ◌&&◌, ◌==◌, cond, Option, Some, None, is_some, length, get_or, slice_set, arith, refl, sym, ap, ◌∙◌, bytes_eq}
use Rattle.std.specs.List.{position_from}
use Rattle.std.proofs.lemmas.List.{get_or-set_same, get_or-set_other}
use Rattle.stp_topology.specs.Names.{place_of}
use Rattle.nsi_script.specs.Labels.{is_noted}

some_push : {X : Type 0} (p : X → Bool) (n : ℕ) (xs : List X) (y : X) → is_some (position_from p n (xs ++ y ∷ [])) ≡ p y || is_some (position_from p n xs)
some_push p n [] y = by (p y)
  where
    by : (b : Bool) → is_some (cond {A = Option ℕ} b (Some n) None) ≡ b || false
    by true = refl
    by false = refl
some_push p n (x ∷ xs) y = by (p x) (p y) (some_push p (n + 1) xs y)
  where
    by : (b c : Bool) → is_some (position_from p (n + 1) (xs ++ y ∷ [])) ≡ c || is_some (position_from p (n + 1) xs)
        → is_some (cond b (Some n) (position_from p (n + 1) (xs ++ y ∷ []))) ≡ c || is_some (cond b (Some n) (position_from p (n + 1) xs))
    by true true h = refl
    by true false h = refl
    by false c h = h

-- one label more in the table of one requester
pub noted_more : (old room : List (List (List ℕ))) (agent : ℕ) (label : List ℕ) → agent < length room → ((a : ℕ) → get_or room a [] ≡ get_or old a [])
    → (a : ℕ) (l : List ℕ) → is_noted (slice_set room agent (get_or room agent [] ++ label ∷ [])) a l ≡ ((a == agent) && bytes_eq l label) || is_noted old a l
noted_more old room agent label within same a l = by (a == agent) refl
  where
    table : List (List ℕ)
    table = get_or room agent [] ++ label ∷ []

    by : (b : Bool) → (a == agent) ≡ b → is_noted (slice_set room agent table) a l ≡ (b && bytes_eq l label) || is_noted old a l
    by true e =
        let is : a ≡ agent = grind (arith, e) in
        let there : get_or (slice_set room agent table) a [] ≡ table = ap (λ k. get_or (slice_set room agent table) k []) is ∙ get_or-set_same room agent table [] within in
        let before : get_or room agent [] ≡ get_or old a [] = same agent ∙ ap (λ k. get_or old k []) (sym is) in
        ap (λ t. is_some (place_of t l)) there
        ∙ (some_push (bytes_eq l) 0 (get_or room agent []) label
        ∙ ap (λ t. bytes_eq l label || is_some (place_of t l)) before)
    by false e =
        let other : a ≢ agent = λ is. grind (arith, e, is) in
        ap (λ t. is_some (place_of t l)) (get_or-set_other room agent a table [] other ∙ same a)

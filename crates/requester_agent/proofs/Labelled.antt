-- Labels by their places.
use Rattle.std.proofs.Common.{◌≡◌, ℕ, ◌+◌, List, [], ◌∷◌, ◌++◌, Bool, true, false, ◌||◌, cond, Option, Some, None, ◌∙◌, refl, ap, sym, map, String, Global, string_bytes, string_eq, bytes_eq}
use Rattle.std.specs.List.{position, position_from, list_any}
use Rattle.std.proofs.lemmas.Iterator.Adapters.{position_from-zero}
use Rattle.indexmap.specs.IndexSet.{insert_key}
use Rattle.requester_agent.specs.Labels.{texts_of}

module _ {X Y : Type 0} (test : Y → Bool) (f : X → Y) where
  position_from_map : (i : ℕ) (xs : List X) → position_from test i (map f xs) ≡ position_from (λ x. test (f x)) i xs
  position_from_map i [] = refl
  position_from_map i (x ∷ xs) = ap (cond (test (f x)) (Some i)) (position_from_map (i + 1) xs)

  -- what is sought by a part of the elements is sought in the parts
  pub position_map : (xs : List X) → position test (map f xs) ≡ position (λ x. test (f x)) xs
  position_map xs = position_from-zero test (map f xs) ∙ (position_from_map 0 xs ∙ sym (position_from-zero (λ x. test (f x)) xs))

module _ {X : Type 0} (test : X → Bool) where
  absent_from : (i : ℕ) (xs : List X) → position_from test i xs ≡ None → list_any test xs ≡ false
  absent_from i [] h = refl
  absent_from i (x ∷ xs) h = by (test x) (list_any test xs) h (absent_from (i + 1) xs)
    where
      by : (b any : Bool) → cond {A = Option ℕ} b (Some i) (position_from test (i + 1) xs) ≡ None → (position_from test (i + 1) xs ≡ None → any ≡ false) → (b || any) ≡ false
      by true any h f = absurd (cc)
      by false any h f = f h

  pub absent : (xs : List X) → position test xs ≡ None → list_any test xs ≡ false
  absent xs h = absent_from 0 xs (sym (position_from-zero test xs) ∙ h)

map_push : {X Y : Type 0} (f : X → Y) (xs : List X) (x : X) → map f (xs ++ x ∷ []) ≡ map f xs ++ f x ∷ []
map_push f [] x = refl
map_push f (y ∷ xs) x = ap (λ ys. f y ∷ ys) (map_push f xs x)

-- a label that is new goes last
pub label_pushed : (key : String Global) (keys : List (String Global)) (label : List ℕ) → string_bytes key ≡ label → position (bytes_eq label) (texts_of keys) ≡ None → texts_of (insert_key string_eq keys key) ≡ texts_of keys ++ label ∷ []
label_pushed key keys label is none =
    let missing = absent (λ k. bytes_eq label (string_bytes k)) keys (sym (position_map (bytes_eq label) string_bytes keys) ∙ none) in
    ap (λ b. texts_of (cond b keys (keys ++ key ∷ []))) (ap (λ l. list_any (λ k. bytes_eq l (string_bytes k)) keys) is ∙ missing) ∙ map_push string_bytes keys key ∙ ap (λ l. texts_of keys ++ l ∷ []) is

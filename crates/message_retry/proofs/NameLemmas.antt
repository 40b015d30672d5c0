-- Names by their places.
use Rattle.std.proofs.Common.{◌≡◌, ℕ, suc, ◌+◌, List, [], ◌∷◌, ◌++◌, Bool, true, false, ◌||◌, not, cond, Option, Some, None, String, Global, get_or, sym, ◌∙◌, refl, ap, arith, bytes_eq, string_bytes, string_eq}
use Rattle.std.specs.List.{position, position_from, position_or_len, list_any}
use Rattle.std.proofs.lemmas.Iterator.Adapters.{position_from-zero}
use Rattle.std.proofs.lemmas.Slice.Eq.{bytes_eq-Decides}
use Rattle.indexmap.specs.IndexSet.{insert_key}
use Rattle.message_retry.specs.Names.{place_of, name_at, texts, Keeps}

found_from : (name : List ℕ) (i place : ℕ) (names : List (List ℕ)) → position_from (bytes_eq name) i names ≡ Some place → (j : ℕ) × (place ≡ i + j) × (get_or names j [] ≡ name)
found_from name i place [] h = absurd (cc)
found_from name i place (x ∷ xs) h = by_test (bytes_eq name x) refl h (found_from name (i + 1) place xs)
  where
    by_test : (b : Bool) → bytes_eq name x ≡ b → cond b (Some i) (position_from (bytes_eq name) (i + 1) xs) ≡ Some place
        → (position_from (bytes_eq name) (i + 1) xs ≡ Some place → (j : ℕ) × (place ≡ i + 1 + j) × (get_or xs j [] ≡ name))
        → (j : ℕ) × (place ≡ i + j) × (get_or (x ∷ xs) j [] ≡ name)
    by_test true e k rest = let same : i ≡ place = cc in (0, omega arith, sym ((bytes_eq-Decides name x).0 e))
    by_test false e k rest = let r = rest k in let at : place ≡ i + suc r.0 = r.1 ∙ omega arith in (suc r.0, at, r.2)

-- a name stands at its place
pub found : (names : List (List ℕ)) (name : List ℕ) (place : ℕ) → place_of names name ≡ Some place → name_at names place ≡ name
found names name place h =
    let f = found_from name 0 place names h in
    let at : place ≡ f.0 = f.1 ∙ omega arith in
    ap (name_at names) at ∙ f.2

texts_from : (name : List ℕ) (i : ℕ) (keys : List (String Global)) → position_from (λ k. bytes_eq name (string_bytes k)) i keys ≡ position_from (bytes_eq name) i (texts keys)
texts_from name i [] = refl
texts_from name i (k ∷ keys) = ap (cond (bytes_eq name (string_bytes k)) (Some i)) (texts_from name (i + 1) keys)

pub place_texts : (name : List ℕ) (keys : List (String Global)) → position (λ k. bytes_eq name (string_bytes k)) keys ≡ place_of (texts keys) name
place_texts name keys = position_from-zero (λ k. bytes_eq name (string_bytes k)) keys ∙ texts_from name 0 keys

module _ {X : Type 0} (test : X → Bool) where
  -- a thing that was found stays at its place
  kept_from : (x : X) (i place : ℕ) (xs : List X) → position_from test i xs ≡ Some place → position_from test i (xs ++ x ∷ []) ≡ Some place
  kept_from x i place [] h = absurd (cc)
  kept_from x i place (y ∷ ys) h = by_test (test y) (position_from test (i + 1) ys) (position_from test (i + 1) (ys ++ x ∷ [])) (kept_from x (i + 1) place ys) h
    where
      by_test : (b : Bool) (before after : Option ℕ) → (before ≡ Some place → after ≡ Some place) → cond b (Some i) before ≡ Some place → cond b (Some i) after ≡ Some place
      by_test true before after f k = k
      by_test false before after f k = f k

  -- a thing that is added where it is wanting stands where `insert_full` says
  noted_from : (x : X) → test x ≡ true → (i : ℕ) (xs : List X) → position_from test i (cond (list_any test xs) xs (xs ++ x ∷ [])) ≡ Some (i + position_or_len test xs)
  noted_from x is i [] = let at : i ≡ i + 0 = omega arith in ap (λ b. cond b (Some i) None) is ∙ ap Some at
  noted_from x is i (y ∷ ys) = by_test (test y) (list_any test ys) (position_or_len test ys) refl (noted_from x is (i + 1) ys)
    where
      by_test : (b any : Bool) (rest : ℕ) → test y ≡ b → position_from test (i + 1) (cond any ys (ys ++ x ∷ [])) ≡ Some (i + 1 + rest)
          → position_from test i (cond (b || any) (y ∷ ys) (y ∷ (ys ++ x ∷ []))) ≡ Some (i + cond (not b) (1 + rest) 0)
      by_test true any rest e h = let at : i ≡ i + 0 = omega arith in ap (λ b. cond b (Some i) (position_from test (i + 1) ys)) e ∙ ap Some at
      by_test false true rest e h = let at : i + 1 + rest ≡ i + (1 + rest) = omega arith in ap (λ b. cond b (Some i) (position_from test (i + 1) ys)) e ∙ (h ∙ ap Some at)
      by_test false false rest e h = let at : i + 1 + rest ≡ i + (1 + rest) = omega arith in ap (λ b. cond b (Some i) (position_from test (i + 1) (ys ++ x ∷ []))) e ∙ (h ∙ ap Some at)

pub note_keeps : (key : String Global) (keys : List (String Global)) → Keeps (texts keys) (texts (insert_key string_eq keys key))
note_keeps key keys name place h = by (list_any (string_eq key) keys)
  where
    by : (b : Bool) → position_from (bytes_eq name) 0 (texts (cond b keys (keys ++ key ∷ []))) ≡ Some place
    by true = h
    by false = sym (texts_from name 0 (keys ++ key ∷ [])) ∙ kept_from (λ k. bytes_eq name (string_bytes k)) key 0 place keys (texts_from name 0 keys ∙ h)

pub note_places : (name : List ℕ) (key : String Global) → string_bytes key ≡ name → (keys : List (String Global)) → place_of (texts (insert_key string_eq keys key)) name ≡ Some (position_or_len (string_eq key) keys)
note_places name key is keys =
    ap (place_of (texts (insert_key string_eq keys key))) (sym is)
    ∙ (sym (texts_from (string_bytes key) 0 (insert_key string_eq keys key))
    ∙ (noted_from (string_eq key) key ((bytes_eq-Decides (string_bytes key) (string_bytes key)).1 refl) 0 keys ∙ ap Some at))
  where
    at : 0 + position_or_len (string_eq key) keys ≡ position_or_len (string_eq key) keys
    at = omega arith

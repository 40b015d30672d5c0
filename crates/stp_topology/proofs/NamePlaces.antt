-- Names by their places.
use Rattle.std.proofs.Common.{◌≡◌, ℕ, ◌+◌, List, [], ◌∷◌, ◌++◌, Bool, true, false, ◌||◌, cond, Option, Some, None, ◌∙◌, refl, ap, Vec, Global, bytes_eq}
use Rattle.std.specs.List.{position, position_from, list_any}
use Rattle.std.proofs.lemmas.Iterator.Adapters.{position_from-zero}
use Rattle.indexmap.specs.IndexSet.{insert_key}
use Rattle.stp_topology.specs.Names.{place_of, texts}

texts_from : (q : List ℕ) (i : ℕ) (ks : List (Vec ℕ Global)) → position_from (λ k. bytes_eq q k.items) i ks ≡ position_from (bytes_eq q) i (texts ks)
texts_from q i [] = refl
texts_from q i (k ∷ ks) = ap (cond (bytes_eq q k.items) (Some i)) (texts_from q (i + 1) ks)

pub place_texts : (q : List ℕ) (ks : List (Vec ℕ Global)) → position (λ k. bytes_eq q k.items) ks ≡ place_of (texts ks) q
place_texts q ks = position_from-zero (λ k. bytes_eq q k.items) ks ∙ texts_from q 0 ks

absent_any : (q : List ℕ) (i : ℕ) (ks : List (Vec ℕ Global)) → position_from (bytes_eq q) i (texts ks) ≡ None → list_any (λ k. bytes_eq q k.items) ks ≡ false
absent_any q i [] h = refl
absent_any q i (k ∷ ks) h = by_test (bytes_eq q k.items) (texts ks) (list_any (λ k. bytes_eq q k.items) ks) h (absent_any q (i + 1) ks)
  where
    by_test : (b : Bool) (ts : List (List ℕ)) (any : Bool) → cond {A = Option ℕ} b (Some i) (position_from (bytes_eq q) (i + 1) ts) ≡ None → (position_from (bytes_eq q) (i + 1) ts ≡ None → any ≡ false) → (b || any) ≡ false
    by_test true ts any h f = absurd (cc)
    by_test false ts any h f = f h

-- a new key goes last
pub insert_new : (key : Vec ℕ Global) (ks : List (Vec ℕ Global)) → place_of (texts ks) key.items ≡ None → texts (insert_key (λ x y. bytes_eq x.items y.items) ks key) ≡ texts ks ++ key.items ∷ []
insert_new key ks h = ap (λ b. texts (cond b ks (ks ++ key ∷ []))) (absent_any key.items 0 ks h) ∙ texts_push ks
  where
    texts_push : (xs : List (Vec ℕ Global)) → texts (xs ++ key ∷ []) ≡ texts xs ++ key.items ∷ []
    texts_push [] = refl
    texts_push (x ∷ xs) = ap (λ t. x.items ∷ t) (texts_push xs)

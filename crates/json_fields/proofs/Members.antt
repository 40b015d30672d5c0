-- What stands at a key of an object that was made field by field.
use Rattle.std.proofs.Common.{◌≡◌, ℕ, List, [], ◌∷◌, ◌++◌, Option, Some, None, option_map, cond, Bool, true, false, not, ◌&&◌, bytes_eq, refl, sym, ap, ◌∙◌, subst, arith}
use Rattle.std.proofs.lemmas.Slice.Eq.{bytes_eq-Decides}
use Rattle.std.proofs.lemmas.Bool.{false≢true}
use Rattle.std.specs.Bool.{Decides}
use Rattle.serde_json.specs.Data.{Data, Members, put}
use Rattle.serde_json.specs.Find.{get_member}
use Rattle.serde_json.proofs.Views.{get_member-put, get_member-put_other}
use Rattle.json_fields.specs.Keys.{name_of}
use Rattle.json_fields.specs.Objects.{Scalar, scalar_data, Field, with_value, with_fields}
use Rattle.json_fields.specs.declared.key.Key.{Key}

pub get_member-put_at : (k l : List ℕ) (d : Data) (ms : Members) → get_member k (put l d ms) ≡ cond (bytes_eq k l) (Some d) (get_member k ms)
get_member-put_at k l d ms = by_test (bytes_eq k l) (bytes_eq-Decides k l)
  where
    by_test : (b : Bool) → Decides b (k ≡ l) → get_member k (put l d ms) ≡ cond b (Some d) (get_member k ms)
    by_test true h = let P : List ℕ → Type 0 = λ z. get_member z (put l d ms) ≡ Some d in subst P (sym (h.0 refl)) (get_member-put l d ms)
    by_test false h = get_member-put_other k l d ms (λ e. false≢true (h.1 e))

-- what the fields have at a name
unfoldable pub field_at : List ℕ → List Field → Option Scalar
field_at k [] = None
field_at k (f ∷ fs) = cond (bytes_eq k (name_of f.0)) f.1 (field_at k fs)

-- no field has this name
unfoldable pub is_absent : List ℕ → List Field → Bool
is_absent k [] = true
is_absent k (f ∷ fs) = not (bytes_eq k (name_of f.0)) && is_absent k fs

-- no two fields have one name
unfoldable pub are_apart : List Field → Bool
are_apart [] = true
are_apart (f ∷ fs) = is_absent (name_of f.0) fs && are_apart fs

both : (a b : Bool) → (a && b) ≡ true → (a ≡ true) × (b ≡ true)
both a b h = grind arith

negated : (a : Bool) → not a ≡ true → a ≡ false
negated a h = grind arith

get_member-with_value : (k : List ℕ) (key : Key) (o : Option Scalar) (ms : Members) → bytes_eq k (name_of key) ≡ false → get_member k (with_value key o ms) ≡ get_member k ms
get_member-with_value k key None ms h = refl
get_member-with_value k key (Some s) ms h = get_member-put_at k (name_of key) (scalar_data s) ms ∙ ap (λ b. cond b (Some (scalar_data s)) (get_member k ms)) h

get_member-absent : (k : List ℕ) (fs : List Field) (ms : Members) → is_absent k fs ≡ true → get_member k (with_fields ms fs) ≡ get_member k ms
unfolding is_absent with_fields
get_member-absent k [] ms h = refl
get_member-absent k (f ∷ fs) ms h =
    let parts = both (not (bytes_eq k (name_of f.0))) (is_absent k fs) h in
    get_member-absent k fs (with_value f.0 f.1 ms) parts.1 ∙ get_member-with_value k f.0 f.1 ms (negated _ parts.0)

here : (k : List ℕ) (key : Key) (o : Option Scalar) (ms : Members) → k ≡ name_of key → get_member k ms ≡ None → get_member k (with_value key o ms) ≡ option_map scalar_data o
here k key None ms e h = h
here k key (Some s) ms e h = let P : List ℕ → Type 0 = λ z. get_member z (put (name_of key) (scalar_data s) ms) ≡ Some (scalar_data s) in subst P (sym e) (get_member-put (name_of key) (scalar_data s) ms)

-- what stands at a name is what the fields have there
pub get_member-with_fields : (k : List ℕ) (fs : List Field) (ms : Members) → are_apart fs ≡ true → get_member k ms ≡ None → get_member k (with_fields ms fs) ≡ option_map scalar_data (field_at k fs)
unfolding are_apart with_fields field_at
get_member-with_fields k [] ms a h = h
get_member-with_fields k (f ∷ fs) ms a h =
    by_test (bytes_eq k (name_of f.0)) (bytes_eq-Decides k (name_of f.0)) refl (λ ns q. get_member-with_fields k fs ns (both (is_absent (name_of f.0) fs) _ a).1 q)
  where
    by_test : (b : Bool) → Decides b (k ≡ name_of f.0) → bytes_eq k (name_of f.0) ≡ b
        → ((ns : Members) → get_member k ns ≡ None → get_member k (with_fields ns fs) ≡ option_map scalar_data (field_at k fs))
        → get_member k (with_fields (with_value f.0 f.1 ms) fs) ≡ option_map scalar_data (cond b f.1 (field_at k fs))
    by_test true d e next =
        let same : k ≡ name_of f.0 = d.0 refl in
        let P : List ℕ → Type 0 = λ z. is_absent z fs ≡ true in
        get_member-absent k fs (with_value f.0 f.1 ms) (subst P (sym same) (both _ (are_apart fs) a).0) ∙ here k f.0 f.1 ms same h
    by_test false d e next = next (with_value f.0 f.1 ms) (get_member-with_value k f.0 f.1 ms e ∙ h)

-- putting two lists of fields is putting one after the other
pub with_fields-append : (ms : Members) (fs gs : List Field) → with_fields ms (fs ++ gs) ≡ with_fields (with_fields ms fs) gs
unfolding with_fields
with_fields-append ms [] gs = refl
with_fields-append ms (f ∷ fs) gs = with_fields-append (with_value f.0 f.1 ms) fs gs

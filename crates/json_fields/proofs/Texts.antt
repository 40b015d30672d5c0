-- What the bytes of a line say.
use Rattle.std.proofs.Common.{◌≡◌, List, ℕ, Some, None, refl, ap, cond, true, false, Bool, ◌∙◌, [], ◌∷◌, length, eqb, is_some, arith}
use Rattle.std.specs.Str.{IsUtf8, is_utf8}
use Rattle.std.proofs.lemmas.Str.{IsUtf8-from_is_utf8, is_utf8-from_IsUtf8}
use Rattle.serde_json.specs.Data.{Data}
use Rattle.serde_json.specs.Read.{read}
use Rattle.json_fields.specs.Values.{items_view}
use Rattle.json_fields.specs.declared.value.JsonValue.{JsonValue}
use Rattle.json_fields.specs.Fields.{json_of, nothing_of}

-- a text that reads is that value
pub json_of_read : (bytes : List ℕ) (d : Data) → IsUtf8 bytes → read bytes ≡ Some d → json_of bytes ≡ Some d
unfolding json_of
json_of_read bytes d text found = ap (λ b. cond b (read bytes) None) (is_utf8-from_IsUtf8 bytes text) ∙ found

-- what is no text, or a text that does not read, is no value
pub json_of_refused : (bytes : List ℕ) → (IsUtf8 bytes → read bytes ≡ None) → json_of bytes ≡ None
unfolding json_of
json_of_refused bytes refused = by_test (is_utf8 bytes) (λ h. refused (IsUtf8-from_is_utf8 bytes h))
  where
    by_test : (b : Bool) → (b ≡ true → read bytes ≡ None) → cond b (read bytes) None ≡ None
    by_test true h = h refl
    by_test false h = refl

-- a list is empty where its items are none
pub nothing_of_view : (vs : List JsonValue) → eqb (length vs) 0 ≡ is_some (nothing_of (items_view vs))
nothing_of_view [] = refl
nothing_of_view (v ∷ vs) = grind arith

-- The test of plain members says what they are.
use Rattle.std.proofs.Common.{◌≡◌, ◌≤◌, ◌<◌, ℕ, List, Bool, true, false, cond, ◌&&◌, ◌||◌, nat_lt, Some, Ordering, Less, Equal, Greater, nat_cmp, refl, ap, ◌∙◌, arith, is_lt}
use Rattle.std.specs.Str.{is_utf8}
use Rattle.std.proofs.lemmas.Str.{IsUtf8-from_is_utf8, is_utf8-from_IsUtf8}
use Rattle.std.specs.Cmp.Lexicographic.{slice_cmp}
use Rattle.serde_json.specs.Data.{unsigned, negative, float, Data, null, boolean, number, string, array, object, Members, no_members, member, depth, members_depth, put}
use Rattle.serde_json.specs.Written.{has_float, members_have_float}
use Rattle.json_fields.specs.Keys.{name_of}
use Rattle.json_fields.specs.Objects.{Scalar, scalar_data, digits, words, flag}
use Rattle.json_fields.specs.Plain.{is_plain_value, are_behind, are_plain}
use Rattle.json_fields.specs.declared.key.Key.{Key}
use Rattle.json_fields.proofs.Spelled.{IsPlain, ArePlain, AreBehind, AreInOrder}
use Rattle.json_fields.proofs.PlainFields.{IsPlainScalar, ArePlainWithin, plain_value, none_plain}

first_part : (a b : Bool) → (a && b) ≡ true → a ≡ true
first_part a b h = grind arith

second_part : (a b : Bool) → (a && b) ≡ true → b ≡ true
second_part a b h = grind arith

both : (a b : Bool) → a ≡ true → b ≡ true → (a && b) ≡ true
both a b h e = grind arith

below : {a b : ℕ} → nat_lt a b ≡ true → a < b
below h = grind (arith, h)

is_below : {a b : ℕ} → a < b → nat_lt a b ≡ true
is_below h = grind (arith, h)

is_less : (o : Ordering) → is_lt o ≡ true → o ≡ Less
is_less Less h = refl
is_less Equal h = cc
is_less Greater h = cc

---- Values

record IsPlainValue (d : Data) : Type 0 where
  plain : IsPlain d
  shallow : depth d ≤ 0
  exact : has_float d ≡ false

value_is : (d : Data) → is_plain_value d ≡ true → IsPlainValue d
value_is null h = record { plain = tt; shallow = omega arith; exact = refl }
value_is (boolean b) h = record { plain = tt; shallow = omega arith; exact = refl }
value_is (number (unsigned n)) h = record { plain = below h; shallow = omega arith; exact = refl }
value_is (number (negative z)) h = cc
value_is (number (float x)) h = cc
value_is (string s) h = record { plain = IsUtf8-from_is_utf8 s h; shallow = omega arith; exact = refl }
value_is (array ds) h = cc
value_is (object ms) h = cc

is_value : (d : Data) → IsPlain d → depth d ≤ 0 → is_plain_value d ≡ true
is_value null p low = refl
is_value (boolean b) p low = refl
is_value (number (unsigned n)) p low = is_below p
is_value (number (negative z)) p low = absurd p
is_value (number (float x)) p low = absurd p
is_value (string s) p low = is_utf8-from_IsUtf8 s p
is_value (array ds) p low = absurd (omega (arith, low))
is_value (object ms) p low = absurd (omega (arith, low))

pub scalar_is : (s : Scalar) → is_plain_value (scalar_data s) ≡ true → IsPlainScalar s
scalar_is (digits n) h = below h
scalar_is (words text) h = IsUtf8-from_is_utf8 text h
scalar_is (flag b) h = tt

---- Members

behind_is : (k : List ℕ) (ms : Members) → are_behind k ms ≡ true → AreBehind k ms
behind_is k no_members h = tt
behind_is k (member l d ms) h = (is_less _ (first_part _ (are_behind k ms) h), behind_is k ms (second_part (is_lt (slice_cmp nat_cmp k l)) _ h))

is_behind : (k : List ℕ) (ms : Members) → AreBehind k ms → are_behind k ms ≡ true
is_behind k no_members h = refl
is_behind k (member l d ms) h = both _ _ (ap is_lt h.0) (is_behind k ms h.1)

neither : (a b : Bool) → a ≡ false → b ≡ false → (a || b) ≡ false
neither a b h e = grind arith

pub members_are : (ms : Members) → are_plain ms ≡ true → ArePlainWithin 0 ms
members_are no_members h = none_plain
members_are (member k d ms) h =
    let value = value_is d (first_part (is_plain_value d) _ (second_part (is_utf8 k) _ h)) in
    let others = second_part (is_plain_value d) _ (second_part (is_utf8 k) _ h) in
    let rest = members_are ms (second_part (are_behind k ms) (are_plain ms) others) in
    let low = value.shallow in
    let below_it = rest.within.shallow in
    record {
      plain = (IsUtf8-from_is_utf8 k (first_part (is_utf8 k) _ h), value.plain, rest.plain);
      order = (behind_is k ms (first_part (are_behind k ms) (are_plain ms) others), rest.order);
      within = record { shallow = omega (arith, low, below_it); exact = neither (has_float d) (members_have_float ms) value.exact rest.within.exact };
    }

are_members : (ms : Members) → ArePlain ms → AreInOrder ms → members_depth ms ≤ 0 → are_plain ms ≡ true
are_members no_members p o low = refl
are_members (member k d ms) p o low =
    both _ _ (is_utf8-from_IsUtf8 k p.0) (both _ _ (is_value d p.1 (omega (arith, low))) (both _ _ (is_behind k ms o.0) (are_members ms p.2 o.1 (omega (arith, low)))))

-- they stay so where such a value is put to them, and where it isn't
pub plain_after : (key : Key) (s : Scalar) (old new : Members) → are_plain old ≡ true → is_plain_value (scalar_data s) ≡ true → new ≡ put (name_of key) (scalar_data s) old → are_plain new ≡ true
plain_after key s old new before value is =
    let p = plain_value key (Some s) old (scalar_is s value) (members_are old before) in
    ap are_plain is ∙ are_members _ p.plain p.order p.within.shallow

pub plain_either : (b : Bool) (key : Key) (s : Scalar) (old new : Members) → are_plain old ≡ true → is_plain_value (scalar_data s) ≡ true → new ≡ cond b (put (name_of key) (scalar_data s) old) old → are_plain new ≡ true
plain_either true key s old new before value is = plain_after key s old new before value is
plain_either false key s old new before value is = ap are_plain is ∙ before

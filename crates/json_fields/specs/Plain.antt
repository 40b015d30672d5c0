-- Members whose text reads as they: a test of numbers, texts and flags at keys in byte order.
use Rattle.std.specs.Prelude.{ℕ, ◌^◌, List, Bool, true, false, ◌&&◌, nat_lt}
use Rattle.std.specs.Str.{is_utf8}
use Rattle.std.specs.Ordering.{nat_cmp, is_lt}
use Rattle.std.specs.Cmp.Lexicographic.{slice_cmp}
use Rattle.serde_json.specs.Data.{unsigned, negative, float, Data, null, boolean, number, string, array, object, Members, no_members, member}

-- a number of 64 bits, a text in UTF-8, or a flag
abbrev pub is_plain_value : Data → Bool
is_plain_value null = true
is_plain_value (boolean b) = true
is_plain_value (number (unsigned n)) = nat_lt n (2 ^ 64)
is_plain_value (number (negative z)) = false
is_plain_value (number (float x)) = false
is_plain_value (string s) = is_utf8 s
is_plain_value (array ds) = false
is_plain_value (object ms) = false

-- each key of the members comes after this one
abbrev pub are_behind : List ℕ → Members → Bool
are_behind k no_members = true
are_behind k (member l d ms) = is_lt (slice_cmp nat_cmp k l) && are_behind k ms

-- such values, at keys in UTF-8 that rise
abbrev pub are_plain : Members → Bool
are_plain no_members = true
are_plain (member k d ms) = is_utf8 k && (is_plain_value d && (are_behind k ms && are_plain ms))

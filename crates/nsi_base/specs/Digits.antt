-- Numbers in decimal digits.
use Rattle.std.specs.Prelude.{ℕ, ◌+◌, ◌-◌, ◌*◌, ◌^◌, List, [], ◌∷◌, Bool, ◌&&◌, ◌==◌, nat_le, nat_lt, if◌then◌else◌, length, get_or, decimal, Option, Some, None}
use Rattle.std.specs.List.{list_all}
use Rattle.std.specs.Str.{bytes_eq}

abbrev pub is_digit : ℕ → Bool
is_digit b = nat_le 48 b && nat_le b 57

-- the number that digits go on to, from what was read before them
unfoldable pub value_from : ℕ → List ℕ → ℕ
value_from n [] = n
value_from n (b ∷ bs) = value_from (10 * n + (b - 48)) bs

abbrev pub are_digits : List ℕ → Bool
are_digits word = nat_le 1 (length word) && nat_le (length word) 20 && list_all is_digit word

-- a number in the range
abbrev pub ranged : ℕ → ℕ → Bool → ℕ → Option ℕ
ranged low high digits n = if digits && nat_le low n && nat_le n high then Some n else None

-- one to twenty digits, of a number in the range; leading zeros are taken
unfoldable pub number_of : ℕ → ℕ → List ℕ → Option ℕ
number_of low high word = ranged low high (are_digits word) (value_from 0 word)

-- a zero before other bytes
abbrev pub has_leading_zero : List ℕ → Bool
has_leading_zero word = nat_lt 1 (length word) && (get_or word 0 0 == 48)

-- the number, where it is below 2 ^ 64 and the word is its decimal text
abbrev pub as_written : ℕ → List ℕ → Option ℕ
as_written n word = if nat_lt n (2 ^ 64) && bytes_eq (decimal n) word then Some n else None

-- the number below 2 ^ 64 that a word is the decimal text of
unfoldable pub number_written : List ℕ → Option ℕ
number_written word = as_written (value_from 0 word) word

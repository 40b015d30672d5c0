-- A number is read from its decimal text, and from no other.
use Rattle.std.proofs.Common.{◌≡◌, ℕ, ◌-◌, ◌^◌, ◌<◌, ◌≤◌, ◌↔◌, List, length, get_or, Bool, true, false, ◌&&◌, cond, eqb, ltb, leb, nat_lt, Option, Some, None, decimal, bytes_eq, refl, sym, ap, ◌∙◌, arith, rules, inl, inr}
use Rattle.std.specs.List.{list_all}
use Rattle.std.proofs.lemmas.Bool.{cases_Bool, false≢true, lt-ltb, ltb-true, ltb-false}
use Rattle.std.proofs.lemmas.Bool.Decides.{nat_tests}
use Rattle.std.proofs.lemmas.Fmt.{digits_decimal, digits_value-decimal, decimal-digits_value, length-decimal-le, first_decimal, decimal_nonempty, decimal_digit}
use Rattle.std.proofs.lemmas.Slice.Eq.{bytes_eq-Decides}
use Rattle.std.proofs.lemmas.Str.Parse.{IsNumeralModel, numerals_by_fold}
use Rattle.nsi_base.specs.Digits.{is_digit, value_from, are_digits, ranged, number_of}
use Rattle.nsi_base.specs.Digits.{has_leading_zero, as_written, number_written}

both : (a b : Bool) → (a && b) ≡ true → (a ≡ true) × (b ≡ true)
both a b h = grind arith

pub own : IsNumeralModel (λ ds. list_all is_digit ds ≡ true) (value_from 0)
unfolding value_from
own = numerals_by_fold _ (search rules) value_from (search rules)

three : (a b c : Bool) → a ≡ true → b ≡ true → c ≡ true → ((a && b) && c) ≡ true
three a b c x y z = grind arith

pub decimal_digits : (n : ℕ) → n < 2 ^ 64 → are_digits (decimal n) ≡ true
decimal_digits n h =
    three (leb 1 (length (decimal n))) (leb (length (decimal n)) 20) (list_all is_digit (decimal n))
    (grind (arith, nat_tests, decimal_nonempty n h))
    (let l : length (decimal n) ≤ 20 = length-decimal-le 20 n (omega arith) (omega arith) h in grind (arith, nat_tests))
    (digits_decimal own n h)

pub decimal_value : (n : ℕ) → n < 2 ^ 64 → value_from 0 (decimal n) ≡ n
decimal_value n h = digits_value-decimal own n h

in_range : (low high n : ℕ) (digits : Bool) → digits ≡ true → low ≤ n → n ≤ high → ranged low high digits n ≡ Some n
in_range low high n digits h l m = grind (arith, nat_tests)

-- what is printed is read, leading zeros allowed or not
pub number_again : (low high n : ℕ) → n < 2 ^ 64 → low ≤ n → n ≤ high → number_of low high (decimal n) ≡ Some n
unfolding number_of
number_again low high n h l m =
    ap (ranged low high (are_digits (decimal n))) (decimal_value n h) ∙ in_range low high n (are_digits (decimal n)) (decimal_digits n h) l m

from_written : (n m : ℕ) (word : List ℕ) → as_written n word ≡ Some m → (n ≡ m) × (n < 2 ^ 64) × (decimal n ≡ word)
from_written n m word e = by_test (nat_lt n (2 ^ 64)) (bytes_eq (decimal n) word) refl refl e
  where
    by_test : (a b : Bool) → nat_lt n (2 ^ 64) ≡ a → bytes_eq (decimal n) word ≡ b → cond (a && b) (Some n) None ≡ Some m → (n ≡ m) × (n < 2 ^ 64) × (decimal n ≡ word)
    by_test true true p q h = (cc, ltb-true n (2 ^ 64) p, (bytes_eq-Decides (decimal n) word).0 q)
    by_test true false p q h = absurd cc
    by_test false b p q h = absurd cc

pub written : (n : ℕ) → n < 2 ^ 64 → number_written (decimal n) ≡ Some n
unfolding number_written
written n h =
    ap (λ v. as_written v (decimal n)) (decimal_value n h)
    ∙ rw (lt-ltb n (2 ^ 64) h, (bytes_eq-Decides (decimal n) (decimal n)).1 refl) refl

-- the number of a word is the one that it is the text of
pub is_written : (word : List ℕ) (n : ℕ) → number_written word ≡ Some n ↔ ((n < 2 ^ 64) × (word ≡ decimal n))
unfolding number_written
is_written word n =
    (λ e. let p = from_written (value_from 0 word) n word e in (omega (arith, p.0, p.1), sym p.2 ∙ ap decimal p.0), λ p. ap number_written p.1 ∙ written n p.0)

short_zero : (n : ℕ) → n < 2 ^ 64 → has_leading_zero (decimal n) ≡ true → n ≡ 0
short_zero n h z =
    let p = both (nat_lt 1 (length (decimal n))) (eqb (get_or (decimal n) 0 0) 48) z in
    elim (cases_Bool (ltb 0 n)) [
      | inl t ↦ absurd (let f = first_decimal n (ltb-true 0 n t) h in grind (arith, nat_tests))
      | inr f ↦ let g = ltb-false 0 n f in omega (arith, g)
    ]

zero_length : length (decimal 0) ≡ 1
zero_length = ap length (decimal_digit 0 (omega arith))

pub not_leading : (n : ℕ) → n < 2 ^ 64 → has_leading_zero (decimal n) ≡ false
not_leading n h = elim (cases_Bool (has_leading_zero (decimal n))) [
  | inl t ↦ absurd (let z = short_zero n h t in
      let p = both (nat_lt 1 (length (decimal n))) (eqb (get_or (decimal n) 0 0) 48) t in
      let l : length (decimal n) ≡ 1 = rw z zero_length in
      grind (arith, nat_tests))
  | inr f ↦ f
]

none_or : (o : Option ℕ) → ((n : ℕ) → o ≡ Some n → ⊥) → None ≡ o
none_or None f = refl
none_or (Some n) f = absurd (f n refl)

-- a leading zero stands in no decimal text
pub leading_none : (word : List ℕ) → has_leading_zero word ≡ true → None ≡ number_written word
leading_none word h = none_or (number_written word) (λ n e.
    let p = (is_written word n).0 e in
    false≢true (sym (not_leading n p.0) ∙ (ap has_leading_zero (sym p.1) ∙ h)))

one_zero : (word : List ℕ) → has_leading_zero word ≡ false → get_or word 0 0 ≡ 48 → 0 < length word → length word ≡ 1
one_zero word h z l = grind (arith, nat_tests)

digits_are : (word : List ℕ) → are_digits word ≡ true → (0 < length word) × (list_all is_digit word ≡ true)
digits_are word h =
    let p = both (leb 1 (length word) && leb (length word) 20) (list_all is_digit word) h in
    let q = both (leb 1 (length word)) (leb (length word) 20) p.0 in
    (grind (arith, nat_tests), p.1)

same_or : (n : ℕ) (word : List ℕ) → are_digits word ≡ true → has_leading_zero word ≡ false → n ≡ value_from 0 word → ranged 0 (2 ^ 64 - 1) true n ≡ as_written n word
same_or n word d z e = elim (cases_Bool (ltb n (2 ^ 64))) [
  | inl t ↦
      let a = digits_are word d in
      let s : decimal n ≡ word = rw e (decimal-digits_value own word a.1 a.0 (λ q. one_zero word z q a.0) (omega (arith, e, ltb-true n (2 ^ 64) t))) in
      in_range 0 (2 ^ 64 - 1) n true refl (omega arith) (omega (arith, ltb-true n (2 ^ 64) t))
      ∙ sym (rw (t, (bytes_eq-Decides (decimal n) word).1 s) refl)
  | inr f ↦ past n (ltb-false n (2 ^ 64) f) ∙ sym (ap (λ t. cond (t && bytes_eq (decimal n) word) (Some n) None) f)
]
  where
    past : (n : ℕ) → 2 ^ 64 ≤ n → ranged 0 (2 ^ 64 - 1) true n ≡ None
    past n h = grind (arith, nat_tests)

no_digits : (n : ℕ) (word : List ℕ) → are_digits word ≡ false → ranged 0 (2 ^ 64 - 1) (are_digits word) n ≡ None
no_digits n word h = rw h refl

-- without one, digits are the decimal text of their number
pub plain_digits : (word : List ℕ) → has_leading_zero word ≡ false → number_of 0 (2 ^ 64 - 1) word ≡ number_written word
unfolding number_of number_written
plain_digits word z = elim (cases_Bool (are_digits word)) [
  | inl t ↦ ap (λ d. ranged 0 (2 ^ 64 - 1) d (value_from 0 word)) t ∙ same_or (value_from 0 word) word t z refl
  | inr f ↦ no_digits (value_from 0 word) word f ∙ none_or (number_written word) (λ n e.
      let p = (is_written word n).0 e in
      false≢true (sym f ∙ (ap are_digits p.1 ∙ decimal_digits n p.0)))
]

-- What is printed is ASCII.
use Rattle.std.proofs.Common.{◌≡◌, ℕ, zero, suc, ◌+◌, ◌/◌, ◌%◌, ◌<◌, ◌&&◌, nat_lt, Bool, true, List, [], ◌∷◌, ◌++◌, get_or, refl, arith}
use Rattle.std.specs.List.{list_all}
use Rattle.std.specs.Str.{IsUtf8}
use Rattle.std.proofs.lemmas.Str.{IsUtf8-from_ascii}
use Rattle.std.proofs.lemmas.Bool.Decides.{nat_tests}
use Rattle.date_time.specs.Text.{two_digits, date_time_text}

abbrev is_ascii : ℕ → Bool
is_ascii b = nat_lt b 128

both : (a b : Bool) → (a && b) ≡ true → (a ≡ true) × (b ≡ true)
both a b h = grind arith

join : (a b : Bool) → a ≡ true → b ≡ true → (a && b) ≡ true
join a b h k = grind arith

below : (b : ℕ) → is_ascii b ≡ true → b < 128
below b h = grind (arith, nat_tests)

each_below : (bs : List ℕ) → list_all is_ascii bs ≡ true → (i : ℕ) → get_or bs i 0 < 128
each_below [] h i = grind arith
each_below (b ∷ bs) h zero = below b (both (is_ascii b) (list_all is_ascii bs) h).0
each_below (b ∷ bs) h (suc i) = each_below bs (both (is_ascii b) (list_all is_ascii bs) h).1 i

digit : (n : ℕ) → n < 10 → is_ascii (48 + n) ≡ true
digit n h = grind (arith, nat_tests)

byte_then : (b : ℕ) (rest : List ℕ) → is_ascii b ≡ true → list_all is_ascii rest ≡ true → list_all is_ascii (b ∷ rest) ≡ true
byte_then b rest h k = join (is_ascii b) (list_all is_ascii rest) h k

digits_then : (n : ℕ) (rest : List ℕ) → n < 100 → list_all is_ascii rest ≡ true → list_all is_ascii (two_digits n ++ rest) ≡ true
digits_then n rest h k =
    byte_then (48 + n / 10) ((48 + n % 10) ∷ rest) (digit (n / 10) (omega arith))
    (byte_then (48 + n % 10) rest (digit (n % 10) (omega arith)) k)

pub spelled_text : (y m d h mi s : ℕ) → y < 10000 → m < 100 → d < 100 → h < 100 → mi < 100 → s < 100 → IsUtf8 (date_time_text y m d h mi s)
spelled_text y m d h mi s a b c e f g =
    let end : List ℕ = 90 ∷ [] in
    let second : List ℕ = 58 ∷ two_digits s ++ end in
    let minute : List ℕ = 58 ∷ two_digits mi ++ second in
    let hour : List ℕ = 84 ∷ two_digits h ++ minute in
    let day : List ℕ = 45 ∷ two_digits d ++ hour in
    let month : List ℕ = 45 ∷ two_digits m ++ day in
    let at_end = byte_then 90 [] refl refl in
    let at_second = byte_then 58 (two_digits s ++ end) refl (digits_then s end g at_end) in
    let at_minute = byte_then 58 (two_digits mi ++ second) refl (digits_then mi second f at_second) in
    let at_hour = byte_then 84 (two_digits h ++ minute) refl (digits_then h minute e at_minute) in
    let at_day = byte_then 45 (two_digits d ++ hour) refl (digits_then d hour c at_hour) in
    let at_month = byte_then 45 (two_digits m ++ day) refl (digits_then m day b at_day) in
    let at_year = digits_then (y / 100) (two_digits (y % 100) ++ month) (omega arith) (digits_then (y % 100) month (omega arith) at_month) in
    IsUtf8-from_ascii (date_time_text y m d h mi s) (each_below (date_time_text y m d h mi s) at_year)

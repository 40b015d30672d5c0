-- What is printed is read.
use Rattle.std.proofs.Common.{◌≡◌, ℕ, ◌+◌, ◌-◌, ◌*◌, ◌/◌, ◌%◌, ◌<◌, ◌≤◌, ◌==◌, ◌&&◌, nat_le, true, List, [], ◌∷◌, ◌++◌, Some, None, refl, subst, arith, ℤ, pos, ◌+ℤ◌, ◌-ℤ◌, ◌*ℤ◌, to_z}
use Rattle.std.proofs.lemmas.Bool.Decides.{nat_tests}
use Rattle.nsi_base.specs.Digits.{is_digit}
use Rattle.nsi_base.specs.Range.{within, greatest_second}
use Rattle.std.specs.Int.{IsInRange, w8, w16}
use Rattle.jiff_core.specs.declared.civil.date.Date.{Date}
use Rattle.jiff_core.specs.Calendar.{days_in_month, days_from_civil, IsCivilDate, IsYear}
use Rattle.jiff_core.specs.Date.{epoch_day, IsYmd}
use Rattle.jiff_core.proofs.SignedLemmas.{signed_arith, signed_casts}
use Rattle.jiff_core.proofs.CalendarLemmas.{days_in_month_bounds}
use Rattle.date_time.specs.Text.{two_digits, four_digits, date_text, time_text, date_time_text, year_of, month_of, day_of, text_of}
use Rattle.date_time.specs.Reading.{two_at, four_at, field_at, behind, behind_letter, days_to, date_at, minutes_at, time_at, behind_fraction, offset_of, on_time_line, second_of}
use Rattle.date_time.proofs.Dates.{date_is}

pub two_read : (n : ℕ) (rest : List ℕ) → n < 100 → two_at (two_digits n ++ rest) ≡ Some (n, rest)
unfolding two_at
two_read n rest h =
    let digits : (is_digit (48 + n / 10) && is_digit (48 + n % 10)) ≡ true = grind (arith, nat_tests) in
    let value : 10 * (48 + n / 10 - 48) + (48 + n % 10 - 48) ≡ n = omega arith in
    rw (digits, value) refl

pub four_read : (n : ℕ) (rest : List ℕ) → n < 10000 → four_at (four_digits n ++ rest) ≡ Some (n, rest)
unfolding four_at
four_read n rest h =
    let high = two_read (n / 100) (two_digits (n % 100) ++ rest) (omega arith) in
    let low = two_read (n % 100) rest (omega arith) in
    let value : 100 * (n / 100) + n % 100 ≡ n = omega arith in
    rw (high, low, value) refl

pub in_within : (high n : ℕ) → n ≤ high → within 0 high n ≡ Some n
in_within high n h = grind (arith, nat_tests)

pub not_within : (high n : ℕ) → high < n → within 0 high n ≡ None
not_within high n h = grind (arith, nat_tests)

pub field_read : (most n : ℕ) (rest : List ℕ) → n ≤ most → n < 100 → field_at most (two_digits n ++ rest) ≡ Some (n, rest)
unfolding field_at
field_read most n rest h k = rw (two_read n rest k, in_within most n h) refl

pub first_behind : (b : ℕ) (rest : List ℕ) → behind b (b ∷ rest) ≡ Some rest
unfolding behind
first_behind b rest = let same : (b == b) ≡ true = grind (arith, nat_tests) in rw same refl

pub behind_t : (rest : List ℕ) → behind_letter (84 ∷ rest) ≡ Some rest
unfolding behind_letter
behind_t rest = refl

pub days_read : (y m d : ℕ) → IsCivilDate (pos y) m d → days_to y m d ≡ Some (days_from_civil (pos y) m d)
days_read y m d h =
    let is : (nat_le 1 m && nat_le m 12 && nat_le 1 d && nat_le d (days_in_month (pos y) m)) ≡ true = grind (arith, nat_tests, h.1.0, h.1.1, h.2.0, h.2.1) in
    rw is refl

pub date_read : (y m d : ℕ) (rest : List ℕ) → IsCivilDate (pos y) m d → date_at (date_text y m d ++ rest) ≡ Some (days_from_civil (pos y) m d, rest)
unfolding date_at
date_read y m d rest h =
    let long = days_in_month_bounds (pos y) m in
    let year = four_read y (45 ∷ two_digits m ++ 45 ∷ two_digits d ++ rest) (omega (arith, signed_arith, h.0.1)) in
    let month = two_read m (45 ∷ two_digits d ++ rest) (omega (arith, h.1.1)) in
    let day = two_read d rest (omega (arith, h.2.1)) in
    rw (year, first_behind 45 (two_digits m ++ 45 ∷ two_digits d ++ rest), month, first_behind 45 (two_digits d ++ rest), day, days_read y m d h) refl

pub minutes_read : (h m : ℕ) (rest : List ℕ) → h ≤ 23 → m ≤ 59 → minutes_at (two_digits h ++ 58 ∷ two_digits m ++ rest) ≡ Some (3600 * h + 60 * m, rest)
unfolding minutes_at
minutes_read h m rest a b =
    let hour = field_read 23 h (58 ∷ two_digits m ++ rest) a (omega arith) in
    let minute = field_read 59 m rest b (omega arith) in
    rw (hour, first_behind 58 (two_digits m ++ rest), minute) refl

pub time_read : (h m s : ℕ) (rest : List ℕ) → h ≤ 23 → m ≤ 59 → s ≤ 59 → time_at (time_text h m s ++ rest) ≡ Some (3600 * h + 60 * m + s, rest)
unfolding time_at
time_read h m s rest a b k =
    let minutes = minutes_read h m (58 ∷ two_digits s ++ rest) a b in
    let second = field_read 59 s rest k (omega arith) in
    rw (minutes, first_behind 58 (two_digits s ++ rest), second) refl

pub ending : behind_fraction (90 ∷ []) ≡ Some (90 ∷ [])
unfolding behind_fraction
ending = refl

pub utc : offset_of (90 ∷ []) ≡ Some (pos 0)
unfolding offset_of
utc = refl

in_time : (z : ℤ) (n : ℕ) → z ≡ pos n → n ≤ greatest_second → on_time_line z ≡ Some n
unfolding on_time_line
in_time z n e h = rw (e, in_within greatest_second n h) refl

printed_read : (y m d h mi s n : ℕ) → IsCivilDate (pos y) m d → h ≤ 23 → mi ≤ 59 → s ≤ 59 → n ≤ greatest_second → days_from_civil (pos y) m d *ℤ pos 86400 +ℤ pos (3600 * h + 60 * mi + s) ≡ pos n → second_of (date_time_text y m d h mi s) ≡ Some n
unfolding second_of
printed_read y m d h mi s n civil a b k low e =
    let date = date_read y m d (84 ∷ time_text h mi s ++ 90 ∷ []) civil in
    let letter = behind_t (time_text h mi s ++ 90 ∷ []) in
    let time = time_read h mi s (90 ∷ []) a b k in
    let second = in_time (days_from_civil (pos y) m d *ℤ pos 86400 +ℤ pos (3600 * h + 60 * mi + s) -ℤ pos 0) n (omega (arith, signed_arith, e)) low in
    rw (date, letter, time, ending, utc, second) refl

pub read_again : (second : ℕ) → second ≤ greatest_second → second_of (text_of second) ≡ Some second
unfolding text_of
read_again second h =
    let is = date_is (second / 86400) (omega (arith, h)) in
    let t = second % 86400 in
    printed_read (year_of (pos (second / 86400))) (month_of (pos (second / 86400))) (day_of (pos (second / 86400))) (t / 3600) (t % 3600 / 60) (t % 60) second
    is.civil (omega arith) (omega arith) (omega arith) h
    (rw is.day (omega (arith, signed_arith)))

-- what jiff makes of three numbers
pub days_are : (y m d : ℕ) (date : Date) → y < 10000 → m < 100 → d < 100 → IsYmd (to_z w16 y) (to_z w8 m) (to_z w8 d) date → days_to y m d ≡ Some (epoch_day date)
days_are y m d date a b c e =
    let year : date.year ≡ pos y = omega (arith, signed_casts, e.0) in
    let month : date.month ≡ m = omega (arith, signed_casts, e.1) in
    let day : date.day ≡ d = omega (arith, signed_casts, e.2) in
    let civil : IsCivilDate (pos y) date.month date.day = (subst IsYear year date.year_in, date.month_in, subst (λ z. IsInRange 1 (days_in_month z date.month) date.day) year date.day_in) in
    rw (← month, ← day) (rw year (days_read y date.month date.day civil))

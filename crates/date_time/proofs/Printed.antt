-- A text in the printed form is the text of the second that it is read as.
use Rattle.std.proofs.Common.{◌≡◌, ℕ, ◌+◌, ◌*◌, ◌/◌, ◌%◌, ◌<◌, ◌≤◌, ◌&&◌, nat_le, Bool, true, false, List, [], ◌∷◌, ◌++◌, Option, Some, None, is_some, unwrap_or, if◌then◌else◌, inl, inr, refl, sym, ap, ◌∙◌, arith, ℤ, pos, negsuc, ◌+ℤ◌, ◌-ℤ◌, ◌*ℤ◌}
use Rattle.std.proofs.lemmas.Bool.{cases_order}
use Rattle.std.proofs.lemmas.Bool.Decides.{nat_tests}
use Rattle.nsi_base.specs.Range.{greatest_second}
use Rattle.jiff_core.specs.declared.civil.date.Date.{Date}
use Rattle.jiff_core.specs.Calendar.{days_in_month, days_from_civil, IsCivilDate}
use Rattle.jiff_core.proofs.SignedLemmas.{signed_arith}
use Rattle.date_time.specs.Text.{two_digits, date_text, time_text, date_time_text, year_of, text_of}
use Rattle.date_time.specs.Reading.{field_at, days_to, date_at, minutes_at, time_at, on_time_line, second_of}
use Rattle.date_time.specs.Laws.{IsPrintedAgain}
use Rattle.date_time.proofs.Dates.{date_only}
use Rattle.date_time.proofs.Again.{two_read, four_read, in_within, not_within, field_read, first_behind, behind_t, date_read, minutes_read, time_read, ending, utc}

by_bool : {P : Type 0} (b : Bool) → (b ≡ true → P) → (b ≡ false → P) → P
by_bool true t f = t refl
by_bool false t f = f refl

by_order : {P : Type 0} (n most : ℕ) → (n ≤ most → P) → (most < n → P) → P
by_order n most le gt =
    elim (cases_order n most) [
      | inl same ↦ le (omega arith)
      | inr (inl below) ↦ le (omega arith)
      | inr (inr above) ↦ gt above
    ]

differ : {P : Type 0} (r : Option ℕ) (n : ℕ) → r ≡ None → r ≡ Some n → P
differ r n none some = let z : ◌≡◌ {A = ℕ} 0 1 = ap (λ (o : Option ℕ). if is_some o then 1 else 0) (sym none ∙ some) in absurd (omega (arith, z))

-- no date, no hour, no minute and no second: no reading
no_date : (y m d : ℕ) (rest : List ℕ) → y < 10000 → m < 100 → d < 100 → (nat_le 1 m && nat_le m 12 && nat_le 1 d && nat_le d (days_in_month (pos y) m)) ≡ false → date_at (date_text y m d ++ rest) ≡ None
unfolding date_at
no_date y m d rest a b c h =
    let year = four_read y (45 ∷ two_digits m ++ 45 ∷ two_digits d ++ rest) a in
    let month = two_read m (45 ∷ two_digits d ++ rest) b in
    let day = two_read d rest c in
    let none : days_to y m d ≡ None = rw h refl in
    rw (year, first_behind 45 (two_digits m ++ 45 ∷ two_digits d ++ rest), month, first_behind 45 (two_digits d ++ rest), day, none) refl

no_field : (most n : ℕ) (rest : List ℕ) → n < 100 → most < n → field_at most (two_digits n ++ rest) ≡ None
unfolding field_at
no_field most n rest k h = rw (two_read n rest k, not_within most n h) refl

no_hour : (h m s : ℕ) (rest : List ℕ) → h < 100 → 23 < h → time_at (time_text h m s ++ rest) ≡ None
unfolding time_at minutes_at
no_hour h m s rest a f = rw (no_field 23 h (58 ∷ two_digits m ++ 58 ∷ two_digits s ++ rest) a f) refl

no_minute : (h m s : ℕ) (rest : List ℕ) → h ≤ 23 → m < 100 → 59 < m → time_at (time_text h m s ++ rest) ≡ None
unfolding time_at minutes_at
no_minute h m s rest a b f =
    let hour = field_read 23 h (58 ∷ two_digits m ++ 58 ∷ two_digits s ++ rest) a (omega arith) in
    rw (hour, first_behind 58 (two_digits m ++ 58 ∷ two_digits s ++ rest), no_field 59 m (58 ∷ two_digits s ++ rest) b f) refl

no_second : (h m s : ℕ) (rest : List ℕ) → h ≤ 23 → m ≤ 59 → s < 100 → 59 < s → time_at (time_text h m s ++ rest) ≡ None
unfolding time_at
no_second h m s rest a b c f =
    let minutes = minutes_read h m (58 ∷ two_digits s ++ rest) a b in
    rw (minutes, first_behind 58 (two_digits s ++ rest), no_field 59 s rest c f) refl

without_date : (y m d h mi s : ℕ) → date_at (date_text y m d ++ 84 ∷ time_text h mi s ++ 90 ∷ []) ≡ None → second_of (date_time_text y m d h mi s) ≡ None
unfolding second_of
without_date y m d h mi s none = rw none refl

without_time : (y m d h mi s : ℕ) → IsCivilDate (pos y) m d → time_at (time_text h mi s ++ 90 ∷ []) ≡ None → second_of (date_time_text y m d h mi s) ≡ None
unfolding second_of
without_time y m d h mi s civil none =
    rw (date_read y m d (84 ∷ time_text h mi s ++ 90 ∷ []) civil, behind_t (time_text h mi s ++ 90 ∷ []), none) refl

with_all : (y m d h mi s : ℕ) → IsCivilDate (pos y) m d → h ≤ 23 → mi ≤ 59 → s ≤ 59 → second_of (date_time_text y m d h mi s) ≡ on_time_line (days_from_civil (pos y) m d *ℤ pos 86400 +ℤ pos (3600 * h + 60 * mi + s) -ℤ pos 0)
unfolding second_of
with_all y m d h mi s civil a b k =
    rw (date_read y m d (84 ∷ time_text h mi s ++ 90 ∷ []) civil, behind_t (time_text h mi s ++ 90 ∷ []), time_read h mi s (90 ∷ []) a b k, ending, utc) refl

-- what is a second of the time line
on_line : (z : ℤ) (n : ℕ) → on_time_line z ≡ Some n → (z ≡ pos n) × (n ≤ greatest_second)
unfolding on_time_line
on_line (pos k) n e =
    by_order k greatest_second
    (λ le. let same : k ≡ n = ap (λ o. unwrap_or o 0) (sym (in_within greatest_second k le) ∙ e) in (ap pos same, omega (arith, same, le)))
    (λ gt. differ (on_time_line (pos k)) n (not_within greatest_second k gt) e)
on_line (negsuc k) n e = differ (on_time_line (negsuc k)) n refl e

is_text : (y m d h mi s n : ℕ) → IsCivilDate (pos y) m d → h ≤ 23 → mi ≤ 59 → s ≤ 59 → n ≤ greatest_second → days_from_civil (pos y) m d *ℤ pos 86400 +ℤ pos (3600 * h + 60 * mi + s) ≡ pos n → text_of n ≡ date_time_text y m d h mi s
unfolding text_of
is_text y m d h mi s n civil a b k low e =
    let date : Date = record { year = pos y; month = m; day = d; year_in = civil.0; month_in = civil.1; day_in = civil.2 } in
    let day : days_from_civil (pos y) m d ≡ pos (n / 86400) = omega (arith, signed_arith, e) in
    let same = date_only (n / 86400) date (omega arith) day in
    let year : year_of (pos (n / 86400)) ≡ y = omega (arith, signed_arith, same.year) in
    let hour : n % 86400 / 3600 ≡ h = omega (arith, signed_arith, e, day) in
    let minute : n % 86400 % 3600 / 60 ≡ mi = omega (arith, signed_arith, e, day) in
    let second : n % 86400 % 60 ≡ s = omega (arith, signed_arith, e, day) in
    rw (← same.day, ← same.month, year, hour, minute, second) refl

in_time : (y m d h mi s n : ℕ) → IsCivilDate (pos y) m d → h < 100 → mi < 100 → s < 100 → second_of (date_time_text y m d h mi s) ≡ Some n → text_of n ≡ date_time_text y m d h mi s
in_time y m d h mi s n civil a b c read =
    by_order h 23
    (λ hour. by_order mi 59
    (λ minute. by_order s 59
    (λ second.
    let on = on_line _ n (sym (with_all y m d h mi s civil hour minute second) ∙ read) in
    is_text y m d h mi s n civil hour minute second on.1 (omega (arith, signed_arith, on.0)))
    (λ no. differ (second_of (date_time_text y m d h mi s)) n (without_time y m d h mi s civil (no_second h mi s (90 ∷ []) hour minute c no)) read))
    (λ no. differ (second_of (date_time_text y m d h mi s)) n (without_time y m d h mi s civil (no_minute h mi s (90 ∷ []) hour b no)) read))
    (λ no. differ (second_of (date_time_text y m d h mi s)) n (without_time y m d h mi s civil (no_hour h mi s (90 ∷ []) a no)) read)

-- the tests of a date
record IsTested (y m d : ℕ) : Type 0 where
  first_month : 1 ≤ m
  last_month : m ≤ 12
  first_day : 1 ≤ d
  last_day : d ≤ days_in_month (pos y) m

tested : (y m d : ℕ) → (nat_le 1 m && nat_le m 12 && nat_le 1 d && nat_le d (days_in_month (pos y) m)) ≡ true → IsTested y m d
tested y m d t = record { first_month = grind (arith, nat_tests, t); last_month = grind (arith, nat_tests, t); first_day = grind (arith, nat_tests, t); last_day = grind (arith, nat_tests, t) }

civil_is : (y m d : ℕ) → y < 10000 → IsTested y m d → IsCivilDate (pos y) m d
civil_is y m d h t = ((omega (arith, signed_arith), omega (arith, signed_arith)), (t.first_month, t.last_month), (t.first_day, t.last_day))

pub printed_again : IsPrintedAgain
printed_again y m d h mi s n a b c e f g read =
    by_bool (nat_le 1 m && nat_le m 12 && nat_le 1 d && nat_le d (days_in_month (pos y) m))
    (λ t. in_time y m d h mi s n (civil_is y m d a (tested y m d t)) e f g read)
    (λ no. differ (second_of (date_time_text y m d h mi s)) n (without_date y m d h mi s (no_date y m d (84 ∷ time_text h mi s ++ 90 ∷ []) a b c no)) read)

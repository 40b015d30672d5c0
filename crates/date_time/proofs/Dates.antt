-- Each day has its date: the year that has begun last, its month that has begun last, and the days since.
use Rattle.std.proofs.Common.{◌≡◌, ℕ, zero, suc, ◌+◌, ◌<◌, ◌≤◌, Bool, true, false, inl, inr, refl, sym, subst, ◌∙◌, arith, ℤ, pos, ◌+ℤ◌, ◌-ℤ◌, ◌<ℤ◌, ◌≤ℤ◌, unsigned_abs, int_le}
use Rattle.std.proofs.lemmas.Bool.{cases_order}
use Rattle.std.proofs.lemmas.Int.{by_lt_z}
use Rattle.jiff_core.specs.declared.civil.date.Date.{Date}
use Rattle.jiff_core.specs.Calendar.{days_from_civil, days_in_month, IsCivilDate}
use Rattle.jiff_core.specs.Date.{epoch_day}
use Rattle.jiff_core.proofs.SignedLemmas.{signed_arith, one_part}
use Rattle.jiff_core.proofs.CalendarLemmas.{days_from_civil-day_count, day_count-day, day_count-later_year, day_count-next_month, day_count-next_year, day_count-last_of_year, day_count-end, day_count-epoch}
use Rattle.jiff_core.proofs.DateLemmas.{epoch_day_injective}
use Rattle.date_time.specs.Text.{last_begun, year_of, month_in, month_of, day_of}

-- k has begun, and if it isn't the bound, the next hasn't
record IsLast (first : ℕ → ℤ) (day : ℤ) (bound k : ℕ) : Type 0 where
  low : 1 ≤ k
  high : k ≤ bound
  begun : first k ≤ℤ day
  last : k < bound → day <ℤ first (k + 1)

by_bool : {P : Type 0} (b : Bool) → (b ≡ true → P) → (b ≡ false → P) → P
by_bool true t f = t refl
by_bool false t f = f refl

has_begun : (first : ℕ → ℤ) (day : ℤ) (n : ℕ) → first (suc n) ≤ℤ day → last_begun first day (suc n) ≡ suc n
unfolding last_begun
has_begun first day n h =
    by_bool (int_le (first (suc n)) day) (λ t. rw t refl) (λ f. absurd (omega (arith, signed_arith, f, h)))

not_begun : (first : ℕ → ℤ) (day : ℤ) (n : ℕ) → day <ℤ first (suc n) → last_begun first day (suc n) ≡ last_begun first day n
unfolding last_begun
not_begun first day n h =
    by_bool (int_le (first (suc n)) day) (λ t. absurd (omega (arith, signed_arith, t, h))) (λ f. rw f refl)

step : (first : ℕ → ℤ) (day : ℤ) (n k : ℕ) → IsLast first day (suc n) k → day <ℤ first (suc (suc n)) → IsLast first day (suc (suc n)) k
step first day n k h later = record {
  low = h.low;
  high = omega (arith, h.high);
  begun = h.begun;
  last = λ lt. elim (cases_order k (suc n)) [
    | inl same ↦ rw same (subst (λ z. day <ℤ first z) (omega arith) later)
    | inr (inl below) ↦ h.last below
    | inr (inr above) ↦ absurd (omega (arith, h.high))
  ];
}

is_last : (first : ℕ → ℤ) (day : ℤ) (n : ℕ) → first 1 ≤ℤ day → IsLast first day (suc n) (last_begun first day (suc n))
is_last first day zero h =
    rw (has_begun first day zero h) (record { low = omega arith; high = omega arith; begun = h; last = λ lt. absurd (omega arith) })
is_last first day (suc n) h =
    by_lt_z day (first (suc (suc n)))
    (λ lt. rw (not_begun first day (suc n) lt) (step first day n (last_begun first day (suc n)) (is_last first day n h) lt))
    (λ le. rw (has_begun first day (suc n) le) (record { low = omega arith; high = omega arith; begun = le; last = λ lt. absurd (omega arith) }))

-- a day within the years 1970 to 9999
abbrev pub greatest_day : ℕ
greatest_day = 2_932_896

record IsYearOf (n y : ℕ) : Type 0 where
  low : 1 ≤ y
  high : y ≤ 9999
  begun : days_from_civil (pos y) 1 1 ≤ℤ pos n
  last : pos n <ℤ days_from_civil (pos (y + 1)) 1 1

ends : (n y : ℕ) → n ≤ greatest_day → y ≤ 9999 → (y < 9999 → pos n <ℤ days_from_civil (pos (y + 1)) 1 1) → pos n <ℤ days_from_civil (pos (y + 1)) 1 1
ends n y h high last =
    elim (cases_order y 9999) [
      | inl same ↦
          let next : y + 1 ≡ 10000 = omega arith in
          rw next (omega (arith, signed_arith, days_from_civil-day_count (pos 10000) 1 1, day_count-end))
      | inr (inl below) ↦ last below
      | inr (inr above) ↦ absurd (omega arith)
    ]

year_is : (n : ℕ) → n ≤ greatest_day → IsYearOf n (year_of (pos n))
year_is n h =
    let first : days_from_civil (pos 1) 1 1 ≤ℤ pos n = omega (arith, signed_arith, days_from_civil-day_count (pos 1) 1 1, day_count-epoch, day_count-later_year (pos 1) (pos 1970) (omega (arith, signed_arith)) (omega (arith, signed_arith))) in
    let l = is_last (λ year. days_from_civil (pos year) 1 1) (pos n) 9998 first in
    record { low = l.low; high = l.high; begun = l.begun; last = ends n (year_of (pos n)) h l.high l.last }

-- the month's days reach to the next one
record IsMonthOf (n y m : ℕ) : Type 0 where
  low : 1 ≤ m
  high : m ≤ 12
  begun : days_from_civil (pos y) m 1 ≤ℤ pos n
  last : pos n <ℤ (days_from_civil (pos y) m 1 +ℤ pos (days_in_month (pos y) m))

december : (n y m : ℕ) → pos n <ℤ days_from_civil (pos (y + 1)) 1 1 → m ≡ 12 → pos n <ℤ (days_from_civil (pos y) m 1 +ℤ pos (days_in_month (pos y) m))
december n y m last e =
    let long : days_in_month (pos y) 12 ≡ 31 = refl in
    rw e (omega (arith, signed_arith, long, days_from_civil-day_count (pos (y + 1)) 1 1, days_from_civil-day_count (pos y) 12 1, day_count-day (pos y) 12 1 31 (omega arith) (omega arith), day_count-last_of_year (pos y), day_count-next_year (pos y) (pos (y + 1)) (omega (arith, signed_arith)) (omega (arith, signed_arith))))

within_month : (n y m : ℕ) → 1 ≤ m → m ≤ 12 → pos n <ℤ days_from_civil (pos (y + 1)) 1 1 → (m < 12 → pos n <ℤ days_from_civil (pos y) (m + 1) 1) → pos n <ℤ (days_from_civil (pos y) m 1 +ℤ pos (days_in_month (pos y) m))
within_month n y m low high year last =
    elim (cases_order m 12) [
      | inl same ↦ december n y m year same
      | inr (inl below) ↦ omega (arith, signed_arith, last below, days_from_civil-day_count (pos y) m 1, days_from_civil-day_count (pos y) (m + 1) 1, day_count-next_month (pos y) m low)
      | inr (inr above) ↦ absurd (omega arith)
    ]

month_is : (n y : ℕ) → IsYearOf n y → IsMonthOf n y (month_in y (pos n))
month_is n y h =
    let l = is_last (λ month. days_from_civil (pos y) month 1) (pos n) 11 h.begun in
    record { low = l.low; high = l.high; begun = l.begun; last = within_month n y (month_in y (pos n)) l.low l.high h.last l.last }

-- the date of a day number
pub record IsDateOf (n y m d : ℕ) : Type 0 where
  pub civil : IsCivilDate (pos y) m d
  pub day : days_from_civil (pos y) m d ≡ pos n

day_is : (n y m : ℕ) → IsYearOf n y → IsMonthOf n y m → IsDateOf n y m (unsigned_abs (pos n -ℤ days_from_civil (pos y) m 1) + 1)
day_is n y m h k =
    let d = unsigned_abs (pos n -ℤ days_from_civil (pos y) m 1) + 1 in
    let same : pos n +ℤ pos 1 ≡ days_from_civil (pos y) m 1 +ℤ pos d = omega (arith, signed_arith, k.begun, one_part (pos n -ℤ days_from_civil (pos y) m 1)) in
    record {
      civil = ((omega (arith, signed_arith, h.high), omega (arith, signed_arith, h.high)), (k.low, k.high), (omega arith, omega (arith, signed_arith, k.last)));
      day = omega (arith, signed_arith, days_from_civil-day_count (pos y) m 1, days_from_civil-day_count (pos y) m d, day_count-day (pos y) m 1 d (omega arith) (omega arith));
    }

pub date_is : (n : ℕ) → n ≤ greatest_day → IsDateOf n (year_of (pos n)) (month_of (pos n)) (day_of (pos n))
date_is n h =
    let y = year_is n h in
    day_is n (year_of (pos n)) (month_of (pos n)) y (month_is n (year_of (pos n)) y)

-- and it is the only one
pub record IsSame (n : ℕ) (date : Date) : Type 0 where
  pub year : date.year ≡ pos (year_of (pos n))
  pub month : date.month ≡ month_of (pos n)
  pub day : date.day ≡ day_of (pos n)

pub date_only : (n : ℕ) (date : Date) → n ≤ greatest_day → epoch_day date ≡ pos n → IsSame n date
date_only n date h e =
    let is = date_is n h in
    let other : Date = record { year = pos (year_of (pos n)); month = month_of (pos n); day = day_of (pos n); year_in = is.civil.0; month_in = is.civil.1; day_in = is.civil.2 } in
    let same = epoch_day_injective date other (e ∙ sym is.day) in
    record { year = same.0; month = same.1; day = same.2 }

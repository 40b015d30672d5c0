-- The text of a second: the date and the time of day in UTC, with leading zeros.
use Rattle.std.specs.Prelude.{ℕ, zero, suc, ◌+◌, ◌/◌, ◌%◌, List, [], ◌∷◌, ◌++◌, ℤ, pos, ◌-ℤ◌, unsigned_abs, int_le, if◌then◌else◌}
use Rattle.jiff_core.specs.Calendar.{days_from_civil}

-- a number below 100 in two digits, and one below 10000 in four
abbrev pub two_digits : ℕ → List ℕ
two_digits n = (48 + n / 10) ∷ (48 + n % 10) ∷ []

abbrev pub four_digits : ℕ → List ℕ
four_digits n = two_digits (n / 100) ++ two_digits (n % 100)

-- `2027-03-01`
abbrev pub date_text : (year month day : ℕ) → List ℕ
date_text year month day = four_digits year ++ 45 ∷ two_digits month ++ 45 ∷ two_digits day

-- `09:30:00`
abbrev pub time_text : (hour minute second : ℕ) → List ℕ
time_text hour minute second = two_digits hour ++ 58 ∷ two_digits minute ++ 58 ∷ two_digits second

-- `2027-03-01T09:30:00Z`
abbrev pub date_time_text : (year month day hour minute second : ℕ) → List ℕ
date_time_text year month day hour minute second =
    date_text year month day ++ 84 ∷ time_text hour minute second ++ 90 ∷ []

-- the last of the numbers from 1 up to a bound that begins on the day or before it; 0 where none does
unfoldable pub last_begun : (first_day : ℕ → ℤ) → ℤ → ℕ → ℕ
last_begun first_day day zero = 0
last_begun first_day day (suc n) =
    if int_le (first_day (suc n)) day then suc n else last_begun first_day day n

-- the year that has begun last, its month that has begun last, and the day of that month, from 1
abbrev pub year_of : ℤ → ℕ
year_of day = last_begun (λ year. days_from_civil (pos year) 1 1) day 9999

abbrev pub month_in : ℕ → ℤ → ℕ
month_in year day = last_begun (λ month. days_from_civil (pos year) month 1) day 12

abbrev pub month_of : ℤ → ℕ
month_of day = month_in (year_of day) day

abbrev pub day_of : ℤ → ℕ
day_of day = unsigned_abs (day -ℤ days_from_civil (pos (year_of day)) (month_of day) 1) + 1

-- the date of a number of days since 1970-01-01
abbrev pub day_text : ℕ → List ℕ
day_text days = date_text (year_of (pos days)) (month_of (pos days)) (day_of (pos days))

-- the time of day of a number of seconds since midnight
abbrev pub clock_text : ℕ → List ℕ
clock_text seconds = time_text (seconds / 3600) (seconds % 3600 / 60) (seconds % 60)

unfoldable pub text_of : ℕ → List ℕ
text_of second = day_text (second / 86400) ++ 84 ∷ clock_text (second % 86400) ++ 90 ∷ []

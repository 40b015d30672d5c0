-- The second that a date-time is, in the profile of RFC 3339 that is read.
use Rattle.std.specs.Prelude.{ℕ, ◌+◌, ◌-◌, ◌*◌, List, [], ◌∷◌, drop, length, ◌&&◌, ◌||◌, ◌==◌, nat_le, if◌then◌else◌, Option, Some, None, option_map, ℤ, pos, negsuc, neg_ℤ, ◌+ℤ◌, ◌-ℤ◌, ◌*ℤ◌}
use Rattle.std.specs.List.{prefix_len}
use Rattle.nsi_base.specs.Digits.{is_digit}
use Rattle.nsi_base.specs.Options.{◌>>=◌}
use Rattle.nsi_base.specs.Range.{within, greatest_second}
use Rattle.jiff_core.specs.Calendar.{days_in_month, days_from_civil}

-- two digits, and what stands behind them
unfoldable pub two_at : List ℕ → Option (ℕ × List ℕ)
two_at (a ∷ b ∷ rest) =
    if is_digit a && is_digit b then Some (10 * (a - 48) + (b - 48), rest) else None
two_at _ = None

-- four digits
unfoldable pub four_at : List ℕ → Option (ℕ × List ℕ)
four_at text = do
  century ← two_at text
  year ← two_at century.1
  Some (100 * century.0 + year.0, year.1)

-- two digits of a number up to a greatest one
unfoldable pub field_at : ℕ → List ℕ → Option (ℕ × List ℕ)
field_at most text = do
  n ← two_at text
  value ← within 0 most n.0
  Some (value, n.1)

-- what stands behind a byte
unfoldable pub behind : ℕ → List ℕ → Option (List ℕ)
behind byte [] = None
behind byte (b ∷ rest) = if b == byte then Some rest else None

-- what stands behind a `T` or `t`
unfoldable pub behind_letter : List ℕ → Option (List ℕ)
behind_letter [] = None
behind_letter (b ∷ rest) = if (b == 84) || (b == 116) then Some rest else None

-- the days from 1970-01-01 to a date, where the calendar has it
abbrev pub days_to : (year month day : ℕ) → Option ℤ
days_to year month day =
    if nat_le 1 month && nat_le month 12 && nat_le 1 day && nat_le day (days_in_month (pos year) month)
    then Some (days_from_civil (pos year) month day) else None

-- a date
unfoldable pub date_at : List ℕ → Option (ℤ × List ℕ)
date_at text = do
  year ← four_at text
  to_month ← behind 45 year.1
  month ← two_at to_month
  to_day ← behind 45 month.1
  day ← two_at to_day
  days ← days_to year.0 month.0 day.0
  Some (days, day.1)

-- hours and minutes, in seconds
unfoldable pub minutes_at : List ℕ → Option (ℕ × List ℕ)
minutes_at text = do
  hour ← field_at 23 text
  to_minute ← behind 58 hour.1
  minute ← field_at 59 to_minute
  Some (3600 * hour.0 + 60 * minute.0, minute.1)

-- a time of day, in seconds since midnight
unfoldable pub time_at : List ℕ → Option (ℕ × List ℕ)
time_at text = do
  minutes ← minutes_at text
  to_second ← behind 58 minutes.1
  second ← field_at 59 to_second
  Some (minutes.0 + second.0, second.1)

-- what stands behind a fraction: a point and one to nine digits, or nothing
unfoldable pub behind_fraction : List ℕ → Option (List ℕ)
behind_fraction [] = Some []
behind_fraction (b ∷ rest) =
    if b == 46 then (if nat_le 1 (prefix_len is_digit rest) && nat_le (prefix_len is_digit rest) 9
    then Some (drop (prefix_len is_digit rest) rest) else None)
    else Some (b ∷ rest)

-- hours and minutes up to the end of the text, in seconds
abbrev pub ended : ℕ × List ℕ → Option ℕ
ended (value, []) = Some value
ended (value, b ∷ rest) = None

unfoldable pub span_of : List ℕ → Option ℕ
span_of text = minutes_at text >>= ended

-- how far a clock is ahead of UTC, in seconds: nothing, `Z`, or a sign with hours and minutes
unfoldable pub offset_of : List ℕ → Option ℤ
offset_of [] = Some (pos 0)
offset_of (b ∷ rest) =
    if ((b == 90) || (b == 122)) && (length rest == 0) then Some (pos 0)
    else if b == 43 then option_map (λ n. pos n) (span_of rest)
    else if b == 45 then option_map (λ n. neg_ℤ (pos n)) (span_of rest)
    else None

-- a second of the time line
unfoldable pub on_time_line : ℤ → Option ℕ
on_time_line (pos n) = within 0 greatest_second n
on_time_line (negsuc n) = None

-- the second that a text is the date-time of
unfoldable pub second_of : List ℕ → Option ℕ
second_of text = do
  days ← date_at text
  to_time ← behind_letter days.1
  time ← time_at to_time
  to_offset ← behind_fraction time.1
  offset ← offset_of to_offset
  on_time_line (days.0 *ℤ pos 86400 +ℤ pos time.0 -ℤ offset)

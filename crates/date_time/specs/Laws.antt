-- What is read in the printed form is printed so.
use Rattle.std.specs.Prelude.{◌≡◌, ℕ, ◌<◌, Some}
use Rattle.date_time.specs.Text.{date_time_text, text_of}
use Rattle.date_time.specs.Reading.{second_of}

-- a text in the printed form that is read as a second is that second's text
abbrev pub IsPrintedAgain : Type 0
IsPrintedAgain =
    (year month day hour minute second n : ℕ) → year < 10000 → month < 100 → day < 100 → hour < 100 → minute < 100 → second < 100
    → second_of (date_time_text year month day hour minute second) ≡ Some n
    → text_of n ≡ date_time_text year month day hour minute second

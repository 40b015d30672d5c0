-- A time that is written in either form is plain, and reads again.
use Rattle.std.proofs.Common.{◌≤◌, ◌/◌, ◌%◌, ℕ, Option, Some, None, IfSome, pos, arith, refl}
use Rattle.std.specs.Str.{IsUtf8}
use Rattle.jiff_core.proofs.SignedLemmas.{signed_arith}
use Rattle.jiff_core.proofs.CalendarLemmas.{days_in_month_bounds}
use Rattle.nsi_base.specs.Range.{greatest_second}
use Rattle.date_time.specs.Text.{text_of, year_of, month_of, day_of}
use Rattle.date_time.proofs.Again.{read_again, in_within}
use Rattle.date_time.proofs.Dates.{date_is}
use Rattle.date_time.proofs.Spelling.{spelled_text}
use Rattle.json_fields.specs.Fields.{time_from}
use Rattle.json_fields.specs.Objects.{IsReadBack, IsReadInEachForm, time_value}
use Rattle.json_fields.specs.declared.time_form.TimeForm.{TimeForm}
use Rattle.json_fields.proofs.PlainFields.{IsPlainScalar}

text_is : (second : ℕ) → second ≤ greatest_second → IsUtf8 (text_of second)
unfolding text_of
text_is second low =
    let day = second / 86400 in
    let time = second % 86400 in
    let is = date_is day (omega (arith, low)) in
    let y = year_of (pos day) in
    let m = month_of (pos day) in
    let long = days_in_month_bounds (pos y) m in
    spelled_text y m (day_of (pos day)) (time / 3600) (time % 3600 / 60) (time % 60)
    (omega (arith, signed_arith, is.civil.0.1)) (omega (arith, is.civil.1.1)) (omega (arith, long, is.civil.2.1))
    (omega arith) (omega arith) (omega arith)

pub time_plain : (form : TimeForm) (second : ℕ) → second ≤ greatest_second → IsPlainScalar (time_value form second)
unfolding time_value
time_plain TimeForm.Number second low = omega (arith, low)
time_plain TimeForm.DateTime second low = text_is second low

time_again : (form : TimeForm) (second : ℕ) → second ≤ greatest_second → IsReadBack time_from (time_value form second) second
unfolding time_from time_value
time_again TimeForm.Number second low = rw (in_within greatest_second second low) refl
time_again TimeForm.DateTime second low = read_again second low

pub in_each_form : (second : ℕ) → second ≤ greatest_second → IsReadInEachForm second
unfolding IsReadInEachForm
in_each_form second low = λ form. time_again form second low

-- in the form that it is written in
pub in_form : (form : TimeForm) (second : ℕ) → IsReadInEachForm second → IsReadBack time_from (time_value form second) second
unfolding IsReadInEachForm
in_form form second again = again form

pub in_form_if : (form : TimeForm) (o : Option ℕ) → IfSome o IsReadInEachForm → IfSome o (λ n. IsReadBack time_from (time_value form n) n)
in_form_if form None again = tt
in_form_if form (Some second) again = in_form form second again

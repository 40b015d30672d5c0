-- Literal texts and their seconds.
use Rattle.std.specs.Prelude.{◌≡◌, [], ◌∷◌, map, Some, None, codes}
use Rattle.std.proofs.Common.{refl}
use Rattle.jiff_core.specs.Calendar.{days_from_civil, day_count, days_of_years, days_of_months}
use Rattle.date_time.specs.Text.{date_time_text}
use Rattle.date_time.specs.Reading.{two_at, four_at, field_at, behind, behind_letter, date_at, minutes_at, time_at, behind_fraction, span_of, offset_of, on_time_line, second_of}

-- offsets with both signs, a fraction that is dropped, letters of either case, and no offset
seconds : map second_of (codes "1970-01-01T01:01:40.500+01:00" ∷ codes "1969-12-31T22:31:40-01:30" ∷ codes "1970-01-01t00:01:40z"
    ∷ codes "1970-01-01T00:01:40" ∷ codes "1970-01-01T00:01:40.123456789Z" ∷ codes "9998-12-31T23:59:59Z" ∷ codes "9999-01-01T00:59:59+01:00" ∷ [])
    ≡ Some 100 ∷ Some 100 ∷ Some 100 ∷ Some 100 ∷ Some 100 ∷ Some 253370764799 ∷ Some 253370764799 ∷ []
unfolding two_at four_at field_at behind behind_letter date_at minutes_at time_at behind_fraction span_of offset_of on_time_line second_of days_from_civil day_count days_of_years days_of_months
seconds = refl

-- a leap day in 2028 and in 2000, and none in 2027 and in 2100
leap_days : map second_of (codes "2028-02-29T00:00:00Z" ∷ codes "2027-02-29T00:00:00Z" ∷ codes "2000-02-29T00:00:00Z" ∷ codes "2100-02-29T00:00:00Z" ∷ codes "1970-02-30T00:00:00Z" ∷ [])
    ≡ Some 1835395200 ∷ None ∷ Some 951782400 ∷ None ∷ None ∷ []
unfolding two_at four_at field_at behind behind_letter date_at minutes_at time_at behind_fraction span_of offset_of on_time_line second_of days_from_civil day_count days_of_years days_of_months
leap_days = refl

-- a fraction of ten digits and one of none, times and offsets past their greatest, a second before the first and one past the last, and what is missing or too much
no_seconds : map second_of (codes "2027-03-01T00:00:00.1234567890Z" ∷ codes "2027-03-01T00:00:00.Z" ∷ codes "2027-03-01T24:00:00Z" ∷ codes "2027-03-01T00:60:00Z" ∷ codes "2027-03-01T00:00:60Z"
    ∷ codes "2027-03-01T00:00:00+24:00" ∷ codes "2027-03-01T00:00:00+00:60" ∷ codes "1969-12-31T23:59:59Z" ∷ codes "9999-01-01T00:00:00Z" ∷ codes "2027-03-01" ∷ codes "2027-03-01 00:00:00Z"
    ∷ codes "2027-03-01T00:00:00+0000" ∷ codes "2027-03-01T00:00:00Z " ∷ codes "2027-3-01T00:00:00Z" ∷ [])
    ≡ None ∷ None ∷ None ∷ None ∷ None ∷ None ∷ None ∷ None ∷ None ∷ None ∷ None ∷ None ∷ None ∷ None ∷ []
unfolding two_at four_at field_at behind behind_letter date_at minutes_at time_at behind_fraction span_of offset_of on_time_line second_of days_from_civil day_count days_of_years days_of_months
no_seconds = refl

spelled : map (λ year. date_time_text year 3 1 9 5 0) (2027 ∷ 7 ∷ []) ≡ codes "2027-03-01T09:05:00Z" ∷ codes "0007-03-01T09:05:00Z" ∷ []
spelled = refl

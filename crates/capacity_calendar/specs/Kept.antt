-- How the bookings are kept: by the number of the record.
use Rattle.std.specs.Prelude.{◌≡◌, ℕ, suc, List, [], ◌∷◌, Option, Some, None}
use Rattle.capacity_calendar.specs.declared.booking.Booking.{Booking}

-- the bookings that are there, in order
abbrev pub present : List (Option Booking) → List Booking
present [] = []
present (None ∷ os) = present os
present (Some b ∷ os) = b ∷ present os

-- Each booking stands at the number of its record, where the first place has this number.
abbrev pub IsNumbered : ℕ → List (Option Booking) → Type 0
IsNumbered i [] = Unit {0}
IsNumbered i (None ∷ os) = IsNumbered (suc i) os
IsNumbered i (Some b ∷ os) = (b.number ≡ i) × IsNumbered (suc i) os

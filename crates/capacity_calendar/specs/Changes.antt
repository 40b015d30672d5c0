-- What comes to a record's booking, or goes from it.
use Rattle.std.specs.Prelude.{◌≡◌, ◌≤◌, ℕ, ◌∷◌, List, if◌then◌else◌, Option, Some, None}
use Rattle.nsi_base.specs.declared.flow.Flow.{Flow}
use Rattle.capacity_calendar.specs.declared.booking.Booking.{Booking}
use Rattle.capacity_calendar.specs.declared.booking.Capacity.{Capacity}
use Rattle.capacity_calendar.specs.declared.booking.Change.{Change}
use Rattle.capacity_calendar.specs.declared.booking.Slot.{Slot}
use Rattle.capacity_calendar.specs.Load.{load, others}
use Rattle.capacity_calendar.specs.Places.{capacity_at}

-- a booking with one slot, or with two
abbrev pub booking_with : ℕ → (other slot : Option Slot) → Booking
booking_with number other slot = record { number = number; committed = other; pending = slot }

abbrev pub before : Change → Booking
before c = booking_with c.number c.other (if c.comes then None else Some c.slot)

abbrev pub after : Change → Booking
after c = booking_with c.number c.other (if c.comes then Some c.slot else None)

-- all bookings before a change, and after it
abbrev pub all_before : Change → List Booking → List Booking
all_before c bookings = before c ∷ others c.number bookings

abbrev pub all_after : Change → List Booking → List Booking
all_after c bookings = after c ∷ others c.number bookings

-- The loads of a flow stay within the capacities.
abbrev pub IsWithinFlow : List Capacity → Flow → List Booking → Type 0
IsWithinFlow capacities flow bookings = (stp t c : ℕ) → capacity_at capacities stp flow ≡ Some c → load flow stp t bookings ≤ c

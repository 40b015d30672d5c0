-- What is booked at a second.
use Rattle.std.specs.Prelude.{ℕ, ◌==◌, ◌&&◌, Bool, List, not, if◌then◌else◌, max, sum_by, filter, Option, Some, None}
use Rattle.nsi_base.specs.Range.{is_covered}
use Rattle.nsi_base.specs.Flows.{books}
use Rattle.nsi_base.specs.declared.flow.Flow.{Flow}
use Rattle.capacity_calendar.specs.declared.booking.Booking.{Booking}
use Rattle.capacity_calendar.specs.declared.booking.Slot.{Slot}

-- whether a slot is between points and of a direction by which it books a flow of a termination point
abbrev pub books_slot : Flow → ℕ → Slot → Bool
books_slot flow stp slot = books flow slot.both_ways (slot.source == stp) (slot.dest == stp)

-- what a slot takes of a flow of a termination point at a second: its bandwidth, where it books the flow and covers the second
abbrev pub taken : Flow → ℕ → ℕ → Option Slot → ℕ
taken flow stp t None = 0
taken flow stp t (Some slot) = if books_slot flow stp slot && is_covered slot.interval t then slot.mbps else 0

-- the larger of what a committed and a pending slot take
unfoldable pub larger_taken : Flow → ℕ → ℕ → (committed pending : Option Slot) → ℕ
larger_taken flow stp t committed pending = max (taken flow stp t committed) (taken flow stp t pending)

-- what a booking claims of a flow of a termination point at a second
abbrev pub claim : Flow → ℕ → ℕ → Booking → ℕ
claim flow stp t b = larger_taken flow stp t b.committed b.pending

-- the plain sum of what the bookings claim
abbrev pub load : Flow → ℕ → ℕ → List Booking → ℕ
load flow stp t bookings = sum_by (claim flow stp t) bookings

-- the bookings of the other records
abbrev pub others : ℕ → List Booking → List Booking
others number bookings = filter (λ b. not (b.number == number)) bookings

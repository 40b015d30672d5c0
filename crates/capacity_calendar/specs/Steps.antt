-- How many points a check reads.
use Rattle.std.specs.Prelude.{◌≤◌, ◌<◌, ◌↔◌, ℕ, ◌+◌, ◌*◌, ◌^◌, ◌&&◌, Bool, List, Contains, count_by, get_or, length, nat_lt, sum_by, Option, Some, None}
use Rattle.nsi_base.specs.Range.{Span}
use Rattle.nsi_base.specs.declared.flow.Flow.{Flow}
use Rattle.capacity_calendar.specs.declared.booking.Booking.{Booking}
use Rattle.capacity_calendar.specs.declared.booking.Slot.{Slot}
use Rattle.capacity_calendar.specs.Load.{books_slot}
use Rattle.capacity_calendar.specs.Index.{one_if, ends}

-- the points of a flow: the seconds at which slots that book it start or end, each once, in order
pub record ArePoints (flow : Flow) (stp : ℕ) (bookings : List Booking) (seconds : List ℕ) : Type 0 where
  pub order : (i j : ℕ) → i < j → j < length seconds → get_or seconds i 0 < get_or seconds j 0
  pub each : (t : ℕ) → Contains seconds t ↔ (0 < ends flow stp t bookings)

-- whether a second lies behind the start of a span and before its end
abbrev pub is_inside : Span → ℕ → Bool
is_inside span t = nat_lt span.start t && nat_lt t span.end

-- A search by halves among n made these steps, and so many are left to look at.
pub record HasHalved (n left old new : ℕ) : Type 0 where
  pub halvings : ℕ
  pub steps : new ≤ old + halvings
  pub halves : 2 ^ halvings ≤ 2 * n + 1
  pub still : 2 ^ halvings * left ≤ n

-- how many slots book a flow
abbrev pub slot_count : Flow → ℕ → Option Slot → ℕ
slot_count flow stp None = 0
slot_count flow stp (Some slot) = one_if (books_slot flow stp slot)

abbrev pub booking_count : Flow → ℕ → Booking → ℕ
booking_count flow stp b = slot_count flow stp b.committed + slot_count flow stp b.pending

abbrev pub slots : Flow → ℕ → List Booking → ℕ
slots flow stp bookings = sum_by (booking_count flow stp) bookings

-- The steps are those of a search by halves among the points, one for each point inside the span, and two; and there
-- are at most two points for each slot.
pub record IsQuick (flow : Flow) (stp : ℕ) (bookings : List Booking) (span : Span) (old new : ℕ) : Type 0 where
  pub seconds : List ℕ
  pub points : ArePoints flow stp bookings seconds
  pub few : length seconds ≤ 2 * slots flow stp bookings
  pub halvings : ℕ
  pub halves : 2 ^ halvings ≤ 2 * length seconds + 1
  pub steps : new ≤ old + (count_by (is_inside span) seconds + 2 + halvings)

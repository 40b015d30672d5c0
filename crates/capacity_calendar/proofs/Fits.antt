-- Where nothing lacks first, there is room where a connection books.
use Rattle.std.proofs.Common.{◌≡◌, ◌≤◌, ◌+◌, ℕ, Bool, true, eqb, Some, None}
use Rattle.nsi_base.specs.Range.{Span, is_covered}
use Rattle.nsi_base.specs.Flows.{books}
use Rattle.nsi_base.specs.declared.flow.Flow.{Flow}
use Rattle.capacity_calendar.specs.Load.{load, others}
use Rattle.capacity_calendar.specs.Lack.{loads}
use Rattle.capacity_calendar.specs.Plan.{Plan, first_lack}
use Rattle.capacity_calendar.specs.Places.{capacity_at, places}
use Rattle.capacity_calendar.proofs.FirstLack.{room_where_none}
use Rattle.capacity_calendar.proofs.Places.{booked_among_places}

-- what is asked fits where it is booked
pub fits_where_booked : (plan : Plan) (number source dest : ℕ) (both_ways : Bool) (span : Span) (mbps : ℕ) → first_lack plan number source dest both_ways span mbps ≡ None
    → (flow : Flow) (stp t capacity : ℕ) → capacity_at plan.capacities stp flow ≡ Some capacity → books flow both_ways (eqb source stp) (eqb dest stp) ≡ true → is_covered span t ≡ true
    → load flow stp t (others number plan.bookings) + mbps ≤ capacity
fits_where_booked plan number source dest both_ways span mbps h flow stp t capacity e b c =
    room_where_none (loads (others number plan.bookings)) (places plan.capacities source dest both_ways) span mbps h (record { stp = stp; flow = flow; capacity = capacity })
    (booked_among_places plan.capacities source dest both_ways flow stp capacity e b) t c

-- The tables of the flows.
use Rattle.std.specs.Prelude.{◌≡◌, ◌≤◌, ℕ, List}
use Rattle.nsi_base.specs.declared.flow.Flow.{Flow}
use Rattle.nsi_base.specs.declared.flow.Flow.TheVariants.{Both, In, Out}
use Rattle.capacity_calendar.specs.declared.booking.Booking.{Booking}
use Rattle.capacity_calendar.specs.declared.booking.Capacity.{Capacity}
use Rattle.capacity_calendar.specs.declared.tables.Tables.{Tables}
use Rattle.capacity_calendar.specs.Changes.{IsWithinFlow}
use Rattle.capacity_calendar.specs.Index.{Timeline, timeline_at, IsIndexed}

-- that of a flow
abbrev pub table_of : Flow → Tables → List Timeline
table_of Both t = t.both
table_of In t = t.inward
table_of Out t = t.outward

-- what a flow has at a point
abbrev pub line_of : Flow → Tables → ℕ → Timeline
line_of flow tables stp = timeline_at (table_of flow tables) stp

-- Each flow has room at a point for a start and an end.
abbrev pub HasRoomAt : Tables → ℕ → Type 0
HasRoomAt tables stp = (flow : Flow) → 2 ≤ (line_of flow tables stp).room

-- All points stay,
abbrev pub KeepsPoints : (old new : Tables) → Type 0
KeepsPoints old new = (flow : Flow) (stp : ℕ) → (line_of flow new stp).points ≡ (line_of flow old stp).points

-- and all room.
abbrev pub KeepsRoom : (old new : Tables) → Type 0
KeepsRoom old new = (flow : Flow) (stp : ℕ) → (line_of flow old stp).room ≤ (line_of flow new stp).room

-- The tables are an index of these bookings,
abbrev pub AreIndexed : List Capacity → List Booking → Tables → Type 0
AreIndexed capacities bookings tables = (flow : Flow) → IsIndexed capacities flow bookings (table_of flow tables)

-- whose loads stay within the capacities.
abbrev pub StayWithin : List Capacity → List Booking → Type 0
StayWithin capacities bookings = (flow : Flow) → IsWithinFlow capacities flow bookings

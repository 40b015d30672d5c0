-- The points that a criteria books, and what each can carry.
use Rattle.std.specs.Prelude.{ℕ, ◌+◌, ◌==◌, ◌&&◌, Bool, true, false, List, [], ◌∷◌, ◌++◌, if◌then◌else◌, Option, Some, None}
use Rattle.nsi_base.specs.Flows.{books}
use Rattle.nsi_base.specs.declared.flow.Flow.{Flow}
use Rattle.nsi_base.specs.declared.flow.Flow.TheVariants.{Both, In, Out}
use Rattle.capacity_calendar.specs.declared.booking.Capacity.{Capacity}
use Rattle.capacity_calendar.specs.declared.booking.Place.{Place}

-- whether the two are the same flow
abbrev pub is_same_flow : Flow → Flow → Bool
is_same_flow Both Both = true
is_same_flow In In = true
is_same_flow Out Out = true
is_same_flow _ _ = false

-- the capacity of a flow of a termination point, where the point has the flow
abbrev pub capacity_at : List Capacity → ℕ → Flow → Option ℕ
capacity_at [] stp flow = None
capacity_at (c ∷ cs) stp flow = if (c.stp == stp) && is_same_flow c.flow flow then Some c.mbps else capacity_at cs stp flow

-- the place of a flow, where the point has the flow and it is booked
abbrev pub place_if : Option ℕ → ℕ → Flow → Bool → List Place
place_if None stp flow booked = []
place_if (Some capacity) stp flow booked = if booked then record { stp = stp; flow = flow; capacity = capacity } ∷ [] else []

-- the place that a connection books of a flow of a termination point, if it books it
abbrev pub booked_place : List Capacity → (source dest : ℕ) → (both_ways : Bool) → ℕ → Flow → List Place
booked_place capacities source dest both_ways stp flow = place_if (capacity_at capacities stp flow) stp flow (books flow both_ways (source == stp) (dest == stp))

-- the places that a connection books at a termination point: the shared flow, then in, then out
abbrev pub places_at : List Capacity → (source dest : ℕ) → (both_ways : Bool) → ℕ → List Place
places_at capacities source dest both_ways stp =
    booked_place capacities source dest both_ways stp Both ++ (booked_place capacities source dest both_ways stp In ++ booked_place capacities source dest both_ways stp Out)

-- the places that a connection books, those of the source first
unfoldable pub places : List Capacity → (source dest : ℕ) → (both_ways : Bool) → List Place
places capacities source dest both_ways = places_at capacities source dest both_ways source ++ places_at capacities source dest both_ways dest

-- How the capacities are kept: by point, and there by flow.
use Rattle.std.specs.Prelude.{◌≡◌, ◌≤◌, ℕ, List, get_or, Option, None}
use Rattle.nsi_base.specs.declared.flow.Flow.{Flow}
use Rattle.nsi_base.specs.declared.flow.Flow.TheVariants.{Both, In, Out}
use Rattle.capacity_calendar.specs.declared.booking.Capacity.{Capacity}
use Rattle.capacity_calendar.specs.declared.booking.PointCapacities.{PointCapacities}
use Rattle.capacity_calendar.specs.Places.{capacity_at}

-- that of a flow
abbrev pub of_flow : Flow → PointCapacities → Option ℕ
of_flow Both p = p.both
of_flow In p = p.inward
of_flow Out p = p.outward

-- a point without any
abbrev pub nothing : PointCapacities
nothing = record { both = None; inward = None; outward = None }

-- For each flow of each point there is the one that comes first.
abbrev pub AreByPoint : List Capacity → List PointCapacities → Type 0
AreByPoint capacities table = (stp : ℕ) (flow : Flow) → stp ≤ 4095 → of_flow flow (get_or table stp nothing) ≡ capacity_at capacities stp flow

-- What the topology says of a provider's points.
use Rattle.std.specs.Prelude.{◌≡◌, ◌≤◌, ◌<◌, ℕ, Option, Some, None, List, length, slice_get}
use Rattle.nsi_base.specs.declared.flow.Flow.{Flow}
use Rattle.stp_topology.specs.declared.network.Network.{Network}
use Rattle.stp_topology.specs.Network.{owner_of, capacity_of}
use Rattle.capacity_calendar.specs.Places.{capacity_at}
use Rattle.connection_record.specs.declared.record.Record.{Record}
use Rattle.connection_record.specs.Demand.{load}
use Rattle.connection_record.specs.Order.{HasPoints}
use Rattle.provider_agent.specs.Setting.{setting_of}
use Rattle.provider_agent.specs.State.{State}

-- the topology declares the point as the provider's
pub record IsPointOf (t : Network) (provider stp : ℕ) : Type 0 where
  pub within : stp < length t.stps
  pub owner : owner_of t stp ≡ provider

-- A provider's points have the capacities that the topology declares.
abbrev pub HasItsCapacities : Network → ℕ → Type 0
HasItsCapacities t provider =
    (stp : ℕ) (flow : Flow) → IsPointOf t provider stp → capacity_at (setting_of t provider).capacities stp flow ≡ capacity_of t stp flow

-- It has no capacity of any other point.
abbrev pub HasNoOthers : Network → ℕ → Type 0
HasNoOthers t provider = (stp : ℕ) (flow : Flow) → (IsPointOf t provider stp → ⊥) → capacity_at (setting_of t provider).capacities stp flow ≡ None

-- Of each point that the topology declares as the provider's, at every second, the load is within the capacity.
abbrev pub IsWithinTopology : Network → ℕ → State → Type 0
IsWithinTopology t provider s =
    (stp : ℕ) → IsPointOf t provider stp → (flow : Flow) (second capacity : ℕ) → capacity_of t stp flow ≡ Some capacity → load flow stp second s.records ≤ capacity

-- The source and the destination of each record are the points of the names in its service.
abbrev pub HavePoints : (List ℕ → Option ℕ) → List Record → Type 0
HavePoints stp_of records = (n : ℕ) (r : Record) → slice_get records n ≡ Some r → HasPoints stp_of r

-- What the topology says to a provider.
use Rattle.std.specs.Prelude.{ℕ, zero, suc, List, [], ◌∷◌, ◌++◌, ◌==◌, if◌then◌else◌, length, Option, Some, None, option_and_then}
use Rattle.nsi_base.specs.declared.flow.Flow.{Flow}
use Rattle.stp_topology.specs.declared.network.Network.{Network}
use Rattle.stp_topology.specs.declared.network.AgentKind.{AgentKind}
use Rattle.stp_topology.specs.Network.{name_of, kind_of, stp_of, owner_of, capacity_of}
use Rattle.capacity_calendar.specs.declared.booking.Capacity.{Capacity}

-- its name and number, for how many seconds it holds, and what its points can carry
pub record Setting : Type 0 where
  pub name : List ℕ
  pub number : ℕ
  pub hold : ℕ
  pub capacities : List Capacity

-- the capacity of a flow, where the point has the flow
abbrev pub of_flow : ℕ → Flow → Option ℕ → List Capacity
of_flow stp flow None = []
of_flow stp flow (Some mbps) = record { stp = stp; flow = flow; mbps = mbps } ∷ []

-- the capacities of a point
abbrev pub of_point : Network → ℕ → List Capacity
of_point t stp = of_flow stp Flow.Both (capacity_of t stp Flow.Both) ++ (of_flow stp Flow.In (capacity_of t stp Flow.In) ++ of_flow stp Flow.Out (capacity_of t stp Flow.Out))

-- where the point is the provider's
abbrev pub of_own : Network → ℕ → ℕ → List Capacity
of_own t provider stp = if owner_of t stp == provider then of_point t stp else []

-- those of the provider's points among the first ones
unfoldable pub capacities_among : Network → ℕ → ℕ → List Capacity
capacities_among t provider zero = []
capacities_among t provider (suc n) = capacities_among t provider n ++ of_own t provider n

-- for how many seconds a provider holds
abbrev pub hold_in : Option AgentKind → ℕ
hold_in (Some (AgentKind.Provider hold)) = hold
hold_in _ = 0

abbrev pub setting_of : Network → ℕ → Setting
setting_of t provider =
    record { name = name_of t provider; number = provider; hold = hold_in (kind_of t provider); capacities = capacities_among t provider (length t.stps) }

-- the point, where the agent has it
abbrev pub own_if : Network → ℕ → ℕ → Option ℕ
own_if t provider stp = if owner_of t stp == provider then Some stp else None

-- the agent's point of that name
abbrev pub own_stp : Network → ℕ → List ℕ → Option ℕ
own_stp t provider name = option_and_then (own_if t provider) (stp_of t name)

-- What a topology declares, and what can be asked of it.
pub use Rattle.stp_topology.specs.declared.network.Network.{Network}
pub use Rattle.stp_topology.specs.declared.network.AgentKind.{AgentKind}
use Rattle.stp_topology.specs.declared.network.AgentKind.TheVariants.{Provider}
use Rattle.stp_topology.specs.declared.network.PointCapacity.{PointCapacity}
use Rattle.stp_topology.specs.declared.network.PointCapacity.TheVariants.{Shared, Each}
use Rattle.std.specs.Prelude.{ℕ, ◌/◌, List, [], Bool, true, false, Option, Some, None, is_some, option_and_then, slice_get, get_or, count_by}
use Rattle.std.specs.List.{position_from}
use Rattle.nsi_base.specs.declared.flow.Flow.{Flow}
use Rattle.nsi_base.specs.declared.flow.Flow.TheVariants as flows
use Rattle.stp_topology.specs.Names.{place_of}
use Rattle.stp_topology.specs.Children.{children_in}

-- no agent, no point, no child
abbrev pub nothing : Network
nothing = record { agents = []; kinds = []; stps = []; owners = []; capacities = []; partners = []; children = [] }

-- the agent of that name
abbrev pub agent_of : Network → List ℕ → Option ℕ
agent_of t name = place_of t.agents name

-- the point of that name
abbrev pub stp_of : Network → List ℕ → Option ℕ
stp_of t name = place_of t.stps name

-- the name of an agent
abbrev pub name_of : Network → ℕ → List ℕ
name_of t a = get_or t.agents a []

-- the name of a point
abbrev pub stp_name_of : Network → ℕ → List ℕ
stp_name_of t s = get_or t.stps s []

-- what an agent is, where there is such an agent
abbrev pub kind_of : Network → ℕ → Option AgentKind
kind_of t a = slice_get t.kinds a

-- the provider that has the point
abbrev pub owner_of : Network → ℕ → ℕ
owner_of t s = get_or t.owners s 0

-- how much a point carries of a flow: one for both directions together, or one for each alone
abbrev pub carried : Flow → PointCapacity → Option ℕ
carried flows.Both (Shared mbps) = Some mbps
carried flows.In (Each inward outward) = Some inward
carried flows.Out (Each inward outward) = Some outward
carried flow capacity = None

-- the capacity of a point for a flow, where it has the flow
abbrev pub capacity_of : Network → ℕ → Flow → Option ℕ
capacity_of t s flow = option_and_then (carried flow) (slice_get t.capacities s)

-- the point that a point is joined with
abbrev pub partner_of : Network → ℕ → Option ℕ
partner_of t s = get_or t.partners s None

-- how many pairs of points are joined
abbrev pub sdps_of : Network → ℕ
sdps_of t = count_by is_some t.partners / 2

-- the children of an agent, in the order of their lines
abbrev pub children_of : Network → ℕ → List ℕ
children_of t a = children_in t.children a

abbrev pub is_provider : AgentKind → Bool
is_provider (Provider hold) = true
is_provider kind = false

-- the first agent that is a provider
abbrev pub first_provider : Network → Option ℕ
first_provider t = position_from is_provider 0 t.kinds

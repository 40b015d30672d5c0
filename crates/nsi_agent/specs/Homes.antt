-- What the topology says to an agent of any kind.
use Rattle.std.specs.Prelude.{ℕ, List, Option, Some}
use Rattle.stp_topology.specs.declared.network.Network.{Network}
use Rattle.stp_topology.specs.declared.network.AgentKind.{AgentKind}
use Rattle.stp_topology.specs.Network.{name_of, kind_of, agent_of}
use Rattle.agent_state.specs.declared.parent.Leg.{Leg}
use Rattle.provider_agent.specs.Setting.{Setting as ProviderSetting, setting_of as provider_of, own_stp}
use Rattle.aggregator_agent.specs.Setting.{Setting as AggregatorSetting, setting_of as aggregator_of, agent_in, IsRoute}
use Rattle.requester_agent.specs.Setting.{Setting as RequesterSetting, setting_of as requester_of}

-- what it says to a provider, with the points that are its own by their names; to an aggregator; to a requester
pub data Role : Type 0 where
  provides : ProviderSetting → (List ℕ → Option ℕ) → Role
  aggregates : AggregatorSetting → Role
  requests : RequesterSetting → Role

-- its name and number, the numbers of all agents by their names, and what is said to its kind
pub record Home : Type 0 where
  pub number : ℕ
  pub name : List ℕ
  pub agent_of : List ℕ → Option ℕ
  pub role : Role

-- the legs of the ways of each agent between any two points
abbrev pub Routes : Type 0
Routes = ℕ → ℕ → ℕ → List Leg

-- they are those of the least paths of the topology
abbrev pub AreRoutes : Network → Routes → Type 0
AreRoutes t routes = (a : ℕ) → IsRoute t a (routes a)

abbrev pub role_in : Option AgentKind → Network → Routes → ℕ → Role
role_in (Some (AgentKind.Provider hold)) t routes a = provides (provider_of t a) (own_stp t a)
role_in (Some (AgentKind.Requester provider)) t routes a = requests (requester_of t a)
role_in _ t routes a = aggregates (aggregator_of t (agent_in t a) (routes a))

-- what the topology says to the agent with this number
unfoldable pub home_in : Network → Routes → ℕ → Home
home_in t routes a = record { number = a; name = name_of t a; agent_of = agent_of t; role = role_in (kind_of t a) t routes a }

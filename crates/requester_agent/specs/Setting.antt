-- What the topology says to a requester.
use Rattle.std.specs.Prelude.{◌≡◌, ℕ, List, [], Option, Some}
use Rattle.stp_topology.specs.declared.network.Network.{Network}
use Rattle.stp_topology.specs.declared.network.AgentKind.{AgentKind}
use Rattle.stp_topology.specs.Network.{name_of, kind_of}

-- its name and number, and the agent that it asks
pub record Setting : Type 0 where
  pub name : List ℕ
  pub number : ℕ
  pub provider : List ℕ

-- the agent is a requester
abbrev pub IsRequester : Network → ℕ → Type 0
IsRequester t a = (provider : ℕ) × (kind_of t a ≡ Some (AgentKind.Requester provider))

-- the name of the agent that a requester asks
abbrev pub asked_by : Network → Option AgentKind → List ℕ
asked_by t (Some (AgentKind.Requester provider)) = name_of t provider
asked_by t _ = []

abbrev pub setting_of : Network → ℕ → Setting
setting_of t a = record { name = name_of t a; number = a; provider = asked_by t (kind_of t a) }

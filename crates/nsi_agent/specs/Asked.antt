-- Whom an agent asks in a topology.
use Rattle.std.specs.Prelude.{◌≡◌, ◌⊎◌, ℕ, Some}
use Rattle.std.specs.List.{Contains}
use Rattle.stp_topology.specs.declared.network.AgentKind.{AgentKind}
use Rattle.stp_topology.specs.declared.network.Network.{Network}
use Rattle.stp_topology.specs.Network.{kind_of, children_of}

-- an agent of the topology asks another one: a requester its provider, an aggregator its children
abbrev pub IsAskedBy : Network → (a b : ℕ) → Type 0
IsAskedBy t a b = (kind_of t a ≡ Some (AgentKind.Requester b)) ⊎ Contains (children_of t a) b

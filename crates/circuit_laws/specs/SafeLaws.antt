-- Every run is safe.
use Rattle.std.specs.Prelude.{List, []}
use Rattle.nsi_primitive.specs.declared.entry.Event.{Event}
use Rattle.stp_topology.specs.Laws.{IsWellFormed}
use Rattle.stp_topology.specs.Sound.{IsSound}
use Rattle.stp_topology.specs.declared.network.Network.{Network}
use Rattle.nsi_agent.specs.Homes.{Routes, AreRoutes, home_in}
use Rattle.nsi_world.specs.Runs.{IsRun}
use Rattle.circuit_laws.specs.Safe.{IsSafeRun}

-- in a topology that a text gives, whatever is lost, comes twice or comes late, and whoever begins again from what was synced
abbrev pub EveryRunIsSafe : Type 0
EveryRunIsSafe = (t : Network) (routes : Routes) (events : List Event) → IsSound t → IsWellFormed t → AreRoutes t routes → IsRun (home_in t routes) events → IsSafeRun t routes events

-- no events are a safe run, whatever the topology is
abbrev pub NothingIsSafe : Type 0
NothingIsSafe = (t : Network) (routes : Routes) → IsSafeRun t routes []

-- The laws of how far reserves come.
use Rattle.std.specs.Prelude.{◌≡◌, ◌+◌, sum_by}
use Rattle.stp_topology.specs.Laws.{IsWellFormed}
use Rattle.stp_topology.specs.Sound.{IsSound}
use Rattle.stp_topology.specs.declared.network.Network.{Network}
use Rattle.agent_state.specs.declared.parent.Leg.{Leg}
use Rattle.nsi_agent.specs.Homes.{Routes, AreRoutes}
use Rattle.way_reach.specs.Reach.{reach, legs_below}

-- a leg comes to one agent, and to those to which the legs come that this agent makes of it, however deep it stands
abbrev pub ReachIsASum : Type 0
ReachIsASum = (t : Network) (routes : Routes) (leg : Leg) → IsSound t → IsWellFormed t → AreRoutes t routes → reach t routes leg ≡ 1 + sum_by (reach t routes) (legs_below t routes leg)

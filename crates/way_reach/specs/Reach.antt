-- How many agents a reserve between two points comes to.
use Rattle.std.specs.Prelude.{ℕ, zero, suc, ◌+◌, List, [], Option, Some, sum_by}
use Rattle.stp_topology.specs.declared.network.Network.{Network}
use Rattle.stp_topology.specs.Network.{agent_of, stp_of}
use Rattle.path_segments.specs.Paths.{greatest_rank}
use Rattle.agent_state.specs.declared.parent.Leg.{Leg}
use Rattle.nsi_agent.specs.Homes.{Routes}

-- the legs of an agent's way between two points: none where the agent is a provider, has no path, or a name is of nobody
abbrev pub legs_of_way : Routes → (agent source dest : Option ℕ) → List Leg
legs_of_way routes (Some a) (Some source) (Some dest) = routes a source dest
legs_of_way routes _ _ _ = []

-- the legs that the agent to which a leg leads makes of it
unfoldable pub legs_below : Network → Routes → Leg → List Leg
legs_below t routes leg = legs_of_way routes (agent_of t leg.child) (stp_of t leg.source) (stp_of t leg.dest)

-- how many agents a reserve along a leg comes to: the one to which the leg leads, and those to which the legs lead that it makes of it; where so
-- many aggregators at most stand one below the other
unfoldable pub reach_to : (levels : ℕ) → Network → Routes → Leg → ℕ
reach_to zero t routes leg = 1
reach_to (suc levels) t routes leg = 1 + sum_by (reach_to levels t routes) (legs_below t routes leg)

abbrev pub reach : Network → Routes → Leg → ℕ
reach t routes leg = reach_to greatest_rank t routes leg

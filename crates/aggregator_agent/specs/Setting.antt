-- What the topology says to an aggregator.
use Rattle.std.specs.Prelude.{◌≡◌, ℕ, List, [], map, Option}
use Rattle.stp_topology.specs.declared.network.Network.{Network}
use Rattle.stp_topology.specs.Network.{name_of, stp_of, stp_name_of}
use Rattle.path_segments.specs.declared.path.Segment.{Segment}
use Rattle.path_segments.specs.Paths.{IsPath, IsLeastPath}
use Rattle.agent_state.specs.declared.parent.Leg.{Leg}
use Rattle.agent_state.specs.State.{AgentState}
use Rattle.aggregator_agent.specs.declared.agent.Agent.{Agent}

-- its name and number, the points that it knows by name, and the legs of the way between two points
pub record Setting : Type 0 where
  pub agent : Agent
  pub stp_of : List ℕ → Option ℕ
  pub route : ℕ → ℕ → List Leg

-- an aggregator as its contracts see it
pub record Standing : Type 0 where
  pub agent : Agent
  pub state : AgentState

-- the segment by the names of the child and of both points
abbrev pub leg_of : Network → Segment → Leg
leg_of t x = record { child = name_of t x.child; source = stp_name_of t x.entry; dest = stp_name_of t x.exit }

unfoldable pub legs_of : Network → List Segment → List Leg
legs_of t xs = map (leg_of t) xs

-- the legs are those of the least path between the points, and there are none exactly where there is no path
pub record AreLegs (t : Network) (aggregator source dest : ℕ) (legs : List Leg) : Type 0 where
  pub least : (xs : List Segment) → IsLeastPath t aggregator source dest xs → legs ≡ legs_of t xs
  pub none : ((xs : List Segment) → IsPath t aggregator source dest xs → ⊥) → legs ≡ []

-- a function that gives the legs of the least path between any two points
abbrev pub IsRoute : Network → ℕ → (ℕ → ℕ → List Leg) → Type 0
IsRoute t aggregator route = (source dest : ℕ) → AreLegs t aggregator source dest (route source dest)

abbrev pub agent_in : Network → ℕ → Agent
agent_in t aggregator = record { name = name_of t aggregator; number = aggregator }

-- an aggregator knows every point of the topology
abbrev pub setting_of : Network → Agent → (ℕ → ℕ → List Leg) → Setting
setting_of t agent route = record { agent = agent; stp_of = stp_of t; route = route }

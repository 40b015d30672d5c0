-- The laws of least paths and of their legs.
use Rattle.std.specs.Prelude.{◌≡◌, ℕ, ◌⊎◌, List}
use Rattle.stp_topology.specs.declared.network.Network.{Network}
use Rattle.path_segments.specs.declared.path.Segment.{Segment}
use Rattle.path_segments.specs.Paths.{IsPath, IsLeastPath}
use Rattle.nsi_agent.specs.Homes.{Routes, AreRoutes}

-- between two points there is a least path, or no path
abbrev pub LeastPathOrNone : Type 0
LeastPathOrNone = (t : Network) (aggregator source dest : ℕ) → ((xs : List Segment) × IsLeastPath t aggregator source dest xs) ⊎ ((xs : List Segment) → IsPath t aggregator source dest xs → ⊥)

-- each topology has the legs of its least paths, whatever it declares
abbrev pub RoutesExist : Type 0
RoutesExist = (t : Network) → (routes : Routes) × AreRoutes t routes

-- two functions that give them give the same legs everywhere
abbrev pub RoutesAreOne : Type 0
RoutesAreOne = (t : Network) (one other : Routes) → AreRoutes t one → AreRoutes t other → (agent source dest : ℕ) → other agent source dest ≡ one agent source dest

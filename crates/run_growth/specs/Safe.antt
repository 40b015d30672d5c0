-- When a run is safe at each agent.
use Rattle.std.specs.Prelude.{◌≡◌, ◌++◌, List}
use Rattle.nsi_primitive.specs.declared.entry.Event.{Event}
use Rattle.stp_topology.specs.declared.network.Network.{Network}
use Rattle.nsi_agent.specs.Homes.{Routes, home_in}
use Rattle.nsi_world.specs.Worlds.{World, empty}
use Rattle.nsi_world.specs.Runs.{world_after}
use Rattle.run_growth.specs.Kept.{IsCappedIn, IsHonestIn, RefusesAloneIn, IsRisingIn, StaysIn}

-- in the world after each front of the events
abbrev pub InEachWorld : List Event → (World → Type 0) → Type 0
InEachWorld events Holds = (earlier later : List Event) → events ≡ earlier ++ later → Holds (world_after empty earlier)

-- between each of these worlds and each later one
abbrev pub FromEachWorld : List Event → (World → World → Type 0) → Type 0
FromEachWorld events Holds =
    (earlier middle later : List Event) → events ≡ (earlier ++ middle) ++ later → Holds (world_after empty earlier) (world_after empty (earlier ++ middle))

-- In each world of the run, whatever a crash leaves of an agent then: no load passes a capacity, and committed versions rise. What is synced
-- stays in every later world. Each refusal for bandwidth, and each confirmation, is as it should be. It says nothing of two agents together:
-- that what a parent holds for committed is committed by its child is no part of it.
pub record IsSafeAtEachAgent (t : Network) (routes : Routes) (events : List Event) : Type 0 where
  pub capped : InEachWorld events (IsCappedIn t routes)
  pub rising : InEachWorld events (IsRisingIn (home_in t routes))
  pub stays : FromEachWorld events (StaysIn (home_in t routes))
  pub honest : InEachWorld events (IsHonestIn t routes)
  pub alone : InEachWorld events (RefusesAloneIn t routes)

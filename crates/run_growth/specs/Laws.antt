-- What each agent keeps in every run: whatever is lost, comes twice or comes late, and whoever begins again from what was synced.
use Rattle.std.specs.Prelude.{◌++◌, List}
use Rattle.nsi_primitive.specs.declared.entry.Event.{Event}
use Rattle.stp_topology.specs.declared.network.Network.{Network}
use Rattle.nsi_agent.specs.Homes.{Routes, home_in}
use Rattle.nsi_world.specs.Worlds.{Homes, empty}
use Rattle.nsi_world.specs.Runs.{world_after, AreAllowed}
use Rattle.run_growth.specs.Kept.{IsCappedIn, IsHonestIn, RefusesAloneIn, IsRisingIn, StaysIn}

-- no load passes a declared capacity
abbrev pub RunsAreCapped : Type 0
RunsAreCapped = (t : Network) (routes : Routes) (events : List Event) → AreAllowed (home_in t routes) empty events → IsCappedIn t routes (world_after empty events)

-- work on a reserve that is checked says what it should
abbrev pub RunsAreHonest : Type 0
RunsAreHonest = (t : Network) (routes : Routes) (events : List Event) → AreAllowed (home_in t routes) empty events → IsHonestIn t routes (world_after empty events)

-- and nothing else refuses for bandwidth
abbrev pub NothingElseRefuses : Type 0
NothingElseRefuses = (t : Network) (routes : Routes) (events : List Event) → AreAllowed (home_in t routes) empty events → RefusesAloneIn t routes (world_after empty events)

-- committed versions rise, in each record of each agent
abbrev pub RunsAreRising : Type 0
RunsAreRising = (homes : Homes) (events : List Event) → AreAllowed homes empty events → IsRisingIn homes (world_after empty events)

-- what is synced in a world stays in every later one: each record, each view of a label and each view of a child, with all that was committed
abbrev pub SyncedStays : Type 0
SyncedStays =
    (homes : Homes) (earlier later : List Event) → AreAllowed homes empty (earlier ++ later) →
    StaysIn homes (world_after empty earlier) (world_after empty (earlier ++ later))

-- Every run is safe at each agent.
use Rattle.std.specs.Prelude.{◌≤◌, List, length}
use Rattle.std.specs.List.{All}
use Rattle.nsi_primitive.specs.declared.entry.Event.{Event}
use Rattle.stp_topology.specs.Laws.{IsWellFormed}
use Rattle.stp_topology.specs.declared.network.Network.{Network}
use Rattle.agent_state.specs.Entries.{most_entries}
use Rattle.nsi_agent.specs.Homes.{Routes, home_in}
use Rattle.nsi_script.specs.declared.script.Group.{Group}
use Rattle.nsi_script.specs.Fits.{IsActOf, IsRising}
use Rattle.nsi_script.specs.Scripts.{acts_of, seconds_of}
use Rattle.nsi_play.specs.Openings.{Plans, opening}
use Rattle.nsi_play.specs.Play.{IsPlayFrom}
use Rattle.nsi_play.specs.Rounds.{Net}
use Rattle.nsi_world.specs.Worlds.{empty}
use Rattle.nsi_world.specs.Runs.{AreAllowed}
use Rattle.run_growth.specs.Safe.{IsSafeAtEachAgent}

-- whatever is lost, comes twice or comes late, and whoever begins again from what was synced
abbrev pub EveryRunIsSafe : Type 0
EveryRunIsSafe = (t : Network) (routes : Routes) (events : List Event) → AreAllowed (home_in t routes) empty events → IsSafeAtEachAgent t routes events

-- so is the play of a script, whatever is planned for the links
abbrev pub EveryPlayIsSafe : Type 0
EveryPlayIsSafe =
    (t : Network) (routes : Routes) (plans : Plans) (groups : List Group) (events : List Event) (last : Net) → IsWellFormed t → IsRising (seconds_of groups) → All (IsActOf t) (acts_of groups) →
    IsPlayFrom groups (home_in t routes) (opening t plans) events last → length events ≤ most_entries → IsSafeAtEachAgent t routes events

-- The laws of weights.
use Rattle.std.specs.Prelude.{◌≤◌, ◌<◌, ◌+◌, ◌++◌, ℕ, List, length}
use Rattle.std.specs.List.{All}
use Rattle.nsi_primitive.specs.declared.entry.Event.{Event}
use Rattle.stp_topology.specs.Laws.{IsWellFormed}
use Rattle.stp_topology.specs.Sound.{IsSound}
use Rattle.stp_topology.specs.declared.network.Network.{Network}
use Rattle.agent_state.specs.Entries.{most_entries}
use Rattle.nsi_agent.specs.Homes.{Routes, AreRoutes, home_in}
use Rattle.nsi_script.specs.declared.script.Group.{Group}
use Rattle.nsi_script.specs.Fits.{IsActOf, IsRising}
use Rattle.nsi_script.specs.Scripts.{acts_of, seconds_of}
use Rattle.agent_node.specs.Openings.{agents}
use Rattle.nsi_play.specs.Openings.{Plans, opening}
use Rattle.nsi_play.specs.Play.{plays, PassesFrom}
use Rattle.stopped_play.specs.Tapes.{Stops}
use Rattle.stopped_play.specs.Counts.{restarts_in, all_stops}
use Rattle.stopped_play.specs.Laws.{played}
use Rattle.due_events.specs.Counts.{script_restarts}
use Rattle.run_weight.specs.Weight.{weight}

-- these groups are played in a topology that a text gives, over these legs
pub record IsPlayable (t : Network) (routes : Routes) (script : List Group) : Type 0 where
  pub sound : IsSound t
  pub formed : IsWellFormed t
  pub routed : AreRoutes t routes
  pub rising : IsRising (seconds_of script)
  pub acts : All (IsActOf t) (acts_of script)

-- no play in which disks stop has more events than the weight, with as many restarts as it has
abbrev pub StoppedPlaysSettle : Type 0
StoppedPlaysSettle =
    (t : Network) (routes : Routes) (plans : Plans) (stops : Stops) (script : List Group) → IsPlayable t routes script →
    let events : List Event = (played t routes plans stops script).events in
    weight t routes script (restarts_in events) ≤ most_entries → length events ≤ weight t routes script (restarts_in events)

-- nor has one of a play in which none stops, with the restarts of its script
abbrev pub PlaysSettle : Type 0
PlaysSettle =
    (t : Network) (routes : Routes) (plans : Plans) (rounds : ℕ) (script : List Group) → IsPlayable t routes script → weight t routes script (script_restarts script) ≤ most_entries →
    length (plays rounds script 0 (home_in t routes) (opening t plans)).events ≤ weight t routes script (script_restarts script)

-- So a limit that some first groups of a script pass is below the weight of the whole, with as many restarts as the script has and disks stop.
abbrev pub StoppedLongIsOver : Type 0
StoppedLongIsOver =
    (t : Network) (routes : Routes) (plans : Plans) (stops : Stops) (limit most : ℕ) (part rest : List Group) → IsPlayable t routes part → limit ≤ most_entries → all_stops (agents t) stops ≤ most →
    limit < length (played t routes plans stops part).events → limit < weight t routes (part ++ rest) (script_restarts (part ++ rest) + most)

-- and where none stops it is below that with the restarts of the script
abbrev pub LongIsOver : Type 0
LongIsOver =
    (t : Network) (routes : Routes) (plans : Plans) (limit : ℕ) (part rest : List Group) → IsPlayable t routes part → limit ≤ most_entries → PassesFrom limit part (home_in t routes) (opening t plans) →
    limit < weight t routes (part ++ rest) (script_restarts (part ++ rest))

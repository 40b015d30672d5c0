-- The laws of plays in which disks stop, whichever stop, whatever they keep and however often they stop again while they are read.
use Rattle.std.specs.Prelude.{◌≡◌, ◌≤◌, ◌<◌, ℕ, List, length}
use Rattle.std.specs.List.{All}
use Rattle.nsi_primitive.specs.declared.entry.Event.{Event}
use Rattle.stp_topology.specs.Laws.{IsWellFormed}
use Rattle.stp_topology.specs.Sound.{IsSound}
use Rattle.stp_topology.specs.declared.network.Network.{Network}
use Rattle.agent_state.specs.Entries.{most_entries}
use Rattle.nsi_agent.specs.Homes.{Routes, AreRoutes, home_in}
use Rattle.nsi_script.specs.declared.script.Act.{Act}
use Rattle.nsi_script.specs.declared.script.Group.{Group}
use Rattle.nsi_script.specs.Fits.{IsActOf, IsRising}
use Rattle.nsi_script.specs.Scripts.{acts_of, seconds_of}
use Rattle.nsi_play.specs.Openings.{Plans, opening}
use Rattle.nsi_play.specs.Rounds.{Net, Homes, round, events_of, emptied}
use Rattle.nsi_play.specs.Play.{Played, plays, IsPlayFrom}
use Rattle.nsi_world.specs.Nets.{numbers, IsTold}
use Rattle.nsi_world.specs.Worlds.{empty}
use Rattle.nsi_world.specs.Runs.{IsRun, world_after, asks_of, numbered}
use Rattle.nsi_world.specs.Rest.{IsAtRest}
use Rattle.nsi_world.specs.Scripts.{wishes_of}
use Rattle.nsi_world.specs.Laws.{StandInTheEnd}
use Rattle.settled_play.specs.Settled.{LeavesOnlyLost}
use Rattle.quiet_rounds.specs.Bounded.{IsBounded}
use Rattle.stopped_play.specs.Tapes.{Cuts, Stops, copies, calm, calm_stops}
use Rattle.stopped_play.specs.Rounds.{round_by, reopens}
use Rattle.stopped_play.specs.Play.{acted_by, plays_by, plays_from, IsPlayBy}
use Rattle.stopped_play.specs.Coming.{behind_cuts, events_by, IsWhole}
use Rattle.stopped_play.specs.Counts.{restarts_in, stops_among}

---- Where no disk stops

-- rounds in which no disk stops are those of the play
abbrev pub CalmTapes : Type 0
CalmTapes = (most : ℕ) (script : List Group) (count : ℕ) (homes : Homes) (net : Net) → plays_by (copies (length script) (calm most)) script count homes net ≡ plays most script count homes net

-- so a play in which no disk stops is one, and each has as many calm rounds as it takes
abbrev pub CalmPlays : Type 0
CalmPlays =
    (script : List Group) (homes : Homes) (net : Net) (events : List Event) (last : Net) → IsPlayFrom script homes net events last
    → (most : ℕ) × IsPlayBy (calm_stops (length script) most) script homes net events last

---- Wherever disks stop

-- what the script makes of the topology, or a front of it
abbrev pub played : Network → Routes → Plans → Stops → List Group → Played
played t routes plans stops script = plays_from stops script (home_in t routes) (opening t plans)

-- each front of such a play of no more events than an agent takes entries is a run
abbrev pub StoppedPlayRuns : Type 0
StoppedPlayRuns =
    (t : Network) (routes : Routes) (plans : Plans) (stops : Stops) (script : List Group) → IsWellFormed t → IsRising (seconds_of script) → All (IsActOf t) (acts_of script) →
    length (played t routes plans stops script).events ≤ most_entries → IsRun (home_in t routes) (played t routes plans stops script).events

-- its events are allowed, but that there may be no room, and the agents at its end stand as they should in the world that these make
abbrev pub StoppedPlayStands : Type 0
StoppedPlayStands =
    (t : Network) (routes : Routes) (plans : Plans) (stops : Stops) (script : List Group) (events : List Event) (last : Net) → IsWellFormed t → IsRising (seconds_of script) →
    All (IsActOf t) (acts_of script) → IsPlayBy stops script (home_in t routes) (opening t plans) events last → StandInTheEnd t routes events last

-- each agent has nothing to do at its end
abbrev pub StoppedPlayRests : Type 0
StoppedPlayRests =
    (t : Network) (routes : Routes) (plans : Plans) (stops : Stops) (script : List Group) (events : List Event) (last : Net) → IsWellFormed t → IsRising (seconds_of script) →
    All (IsActOf t) (acts_of script) → IsPlayBy stops script (home_in t routes) (opening t plans) events last → (a : ℕ) → a < length t.agents → IsAtRest (home_in t routes) (world_after empty events) a

-- it asks the whole script, in order; an ask whose entry is gone was asked all the same
abbrev pub StoppedPlayAsks : Type 0
StoppedPlayAsks =
    (t : Network) (routes : Routes) (plans : Plans) (stops : Stops) (script : List Group) (events : List Event) (last : Net) → IsWellFormed t → IsRising (seconds_of script) →
    All (IsActOf t) (acts_of script) → IsPlayBy stops script (home_in t routes) (opening t plans) events last → asks_of events ≡ numbered 0 (wishes_of script)

-- it leaves open no more than lines of the script lose, but of an agent to one that has restarted since the one has last ticked or restarted
abbrev pub StoppedPlaySettles : Type 0
StoppedPlaySettles =
    (t : Network) (routes : Routes) (plans : Plans) (stops : Stops) (script : List Group) (events : List Event) (last : Net) → IsSound t → IsWellFormed t → AreRoutes t routes →
    IsRising (seconds_of script) → All (IsActOf t) (acts_of script) → IsPlayBy stops script (home_in t routes) (opening t plans) events last →
    LeavesOnlyLost t (home_in t routes) plans events

---- Rounds

-- an act, a round and its restarts keep a net bounded
pub record StaysBoundedBy (homes : Homes) (net : Net) : Type 0 where
  pub acts : (act : Act) (tries count : ℕ) → IsBounded (acted_by act tries count homes net)
  pub round : (cuts : Cuts) → IsBounded (round_by cuts homes net)
  pub restarts : (cuts : Cuts) → IsBounded (reopens cuts homes net)
  pub behind : (cuts : Cuts) → IsBounded (behind_cuts cuts homes net)

abbrev pub CutsKeepBounds : Type 0
CutsKeepBounds = (homes : Homes) (net : Net) → IsBounded net → StaysBoundedBy homes net

-- where no agent of the net is cut, a round is that of nsi_play
abbrev pub NoCutIsARound : Type 0
NoCutIsARound =
    (cuts : Cuts) (homes : Homes) (net : Net) → All (IsWhole cuts) net → (events_by cuts homes net ≡ events_of (round homes net)) × (behind_cuts cuts homes net ≡ emptied (round homes net))

-- a round has no more restarts than stops of its agents' disks
abbrev pub RestartsAreStops : Type 0
RestartsAreStops = (cuts : Cuts) (homes : Homes) (net : Net) → All IsTold net → restarts_in (events_by cuts homes net) ≤ stops_among cuts (numbers net)

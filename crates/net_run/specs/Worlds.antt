-- What a run of a whole net writes. It is the text of a play in which disks stop as some tapes say, where the shelf tells what it holds; and
-- that of the play of the script where none has stopped, and the shelf tells what it holds or the script restarts nobody.
use Rattle.std.specs.Prelude.{ℕ, ◌≤◌, ◌<◌, ◌+◌, ◌≡◌, ◌⊎◌, List, length, take, Option}
use Rattle.nsi_primitive.specs.declared.entry.Event.{Event}
use Rattle.nsi_disk.specs.ShelfCounts.{Raised}
use Rattle.nsi_outside.specs.Stream.{WritesAll, WritesFront}
use Rattle.stp_topology.specs.declared.network.Network.{Network}
use Rattle.run_totals.specs.Totals.{totals_of}
use Rattle.run_totals.specs.declared.totals.Totals.{Totals}
use Rattle.nsi_script.specs.declared.script.Group.{Group}
use Rattle.nsi_agent.specs.Homes.{Routes, AreRoutes, home_in}
use Rattle.agent_node.specs.Openings.{agents}
use Rattle.nsi_play.specs.Openings.{Plans, opening}
use Rattle.nsi_play.specs.Rounds.{Net}
use Rattle.nsi_play.specs.Play.{IsPlay, Passes}
use Rattle.agent_threads.specs.Reports.{written}
use Rattle.agent_threads.specs.Promise.{NoRestart}
use Rattle.stopped_play.specs.Tapes.{Stops}
use Rattle.stopped_play.specs.Counts.{all_stops}
use Rattle.stopped_play.specs.Play.{plays_from, IsPlayBy}
use Rattle.agent_threads.specs.declared.report.RunOptions.{RunOptions}
use Rattle.net_run.specs.Held.{AreTold, IsShown, HoldsOf}
use Rattle.net_run.specs.Shelves.{HasNoStop}

-- what a shelf holds by names, where it is told
abbrev pub Holds : Type 0
Holds = List ℕ → Option (List ℕ)

-- these are the events of a play of the script in which disks stop no more often than so
abbrev pub IsPlayWithStops : (most : ℕ) → Network → Plans → List Group → List Event → Type 0
IsPlayWithStops most t plans script events =
    (routes : Routes) → AreRoutes t routes → (last : Net) × (stops : Stops) × (all_stops (agents t) stops ≤ most) × IsPlayBy stops script (home_in t routes) (opening t plans) events last

-- some play of the script in which disks stop no more often than so has more events
abbrev pub PassesWithStops : (most limit : ℕ) → Network → Plans → List Group → Type 0
PassesWithStops most limit t plans script =
    (routes : Routes) → AreRoutes t routes → (stops : Stops) × (all_stops (agents t) stops ≤ most) × (limit < length (plays_from stops script (home_in t routes) (opening t plans)).events)

-- These are the events of a play of some groups of a script in which disks stop no more often than the count of the shelf rose, where it tells
-- what it holds. Where no disk has stopped they are those of the play.
pub record PlaysPart (t : Network) (plans : Plans) (holds : Holds) (s r : ℕ) (Calm : Type 0) (whole part : List Group) (events : List Event) : Type 0 where
  pub told : AreTold t holds → (by : ℕ) × Raised s by r × IsPlayWithStops by t plans part events
  pub calm : Calm → IsShown t whole holds → IsPlay t plans part events

-- the same of plays that have more events, in which disks stop no more often than so many lines plan
pub record PartPasses (t : Network) (plans : Plans) (lines : ℕ) (holds : Holds) (s r : ℕ) (Calm : Type 0) (limit : ℕ) (whole part : List Group) : Type 0 where
  pub told : AreTold t holds → (by : ℕ) × Raised s by r × (by ≤ lines) × PassesWithStops by limit t plans part
  pub calm : Calm → IsShown t whole holds → Passes limit t plans part

-- where the shelf told what it held, it holds each agent's journal in the world that these events make
abbrev pub KeepsJournals : Network → (held holds : Holds) → List Event → Type 0
KeepsJournals t held holds events = AreTold t held → HoldsOf t holds events

-- The count of stops of the shelf goes from s to r. What is wanted of the play was written, and these are its numbers.
abbrev pub WritesPlay : Network → RunOptions → Plans → (held holds : Holds) → (s r : ℕ) → List Group → Option (List ℕ) → Option (List ℕ) → Totals → Type 0
WritesPlay t options plans held holds s r script old new totals =
    (events : List Event) × PlaysPart t plans held s r (HasNoStop s r ⊎ NoRestart events) script script events × KeepsJournals t held holds events × (totals ≡ totals_of t events) × (length events ≤ options.limit)
    × WritesAll old new (written options.report t events)

abbrev pub WritesTooLong : Network → RunOptions → Plans → (lines : ℕ) → Holds → (s r : ℕ) → List Group → Option (List ℕ) → Option (List ℕ) → Type 0
WritesTooLong t options plans lines holds s r script old new =
    (groups : ℕ) × (events : List Event) × PlaysPart t plans holds s r (HasNoStop s r ⊎ NoRestart events) script (take groups script) events × (length events ≤ options.limit)
    × PartPasses t plans lines holds s r (HasNoStop s r) options.limit script (take (groups + 1) script) × WritesAll old new (written options.report t events)

abbrev pub WritesGroups : Network → RunOptions → Plans → Holds → (s r : ℕ) → List Group → Option (List ℕ) → Option (List ℕ) → Type 0
WritesGroups t options plans holds s r script old new =
    (groups : ℕ) × (events : List Event) × PlaysPart t plans holds s r (HasNoStop s r ⊎ NoRestart events) script (take groups script) events × (length events ≤ options.limit) × WritesAll old new (written options.report t events)

abbrev pub WritesSomeOfPlay : Network → RunOptions → Plans → Holds → (s r : ℕ) → List Group → Option (List ℕ) → Option (List ℕ) → Type 0
WritesSomeOfPlay t options plans holds s r script old new =
    (groups : ℕ) × (events : List Event) × PlaysPart t plans holds s r (HasNoStop s r ⊎ NoRestart events) script (take groups script) events × (length events ≤ options.limit) × WritesFront old new (written options.report t events)

-- The play of a script in which disks stop: which run it makes of a topology.
use Rattle.std.specs.Prelude.{ℕ, ◌+◌, ◌≡◌, List, [], ◌∷◌, map, flat_map}
use Rattle.nsi_primitive.specs.declared.entry.Event.{Event}
use Rattle.stp_topology.specs.declared.network.Network.{Network}
use Rattle.nsi_script.specs.declared.script.Act.{Act}
use Rattle.nsi_script.specs.declared.script.Group.{Group}
use Rattle.nsi_agent.specs.Homes.{Home, Routes, AreRoutes, home_in}
use Rattle.agent_node.specs.Seat.{Seat}
use Rattle.agent_node.specs.Restarts.{restart_events, reads_past}
use Rattle.nsi_play.specs.Openings.{Plans, opening}
use Rattle.nsi_play.specs.Rounds.{Net, Homes}
use Rattle.nsi_play.specs.Play.{Played, behind, over, after_round, changes, does, asks_in, asks_among, ticked_in, then_on, ended}
use Rattle.stopped_play.specs.Tapes.{Tape, no_tape, Stops}
use Rattle.stopped_play.specs.Rounds.{settles_by}

---- Acts

-- it reads what is synced, behind so many tries at which its disk stopped
abbrev pub read_again : (tries : ℕ) → Home → Seat → Seat
read_again tries h s = reads_past s.past h tries s

-- an act, where so many asks were made before it
abbrev pub does_by : Act → (tries count : ℕ) → Homes → Seat → Seat
does_by (Act.Restart a) tries count homes s = changes a (read_again tries (homes a)) s
does_by act tries count homes s = does act count homes s

abbrev pub acted_by : Act → (tries count : ℕ) → Homes → Net → Net
acted_by act tries count homes net = map (does_by act tries count homes) net

-- acts one after another; where no number is told no disk stopped
unfoldable pub acts_by : List Act → List ℕ → (count : ℕ) → Homes → Net → Played
acts_by [] tries count homes net = over net
acts_by (a ∷ rest) [] count homes net = after_round (acted_by a 0 count homes net) (acts_by rest [] (count + asks_in a) homes)
acts_by (a ∷ rest) (n ∷ ns) count homes net = after_round (acted_by a n count homes net) (acts_by rest ns (count + asks_in a) homes)

---- Groups

-- the tick of each agent, and then the acts
unfoldable pub begins_by : Tape → Group → (count : ℕ) → Homes → Net → Played
begins_by tape g count homes net = after_round (map (ticked_in g.at homes) net) (acts_by g.acts tape.acts count homes)

-- a group: ticks, acts, and rounds until all are quiet
unfoldable pub group_by : Tape → Group → (count : ℕ) → Homes → Net → Played
group_by tape g count homes net = behind (begins_by tape g count homes net).events (settles_by tape.rounds homes (begins_by tape g count homes net).net)

-- Groups one after another. Where the tapes aren't long enough it is a front of the play.
unfoldable pub plays_by : List Tape → List Group → (count : ℕ) → Homes → Net → Played
plays_by tapes [] count homes net = over net
plays_by [] (g ∷ gs) count homes net = then_on (group_by no_tape g count homes net) (plays_by [] gs (count + asks_among g.acts) homes)
plays_by (t ∷ ts) (g ∷ gs) count homes net = then_on (group_by t g count homes net) (plays_by ts gs (count + asks_among g.acts) homes)

---- The play

-- each time that a journal was made anew is one Restart with no entry
abbrev pub remade_at : (ℕ → ℕ) → Seat → List Event
remade_at making s = restart_events (making s.number) s.number 0

abbrev pub remade : (ℕ → ℕ) → Net → List Event
remade making net = flat_map (remade_at making) net

-- what was told while the journals were made, and then the groups
abbrev pub plays_from : Stops → List Group → Homes → Net → Played
plays_from stops script homes net = behind (remade stops.making net) (plays_by stops.groups script 0 homes net)

-- what these agents play, which have taken nothing yet, where the disks stop so
abbrev pub IsPlayBy : Stops → List Group → Homes → Net → List Event → Net → Type 0
IsPlayBy stops script homes net events last = plays_from stops script homes net ≡ ended events last

-- these are the events of the play of the script, where this is planned for the links and the disks stop so, whichever legs are those of the
-- least paths
abbrev pub IsStoppedPlay : Network → Plans → Stops → List Group → List Event → Type 0
IsStoppedPlay t plans stops script events =
    (routes : Routes) → AreRoutes t routes → (last : Net) × IsPlayBy stops script (home_in t routes) (opening t plans) events last

-- The play of a script: which run it makes of a topology.
use Rattle.std.specs.Prelude.{ℕ, zero, suc, ◌+◌, ◌<◌, ◌≡◌, ◌==◌, Bool, true, false, List, [], ◌∷◌, ◌++◌, length, map, if◌then◌else◌}
use Rattle.std.specs.List.{All}
use Rattle.nsi_primitive.specs.declared.entry.Event.{Event}
use Rattle.stp_topology.specs.declared.network.Network.{Network}
use Rattle.nsi_script.specs.declared.script.Act.{Act}
use Rattle.nsi_script.specs.declared.script.Group.{Group}
use Rattle.nsi_agent.specs.Homes.{Routes, AreRoutes, home_in}
use Rattle.agent_node.specs.Seat.{Seat}
use Rattle.agent_node.specs.Acts.{asked, forced, ticked}
use Rattle.agent_node.specs.Restarts.{restarted, untold}
use Rattle.nsi_play.specs.Openings.{Plans, opening}
use Rattle.nsi_play.specs.Rounds.{Net, Homes, round, events_of, emptied, all_quiet}

-- how far a play has come: its events, the agents after them, and whether it stands at an end
pub record Played : Type 0 where
  pub events : List Event
  pub net : Net
  pub is_over : Bool

-- events that come first
abbrev pub behind : List Event → Played → Played
behind es p = record p { events = es ++ p.events }

abbrev pub stopped : Net → Played
stopped net = record { events = []; net = net; is_over = false }

abbrev pub over : Net → Played
over net = record { events = []; net = net; is_over = true }

-- what has happened is told, and then comes the rest
abbrev pub after_round : Net → (Net → Played) → Played
after_round net rest = behind (events_of net) (rest (emptied net))

-- rounds until all are quiet, no more than so many
unfoldable pub settles : ℕ → Homes → Net → Played
settles zero homes net = if all_quiet homes net then over net else stopped net
settles (suc most) homes net = if all_quiet homes net then over net else after_round (round homes net) (settles most homes)

---- Acts

-- one agent's part in an act
abbrev pub changes : ℕ → (Seat → Seat) → Seat → Seat
changes a f s = if s.number == a then f s else s

-- an act, where so many asks were made before it
abbrev pub does : Act → ℕ → Homes → Seat → Seat
does (Act.Ask a ask) count homes s = changes a (asked (homes a) count ask) s
does (Act.Force a n) count homes s = changes a (forced (homes a) n) s
does (Act.Restart a) count homes s = changes a (restarted (homes a)) s

abbrev pub acted : Act → ℕ → Homes → Net → Net
acted act count homes net = map (does act count homes) net

-- how many asks an act is
abbrev pub asks_in : Act → ℕ
asks_in (Act.Ask a ask) = 1
asks_in _ = 0

unfoldable pub asks_among : List Act → ℕ
asks_among [] = 0
asks_among (a ∷ rest) = asks_in a + asks_among rest

-- acts one after another; the asks of a run are numbered from 0
unfoldable pub acts : List Act → ℕ → Homes → Net → Played
acts [] count homes net = over net
acts (a ∷ rest) count homes net = after_round (acted a count homes net) (acts rest (count + asks_in a) homes)

---- Groups

abbrev pub ticked_in : ℕ → Homes → Seat → Seat
ticked_in second homes s = ticked (homes s.number) second s

-- the tick of each agent, and then the acts
unfoldable pub begins : Group → ℕ → Homes → Net → Played
begins g count homes net = after_round (map (ticked_in g.at homes) net) (acts g.acts count homes)

-- a group: ticks, acts, and rounds until all are quiet
unfoldable pub group : ℕ → Group → ℕ → Homes → Net → Played
group most g count homes net = behind (begins g count homes net).events (settles most homes (begins g count homes net).net)

-- on with it, where it is over
abbrev pub then_on : Played → (Net → Played) → Played
then_on p rest = if p.is_over then behind p.events (rest p.net) else p

-- Groups one after another, with no more rounds in each than so many. Where that isn't enough, it is a front of the play.
unfoldable pub plays : ℕ → List Group → ℕ → Homes → Net → Played
plays most [] count homes net = over net
plays most (g ∷ gs) count homes net = then_on (group most g count homes net) (plays most gs (count + asks_among g.acts) homes)

---- The play

abbrev pub ended : List Event → Net → Played
ended events net = record { events = events; net = net; is_over = true }

-- what these agents play: there is a number of rounds with which they come to an end, and all greater ones give the same
abbrev pub IsPlayFrom : List Group → Homes → Net → List Event → Net → Type 0
IsPlayFrom script homes net events last = (most : ℕ) × (plays most script 0 homes net ≡ ended events last)

-- these are the events of the play of the script, where this is planned for the links, whichever legs are those of the least paths
abbrev pub IsPlay : Network → Plans → List Group → List Event → Type 0
IsPlay t plans script events = (routes : Routes) → AreRoutes t routes → (last : Net) × IsPlayFrom script (home_in t routes) (opening t plans) events last

---- Restarts

-- an act that restarts nobody
abbrev pub RestartsNone : Act → Type 0
RestartsNone (Act.Restart a) = ⊥
RestartsNone act = Unit {0}

-- nobody is restarted in these groups
abbrev pub RestartNobody : List Group → Type 0
RestartNobody [] = Unit {0}
RestartNobody (g ∷ gs) = All RestartsNone g.acts × RestartNobody gs

-- the same agents, of none of whom it is told which entries are synced
abbrev pub untold_net : Net → Net
untold_net net = map untold net

---- Limits

-- some front of what these agents play has more events
abbrev pub PassesFrom : ℕ → List Group → Homes → Net → Type 0
PassesFrom limit script homes net = (most : ℕ) × (limit < length (plays most script 0 homes net).events)

-- the play has more events, whichever legs are those of the least paths
abbrev pub Passes : ℕ → Network → Plans → List Group → Type 0
Passes limit t plans script = (routes : Routes) → AreRoutes t routes → PassesFrom limit script (home_in t routes) (opening t plans)

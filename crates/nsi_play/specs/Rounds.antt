-- A round of all agents: each takes what came to it before, all at once, and then each learns what was let through to it.
use Rattle.std.specs.Prelude.{ℕ, Bool, List, [], ◌∷◌, map, flat_map}
use Rattle.std.specs.List.{list_all}
use Rattle.nsi_primitive.specs.declared.entry.Event.{Event}
use Rattle.nsi_agent.specs.Homes.{Home}
use Rattle.agent_node.specs.Seat.{Seat}
use Rattle.agent_node.specs.Turns.{turned}
use Rattle.agent_node.specs.Acts.{is_quiet}
use Rattle.agent_node.specs.Meetings.{met}

-- all agents in order
abbrev pub Net : Type 0
Net = List Seat

-- what the topology says to each
abbrev pub Homes : Type 0
Homes = ℕ → Home

abbrev pub turned_in : Homes → Seat → Seat
turned_in homes s = turned (homes s.number) s

abbrev pub turned_all : Homes → Net → Net
turned_all homes net = map (turned_in homes) net

-- an agent, after it learnt what each of these let through to it
unfoldable pub meets_each : Seat → List Seat → Seat
meets_each s [] = s
meets_each s (o ∷ os) = meets_each (met o s) os

abbrev pub meets_all : Net → Seat → Seat
meets_all net s = meets_each s net

abbrev pub met_all : Net → Net
met_all net = map (meets_all net) net

unfoldable pub round : Homes → Net → Net
round homes net = met_all (turned_all homes net)

abbrev pub events_at : Seat → List Event
events_at s = s.events

-- the events, in the agents' order
abbrev pub events_of : Net → List Event
events_of net = flat_map events_at net

abbrev pub tells : Seat → Seat
tells s = record s { events = [] }

-- what has happened is taken away
abbrev pub emptied : Net → Net
emptied net = map tells net

abbrev pub is_quiet_in : Homes → Seat → Bool
is_quiet_in homes s = is_quiet (homes s.number) s

abbrev pub all_quiet : Homes → Net → Bool
all_quiet homes net = list_all (is_quiet_in homes) net

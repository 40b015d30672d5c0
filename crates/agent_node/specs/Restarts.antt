-- An agent that goes on from what its journal has.
use Rattle.std.specs.Prelude.{ℕ, zero, suc, Bool, true, false, List, [], ◌∷◌, ◌++◌, length, map, Option, Some, None}
use Rattle.nsi_primitive.specs.declared.entry.Entry.{Entry}
use Rattle.nsi_primitive.specs.declared.entry.Event.{Event}
use Rattle.nsi_primitive.specs.declared.entry.Happening.{Happening}
use Rattle.nsi_primitive.specs.declared.message.Message.{Message}
use Rattle.agent_state.specs.State.{AgentState}
use Rattle.nsi_agent.specs.Homes.{Home}
use Rattle.nsi_agent.specs.Told.{told}
use Rattle.agent_node.specs.Seat.{Door, Seat, says_all}
use Rattle.agent_node.specs.Turns.{adds}

abbrev pub restart_event : (n count : ℕ) → Event
restart_event n count = record { agent = n; what = Happening.Restart count }

-- so many of them
abbrev pub restart_events : (times n count : ℕ) → List Event
restart_events zero n count = []
restart_events (suc times) n count = restart_event n count ∷ restart_events times n count

-- nothing is to be pushed any more; what came lies there still
abbrev pub drops : Door → Door
drops d = record d { queue = [] }

-- other entries in place of those that are told
abbrev pub instead : List Entry → Option (List Entry) → Option (List Entry)
instead es None = None
instead es (Some past) = Some es

-- It has read these entries, behind so many tries at which its disk stopped. They are all that it has taken, and all are synced; what they
-- cause and isn't acknowledged is queued.
unfoldable pub reads : Home → (tries : ℕ) → List Entry → Seat → Seat
reads h tries es s =
    record s {
      state = (told h es).state;
      past = instead es s.past;
      synced = length es;
      fresh = [];
      unsaid = [];
      events = s.events ++ restart_event s.number (length es) ∷ restart_events tries s.number (length es);
      doors = says_all h.agent_of (told h es).state.base.waiting (map drops s.doors);
    }

---- Its steps

-- the same in another state, with so many synced entries and nothing to say
abbrev pub begun_again : AgentState → ℕ → Seat → Seat
begun_again state count s = record s { state = state; synced = count; fresh = []; unsaid = []; doors = map drops s.doors }

-- its restart is told, as often as its disk stopped before it was read, and these messages are queued
abbrev pub tells_restart : Home → List Message → (tries : ℕ) → Seat → Seat
tells_restart h ms tries s =
    record s { events = s.events ++ restart_event s.number s.synced ∷ restart_events tries s.number s.synced; doors = says_all h.agent_of ms s.doors }

---- Synced entries

-- it reads those that are synced, where they are told
abbrev pub reads_past : Option (List Entry) → Home → (tries : ℕ) → Seat → Seat
reads_past None h tries s = s
reads_past (Some es) h tries s = reads h tries es s

abbrev pub restarted : Home → Seat → Seat
restarted h s = reads_past s.past h 0 s

---- Where the disk has stopped

-- what it reads: the synced entries, or these with the batch that was being synced
abbrev pub cut_past : (keeps : Bool) → Seat → Option (List Entry)
cut_past true s = adds s.fresh s.past
cut_past false s = s.past

---- Where a journal is not asked

-- the same agent, where it isn't told which entries are synced
abbrev pub untold : Seat → Seat
untold s = record s { past = None }

-- The laws of events that are due.
use Rattle.std.specs.Prelude.{◌≡◌, ◌≤◌, ◌<◌, ◌+◌, ◌*◌, ◌++◌, ℕ, Bool, List, length, sum_by}
use Rattle.std.specs.List.{All, Contains}
use Rattle.nsi_primitive.specs.declared.ask.Ask.{Ask}
use Rattle.nsi_primitive.specs.declared.entry.Event.{Event}
use Rattle.nsi_primitive.specs.declared.entry.Input.{Input}
use Rattle.nsi_primitive.specs.declared.message.Message.{Message}
use Rattle.stp_topology.specs.Laws.{IsWellFormed}
use Rattle.stp_topology.specs.declared.network.Network.{Network}
use Rattle.agent_state.specs.Entries.{most_entries}
use Rattle.nsi_agent.specs.Homes.{Routes, home_in}
use Rattle.nsi_agent.specs.Told.{told}
use Rattle.nsi_script.specs.declared.script.Group.{Group}
use Rattle.nsi_script.specs.Fits.{IsActOf, IsRising}
use Rattle.nsi_script.specs.Scripts.{acts_of, asks_of, seconds_of}
use Rattle.agent_node.specs.Openings.{agents}
use Rattle.nsi_play.specs.Openings.{Plans, opening}
use Rattle.nsi_play.specs.Play.{plays}
use Rattle.nsi_world.specs.Worlds.{Homes, World, empty, IsAgent, IsSent, IsTo}
use Rattle.nsi_world.specs.Runs.{world_after, AreAllowed}
use Rattle.nsi_world.specs.Seats.{AreFree}
use Rattle.nsi_world.specs.Nets.{AreDistinct}
use Rattle.stopped_play.specs.Tapes.{Stops}
use Rattle.stopped_play.specs.Counts.{restarts_in, all_stops}
use Rattle.stopped_play.specs.Laws.{played}
use Rattle.due_events.specs.Due.{AreDue}
use Rattle.due_events.specs.Counts.{is_got, is_acked, is_work, is_tick, is_ask, is_force, entries_in, entries_among, held, caused, events_in, asks_worth, act_worth, script_forces, script_restarts}

-- a front of events that are due is due
abbrev pub FrontsAreDue : Type 0
FrontsAreDue = (homes : Homes) (w : World) (front rest : List Event) → AreDue homes w (front ++ rest) → AreDue homes w front

-- the events of a play are due, whichever disks stop
abbrev pub PlaysAreDue : Type 0
PlaysAreDue = (t : Network) (routes : Routes) (plans : Plans) (stops : Stops) (script : List Group) → IsWellFormed t → AreDue (home_in t routes) empty (played t routes plans stops script).events

-- Of these there are no more than a script has, where each agent ticks once in each group, and a restart is one of the script or one of a disk
-- that stopped.
pub record IsScripted (t : Network) (stops : Stops) (script : List Group) (events : List Event) : Type 0 where
  pub ticks : events_in is_tick events ≤ length t.agents * length script
  pub asks : events_in is_ask events ≤ asks_of script
  pub forces : events_in is_force events ≤ script_forces script
  pub restarts : restarts_in events ≤ script_restarts script + all_stops (agents t) stops

-- so it is in a play
abbrev pub PlaysAreScripted : Type 0
PlaysAreScripted =
    (t : Network) (routes : Routes) (plans : Plans) (stops : Stops) (script : List Group) → IsWellFormed t → IsScripted t stops script (played t routes plans stops script).events

-- Whatever an ask may be worth: in each world that a front of a play makes, those that stand in journals are worth no more than those of the
-- script.
abbrev pub AsksAreScripted : Type 0
AsksAreScripted =
    (t : Network) (routes : Routes) (plans : Plans) (stops : Stops) (script : List Group) (worth : ℕ → Ask → ℕ) (front rest : List Event) → IsWellFormed t →
    (played t routes plans stops script).events ≡ front ++ rest → asks_worth worth (world_after empty front) (agents t) ≤ sum_by (act_worth worth) (acts_of script)

---- Entries that are due

-- an agent gets no more messages than there are for it
abbrev pub GotsAreFew : Type 0
GotsAreFew =
    (t : Network) (routes : Routes) (events : List Event) (a : ℕ) (sent : List Message) → AreAllowed (home_in t routes) empty events → AreDue (home_in t routes) empty events →
    let w : World = world_after empty events in
    ((m : Message) → IsSent (home_in t routes) w m → IsTo (home_in t routes) a m → Contains sent m) → entries_in is_got (w.journal a) ≤ length sent

-- nor do agents together than there are
abbrev pub GotsTogetherAreFew : Type 0
GotsTogetherAreFew =
    (t : Network) (routes : Routes) (events : List Event) (agents : List ℕ) (sent : List Message) → AreAllowed (home_in t routes) empty events → AreDue (home_in t routes) empty events →
    AreDistinct agents → let w : World = world_after empty events in
    ((m : Message) → IsSent (home_in t routes) w m → Contains sent m) → entries_among is_got w agents ≤ length sent

-- an agent takes no more acknowledgements than there are messages that it has caused
abbrev pub AckedsAreFew : Type 0
AckedsAreFew =
    (homes : Homes) (events : List Event) (a : ℕ) → AreAllowed homes empty events → AreDue homes empty events →
    let w : World = world_after empty events in
    entries_in is_acked (w.journal a) ≤ length (told (homes a) (w.journal a)).out

-- it does no more work than it gets messages
abbrev pub WorksAreFew : Type 0
WorksAreFew =
    (homes : Homes) (events : List Event) (a : ℕ) → AreAllowed homes empty events → AreDue homes empty events →
    let w : World = world_after empty events in
    entries_in is_work (w.journal a) ≤ entries_in is_got (w.journal a)

-- of any kind there are no more entries in the journals of agents together than among the events
abbrev pub EntriesAreEvents : Type 0
EntriesAreEvents =
    (events : List Event) (kind : Input → Bool) (agents : List ℕ) → AreDistinct agents → entries_among kind (world_after empty events) agents ≤ events_in kind events

-- So all journals together have no more entries than there are ticks, asks and forced ends among the events, and three for each message that they
-- cause: one in which it is got, one in which its acknowledgement is, and one of work on it.
abbrev pub JournalsAreShort : Type 0
JournalsAreShort =
    (t : Network) (routes : Routes) (events : List Event) (agents : List ℕ) → AreAllowed (home_in t routes) empty events → AreDue (home_in t routes) empty events → AreDistinct agents →
    ((a : ℕ) → IsAgent (home_in t routes) a → Contains agents a) → let w : World = world_after empty events in
    held w agents ≤ events_in is_tick events + (events_in is_ask events + (events_in is_force events + 3 * caused (home_in t routes) w agents))

---- Events that are due

-- no world that a front of these events makes has more entries in the journals of these agents together
abbrev pub HoldNoMore : (agents : List ℕ) → List Event → (most : ℕ) → Type 0
HoldNoMore agents events most = (front rest : List Event) → events ≡ front ++ rest → held (world_after empty front) agents ≤ most

-- Each event is an entry, a sync behind an entry, or a restart, and a restart takes away no more entries than there are.
abbrev pub EventsAreFew : Type 0
EventsAreFew =
    (homes : Homes) (events : List Event) (agents : List ℕ) (most : ℕ) → AreFree homes empty events → AreDue homes empty events → ((a : ℕ) → IsAgent homes a → Contains agents a) →
    HoldNoMore agents events most → length events ≤ 2 * ((1 + restarts_in events) * most) + restarts_in events

-- in no world that a front of these events makes do the entries of these agents cause more messages
abbrev pub CauseNoMore : Homes → (agents : List ℕ) → List Event → (messages : ℕ) → Type 0
CauseNoMore homes agents events messages = (front rest : List Event) → events ≡ front ++ rest → caused homes (world_after empty front) agents ≤ messages

-- so they are few where there are few ticks, asks, forced ends, restarts and messages
abbrev pub RunsAreShort : Type 0
RunsAreShort =
    (t : Network) (routes : Routes) (events : List Event) (agents : List ℕ) (messages : ℕ) → AreAllowed (home_in t routes) empty events → AreDue (home_in t routes) empty events →
    AreDistinct agents → ((a : ℕ) → IsAgent (home_in t routes) a → Contains agents a) → CauseNoMore (home_in t routes) agents events messages →
    let most : ℕ = events_in is_tick events + (events_in is_ask events + (events_in is_force events + 3 * messages)) in
    length events ≤ 2 * ((1 + restarts_in events) * most) + restarts_in events

---- Plays

-- in no world that a front of these events makes, where it is a run, do the entries of these agents cause more messages
abbrev pub RunsCauseNoMore : Homes → (agents : List ℕ) → List Event → (messages : ℕ) → Type 0
RunsCauseNoMore homes agents events messages =
    (front rest : List Event) → events ≡ front ++ rest → AreAllowed homes empty front → caused homes (world_after empty front) agents ≤ messages

-- So a play is short where few messages are caused: as there is room for so many entries, all its events are allowed, however many they are.
abbrev pub PlaysAreShort : Type 0
PlaysAreShort =
    (t : Network) (routes : Routes) (plans : Plans) (stops : Stops) (script : List Group) (messages : ℕ) → IsWellFormed t → IsRising (seconds_of script) → All (IsActOf t) (acts_of script) →
    let events : List Event = (played t routes plans stops script).events in
    let most : ℕ = length t.agents * length script + (script_forces script + (asks_of script + 3 * messages)) in
    RunsCauseNoMore (home_in t routes) (agents t) events messages → most < most_entries → length events ≤ 2 * ((1 + restarts_in events) * most) + restarts_in events

-- the same of a play in which no disk stops, with the restarts of its script
abbrev pub CalmPlaysAreShort : Type 0
CalmPlaysAreShort =
    (t : Network) (routes : Routes) (plans : Plans) (rounds : ℕ) (script : List Group) (messages : ℕ) → IsWellFormed t → IsRising (seconds_of script) → All (IsActOf t) (acts_of script) →
    let events : List Event = (plays rounds script 0 (home_in t routes) (opening t plans)).events in
    let most : ℕ = length t.agents * length script + (script_forces script + (asks_of script + 3 * messages)) in
    RunsCauseNoMore (home_in t routes) (agents t) events messages → most < most_entries →
    length events ≤ 2 * ((1 + script_restarts script) * most) + script_restarts script

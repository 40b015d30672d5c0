-- The laws of runs.
use Rattle.std.specs.Prelude.{◌≡◌, ◌≤◌, ◌<◌, ◌++◌, ℕ, List, true, length}
use Rattle.std.specs.List.{All}
use Rattle.nsi_primitive.specs.Messages.{is_request}
use Rattle.nsi_primitive.specs.declared.entry.Event.{Event}
use Rattle.nsi_primitive.specs.declared.message.Message.{Message}
use Rattle.stp_topology.specs.Laws.{IsWellFormed}
use Rattle.stp_topology.specs.declared.network.Network.{Network}
use Rattle.agent_state.specs.Entries.{most_entries}
use Rattle.nsi_agent.specs.Homes.{Routes, home_in}
use Rattle.nsi_script.specs.declared.script.Group.{Group}
use Rattle.agent_node.specs.Openings.{agents}
use Rattle.agent_node.specs.Seat.{Seat}
use Rattle.agent_node.specs.Turns.{turned}
use Rattle.nsi_play.specs.Openings.{Plans, opening}
use Rattle.nsi_play.specs.Rounds.{Net, round, events_of, emptied}
use Rattle.nsi_play.specs.Play.{plays, IsPlayFrom}
use Rattle.nsi_world.specs.Worlds.{Homes, World, empty, IsSent}
use Rattle.nsi_world.specs.Runs.{world_after, AreAllowed, IsRun, asks_of, numbered}
use Rattle.nsi_world.specs.Heard.{IsFair}
use Rattle.nsi_world.specs.Seats.{Stands, GoesOn, AreFree}
use Rattle.nsi_world.specs.Rest.{IsAtRest}
use Rattle.nsi_world.specs.Nets.{numbers, AllStand, NetGoesOn}
use Rattle.nsi_script.specs.Fits.{IsActOf, IsRising}
use Rattle.nsi_script.specs.Scripts.{acts_of, seconds_of}
use Rattle.nsi_world.specs.Scripts.{wishes_of}

---- Every run

-- in each world of a run what was heard was sent, and no more is synced than there is
abbrev pub HeardWasSent : Type 0
HeardWasSent = (homes : Homes) (events : List Event) → AreAllowed homes empty events → IsFair homes (world_after empty events)

-- what was sent stays sent
abbrev pub SentStaysSent : Type 0
SentStaysSent =
    (homes : Homes) (events more : List Event) (m : Message) → AreAllowed homes empty (events ++ more) → IsSent homes (world_after empty events) m →
    IsSent homes (world_after empty (events ++ more)) m

-- two requests under one header, sent by whomever in a run, are one
abbrev pub RequestsAreOne : Type 0
RequestsAreOne =
    (t : Network) (routes : Routes) (events : List Event) (m n : Message) → AreAllowed (home_in t routes) empty events →
    IsSent (home_in t routes) (world_after empty events) m → IsSent (home_in t routes) (world_after empty events) n → is_request m.body ≡ true → is_request n.body ≡ true →
    n.header ≡ m.header → n ≡ m

---- Plays, whatever is planned for the links

-- a turn goes on by events that are allowed, and then what lies at its doors was said
abbrev pub TurnRuns : Type 0
TurnRuns =
    (t : Network) (routes : Routes) (clock : ℕ) (w : World) (s : Seat) → IsFair (home_in t routes) w → Stands (home_in t routes) clock w s →
    GoesOn (home_in t routes) clock w s (turned (home_in t routes s.number) s)

-- so does a round: its events are allowed one after another, though all take their turns at once
abbrev pub RoundRuns : Type 0
RoundRuns =
    (t : Network) (routes : Routes) (clock : ℕ) (w : World) (net : Net) → AllStand (home_in t routes) clock w net →
    NetGoesOn (home_in t routes) clock w net (events_of (round (home_in t routes) net)) (emptied (round (home_in t routes) net))

-- each front of a play of no more events than an agent takes entries is a run
abbrev pub PlayRuns : Type 0
PlayRuns =
    (t : Network) (routes : Routes) (plans : Plans) (most : ℕ) (groups : List Group) → IsWellFormed t → IsRising (seconds_of groups) → All (IsActOf t) (acts_of groups) →
    length (plays most groups 0 (home_in t routes) (opening t plans)).events ≤ most_entries →
    IsRun (home_in t routes) (plays most groups 0 (home_in t routes) (opening t plans)).events

-- so is the play
abbrev pub PlayIsRun : Type 0
PlayIsRun =
    (t : Network) (routes : Routes) (plans : Plans) (groups : List Group) (events : List Event) (last : Net) → IsWellFormed t → IsRising (seconds_of groups) → All (IsActOf t) (acts_of groups) →
    IsPlayFrom groups (home_in t routes) (opening t plans) events last → length events ≤ most_entries → IsRun (home_in t routes) events

-- the events of a play are allowed, but that there may be no room, and the agents at its end stand as they should in the world that these make
pub record StandInTheEnd (t : Network) (routes : Routes) (events : List Event) (last : Net) : Type 0 where
  pub clock : ℕ
  pub free : AreFree (home_in t routes) empty events
  pub numbers : numbers last ≡ agents t
  pub stand : AllStand (home_in t routes) clock (world_after empty events) last

abbrev pub PlayStands : Type 0
PlayStands =
    (t : Network) (routes : Routes) (plans : Plans) (groups : List Group) (events : List Event) (last : Net) → IsWellFormed t → IsRising (seconds_of groups) → All (IsActOf t) (acts_of groups) →
    IsPlayFrom groups (home_in t routes) (opening t plans) events last → StandInTheEnd t routes events last

-- each agent has nothing to do at the end of a play
abbrev pub PlayRests : Type 0
PlayRests =
    (t : Network) (routes : Routes) (plans : Plans) (groups : List Group) (events : List Event) (last : Net) → IsWellFormed t → IsRising (seconds_of groups) → All (IsActOf t) (acts_of groups) →
    IsPlayFrom groups (home_in t routes) (opening t plans) events last → (a : ℕ) → a < length t.agents → IsAtRest (home_in t routes) (world_after empty events) a

-- a play asks the whole script, in order
abbrev pub AsksWhole : Type 0
AsksWhole =
    (t : Network) (routes : Routes) (plans : Plans) (groups : List Group) (events : List Event) (last : Net) → IsWellFormed t → IsRising (seconds_of groups) → All (IsActOf t) (acts_of groups) →
    IsPlayFrom groups (home_in t routes) (opening t plans) events last → asks_of events ≡ numbered 0 (wishes_of groups)

-- The laws of what is sent in runs.
use Rattle.std.specs.Prelude.{◌≡◌, ◌⊎◌, ℕ, List, Some, true}
use Rattle.std.specs.List.{Contains}
use Rattle.nsi_primitive.specs.Messages.{identity, kind_of, is_request}
use Rattle.nsi_primitive.specs.declared.entry.Event.{Event}
use Rattle.nsi_primitive.specs.declared.message.Body.{Body}
use Rattle.nsi_primitive.specs.declared.message.Message.{Message}
use Rattle.nsi_primitive.specs.declared.message.ReserveRequest.{ReserveRequest}
use Rattle.stp_topology.specs.declared.network.Network.{Network}
use Rattle.connection_record.specs.Speaking.{is_answering}
use Rattle.child_connection.specs.Holding.{is_reservation}
use Rattle.nsi_agent.specs.Homes.{Routes, home_in}
use Rattle.nsi_world.specs.Worlds.{Homes, IsAgent, World, empty, synced_part, IsSaidBy, IsSent, IsTo, IsGot}
use Rattle.nsi_world.specs.Runs.{world_after, AreAllowed}
use Rattle.agent_speech.specs.Unanswered.{held}
use Rattle.run_growth.specs.WorldCuts.{IsPlaceOf, IsCut, cut, told_to, IsGrown}

-- each cut of each world of a run is made by entries alone, so that laws of cuts need to know of no sync and no restart
abbrev pub CutsAreGrown : Type 0
CutsAreGrown = (homes : Homes) (events : List Event) (c : ℕ → ℕ) → AreAllowed homes empty events → IsCut (world_after empty events) c → IsGrown homes (cut (world_after empty events) c)

-- two sent messages of one identity are one, whoever sent them
abbrev pub IdentitiesAreOne : Type 0
IdentitiesAreOne =
    (t : Network) (routes : Routes) (events : List Event) (m n : Message) → AreAllowed (home_in t routes) empty events →
    IsSent (home_in t routes) (world_after empty events) m → IsSent (home_in t routes) (world_after empty events) n → identity n ≡ identity m → n ≡ m

-- An agent has sent a request under the header of an answer, and the agent that sent the answer had taken that request by a synced entry.
pub record IsAnswered (homes : Homes) (w : World) (a : ℕ) (m : Message) : Type 0 where
  pub request : Message
  pub asks : is_request request.body ≡ true
  pub header : request.header ≡ m.header
  pub asked : IsSaidBy homes w a request
  pub by : ℕ
  pub answered : IsSaidBy homes w by m
  pub addressed : IsTo homes by request
  pub got : IsGot request (synced_part w by)

-- each answer that an agent has taken answers a request of its own
abbrev pub AnswersAreOfRequests : Type 0
AnswersAreOfRequests =
    (t : Network) (routes : Routes) (events : List Event) (a : ℕ) (m : Message) → AreAllowed (home_in t routes) empty events → IsGot m ((world_after empty events).journal a) →
    is_answering m.body ≡ true → IsAnswered (home_in t routes) (world_after empty events) a m

-- the agent for whom a message is has taken it by a synced entry
pub record WasTaken (homes : Homes) (w : World) (m : Message) : Type 0 where
  pub by : ℕ
  pub agent : IsAgent homes by
  pub addressed : IsTo homes by m
  pub got : IsGot m (synced_part w by)

-- Each request of the reservation machine that a cut of an agent caused was taken by the agent that it asks, or just one of its views
-- holds it as unanswered.
abbrev pub OneIsOutstanding : Type 0
OneIsOutstanding =
    (t : Network) (routes : Routes) (events : List Event) (a k : ℕ) (m : Message) → AreAllowed (home_in t routes) empty events →
    let homes : Homes = home_in t routes in
    let w : World = world_after empty events in
    IsPlaceOf w a k → Contains (told_to homes w a k).out m → is_reservation (kind_of m.body) ≡ true →
    WasTaken homes w m ⊎ (held m.header.provider m.header.correlation (told_to homes w a k).state ≡ 1)

-- a reserve says its start
abbrev pub SaysItsStart : Body → Type 0
SaysItsStart body = (q : ReserveRequest) → body ≡ Body.Reserve q → (start : ℕ) × (q.start ≡ Some start)

-- So does each that is sent: a reserve may come without a start, but no agent asks so.
abbrev pub EachReserveSaysItsStart : Type 0
EachReserveSaysItsStart = (homes : Homes) (w : World) (m : Message) → IsSent homes w m → SaysItsStart m.body

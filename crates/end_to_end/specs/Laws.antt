-- The laws of circuits from end to end.
use Rattle.std.specs.Prelude.{ℕ, ◌≡◌, ◌≤◌, List, [], length, Some, Contains, slice_get}
use Rattle.nsi_primitive.specs.declared.entry.Event.{Event}
use Rattle.nsi_primitive.specs.declared.message.Criteria.{Criteria}
use Rattle.stp_topology.specs.Laws.{IsWellFormed}
use Rattle.stp_topology.specs.Sound.{IsSound}
use Rattle.stp_topology.specs.declared.network.Network.{Network}
use Rattle.agent_state.specs.State.{record_at}
use Rattle.agent_state.specs.declared.parent.View.{View}
use Rattle.connection_record.specs.declared.record.Record.{Record}
use Rattle.connection_record.specs.Refusal.{place_of}
use Rattle.requester_agent.specs.Setting.{Setting as RequesterSetting}
use Rattle.aggregator_agent.specs.Setting.{Setting as AggregatorSetting}
use Rattle.nsi_agent.specs.Homes.{Routes, AreRoutes, aggregates, requests, home_in}
use Rattle.nsi_world.specs.Worlds.{Homes, IsAgent, World, empty}
use Rattle.nsi_world.specs.Runs.{IsRun, world_after}
use Rattle.run_growth.specs.Cuts.{IsCutOf, state_of_cut}
use Rattle.circuit_laws.specs.Backed.{IsChildOf, IsBetween}
use Rattle.circuit_laws.specs.Laws.{InEveryRun}
use Rattle.end_to_end.specs.Stands.{StandsEndToEnd, EachConnectionStands, EachVersionIsKnown, StandsInEachWorld}

-- Whatever a crash leaves of a requester and of the agent that it asks: the record of a view that knows its connection is between the view's two points.
abbrev pub EachViewIsBetween : Network → Homes → World → Type 0
EachViewIsBetween t homes w =
    (a b k j i id place : ℕ) (setting : RequesterSetting) (x : View) → IsAgent homes a → (homes a).role ≡ requests setting → IsCutOf w a k →
    slice_get (state_of_cut homes w a k).views i ≡ Some x → IsChildOf t homes a x.child.child b → IsCutOf w b j → x.child.connection ≡ Some id →
    place_of id (homes a).name (state_of_cut homes w b j).base.records ≡ Some place → IsBetween x.child (record_at place (state_of_cut homes w b j).base.records)

abbrev pub ConnectionsStand : Type 0
ConnectionsStand = InEveryRun EachConnectionStands

abbrev pub ViewsAreBetween : Type 0
ViewsAreBetween = InEveryRun EachViewIsBetween

abbrev pub VersionsAreKnown : Type 0
VersionsAreKnown = InEveryRun EachVersionIsKnown

---- Every run

-- in a topology that a text gives, whatever is lost, comes twice or comes late, and whoever begins again from what was synced
abbrev pub EveryRunStands : Type 0
EveryRunStands = (t : Network) (routes : Routes) (events : List Event) → IsSound t → IsWellFormed t → AreRoutes t routes → IsRun (home_in t routes) events → StandsInEachWorld t routes events

-- where nothing has happened it is so whatever the topology is
abbrev pub NothingStands : Type 0
NothingStands = (t : Network) (routes : Routes) → StandsInEachWorld t routes []

---- There are such circuits

-- A run of a topology that a text gives, over the legs of its least paths, after which an aggregator's record has criteria as committed that stand so:
-- booked at two places at least.
pub record IsEndToEndRun (t : Network) (routes : Routes) (events : List Event) : Type 0 where
  pub sound : IsSound t
  pub formed : IsWellFormed t
  pub routed : AreRoutes t routes
  pub run : IsRun (home_in t routes) events
  pub agent : ℕ
  pub setting : AggregatorSetting
  pub is_agent : IsAgent (home_in t routes) agent
  pub role : (home_in t routes agent).role ≡ aggregates setting
  pub cut : ℕ
  pub is_cut : IsCutOf (world_after empty events) agent cut
  pub place : ℕ
  pub own : Record
  pub there : slice_get (state_of_cut (home_in t routes) (world_after empty events) agent cut).base.records place ≡ Some own
  pub criteria : Criteria
  pub committed : Contains own.committed criteria
  pub stands : StandsEndToEnd t (home_in t routes) (world_after empty events) own criteria
  pub two : 2 ≤ length stands.bookings

abbrev pub ItIsReached : Type 0
ItIsReached = (t : Network) × (routes : Routes) × (events : List Event) × IsEndToEndRun t routes events

-- The laws of circuits in runs: how each view of a parent stands against the record of its child.
use Rattle.std.specs.Prelude.{ℕ, ◌≡◌, ◌≢◌, ◌<◌, length, false, List, Option, Some, None, Contains, slice_get}
use Rattle.nsi_primitive.specs.declared.entry.Event.{Event}
use Rattle.nsi_primitive.specs.declared.kind.Kind.{Kind}
use Rattle.nsi_primitive.specs.declared.state.Rsm.{Rsm}
use Rattle.stp_topology.specs.Laws.{IsWellFormed}
use Rattle.stp_topology.specs.Sound.{IsSound}
use Rattle.stp_topology.specs.declared.network.Network.{Network}
use Rattle.agent_state.specs.State.{record_at, children_at}
use Rattle.agent_state.specs.declared.parent.View.{View}
use Rattle.child_connection.specs.Views.{ChildConnection, sent}
use Rattle.connection_record.specs.declared.record.Record.{Record}
use Rattle.connection_record.specs.Refusal.{place_of}
use Rattle.requester_agent.specs.Setting.{Setting as RequesterSetting}
use Rattle.aggregator_agent.specs.Setting.{Setting as AggregatorSetting}
use Rattle.nsi_agent.specs.Homes.{Routes, AreRoutes, requests, aggregates, home_in}
use Rattle.nsi_world.specs.Worlds.{Homes, IsAgent, World, empty}
use Rattle.nsi_world.specs.Runs.{is_requester, world_after, AreAllowed, IsRun}
use Rattle.run_growth.specs.Cuts.{IsCutOf, state_of_cut}
use Rattle.run_growth.specs.InStep.{versions_of}
use Rattle.run_growth.specs.WorldCuts.{IsPlaceOf, told_to}
use Rattle.circuit_link.specs.Sides.{standing_of}
use Rattle.circuit_link.specs.Links.{InStep, Stands, Waits}
use Rattle.circuit_link.specs.Children.{Child, record_of, side_of}
use Rattle.circuit_link.specs.Serving.{child_of}
use Rattle.circuit_laws.specs.Backed.{AreBackedIn, EachViewIsBacked, EachViewRises, IsCircuit, EachCircuitStands, EachChildLives, NoRecordIsShared, EachCriteriaWasAskedFor}
use Rattle.circuit_laws.specs.Opened.{EachChildIsBetween, EachChildHasTheCriteria, EachAttemptWasAskedFor, EachRecordWasOpened, EachRecordHasAViewsPoints}

-- what an agent keeps and has said by the entries before a place, as the views of those who ask it see it
abbrev pub child_at : Homes → World → (b j : ℕ) → Child
child_at homes w b j = child_of (told_to homes w b j).state.base (told_to homes w b j).out

---- What is read off a view

-- The record of a view: one of the parent's own; the one with the connection's id, where the view knows it; none, where the view knows none
-- and has asked for none.
pub record IsRecordOf (parent : List ℕ) (x : ChildConnection) (rs : List Record) (place : Option ℕ) : Type 0 where
  pub own : (n : ℕ) → place ≡ Some n → (n < length rs) × ((record_at n rs).owner ≡ parent)
  pub known : (id : ℕ) → x.connection ≡ Some id → (n : ℕ) × (place ≡ Some n) × (place_of id parent rs ≡ Some n)
  pub unknown : x.connection ≡ None → x.reserve_request ≡ None → place ≡ None

-- Where nothing is unanswered, the record stands by the view's phase; a request that isn't answered isn't taken, or is worked on, or an
-- answer to it was said.
pub record HasPhases (parent child : List ℕ) (d : Child) (x : ChildConnection) : Type 0 where
  pub place : Option ℕ
  pub its : IsRecordOf parent x d.records place
  pub quiet : x.reserve_request ≡ None → Stands x.phase (record_of place d.records).rsm
  pub waiting : (c : ℕ) (k : Kind) → x.reserve_request ≡ Some (sent c k) → Waits c k x (side_of parent child place d)

-- Its committed versions are the record's, or all but the last; and what the record commits is what the view holds as pending, while its
-- commit is unanswered.
pub record IsInStep (parent : List ℕ) (d : Child) (x : ChildConnection) : Type 0 where
  pub place : Option ℕ
  pub its : IsRecordOf parent x d.records place
  pub in_step : InStep x.committed (standing_of (record_of place d.records)).committed
  pub commits : (record_of place d.records).rsm ≡ Rsm.ReserveCommitting →
      (c : ℕ) × (x.reserve_request ≡ Some (sent c Kind.ReserveCommit)) × (x.pending ≡ (standing_of (record_of place d.records)).pending)

---- Whose view

-- of a view that the agent a has of the agent b
abbrev pub OfView : Type 1
OfView = Homes → World → (a b : ℕ) → ChildConnection → Type 0

-- each view that a requester has by the entries before a place, where it asks a provider or an aggregator
abbrev pub OfViews : OfView → Type 0
OfViews P =
    (t : Network) (routes : Routes) (events : List Event) (a b k i : ℕ) (setting : RequesterSetting) (v : View) → AreAllowed (home_in t routes) empty events →
    let homes : Homes = home_in t routes in
    let w : World = world_after empty events in
    IsAgent homes a → IsAgent homes b → (homes a).role ≡ requests setting → setting.provider ≡ (homes b).name → is_requester (homes b).role ≡ false → IsPlaceOf w a k →
    slice_get (told_to homes w a k).state.views i ≡ Some v → P homes w a b v.child

-- each view that an aggregator has of a child, which is a provider or another aggregator
abbrev pub OfChildren : OfView → Type 0
OfChildren P =
    (t : Network) (routes : Routes) (events : List Event) (a b k n i : ℕ) (setting : AggregatorSetting) (xs : List ChildConnection) (x : ChildConnection) → AreAllowed (home_in t routes) empty events →
    let homes : Homes = home_in t routes in
    let w : World = world_after empty events in
    IsAgent homes a → IsAgent homes b → (homes a).role ≡ aggregates setting → b ≢ a → is_requester (homes b).role ≡ false → IsPlaceOf w a k →
    slice_get (told_to homes w a k).state.children n ≡ Some xs → slice_get xs i ≡ Some x → x.child ≡ (homes b).name → P homes w a b x

-- over each cut of whom it asks
abbrev pub Phases : OfView
Phases homes w a b x = (j : ℕ) → IsPlaceOf w b j → HasPhases (homes a).name (homes b).name (child_at homes w b j) x

abbrev pub Steps : OfView
Steps homes w a b x = (j : ℕ) → IsPlaceOf w b j → IsInStep (homes a).name (child_at homes w b j) x

abbrev pub ViewsHavePhases : Type 0
ViewsHavePhases = OfViews Phases

abbrev pub ChildrenHavePhases : Type 0
ChildrenHavePhases = OfChildren Phases

abbrev pub ViewsAreInStep : Type 0
ViewsAreInStep = OfViews Steps

abbrev pub ChildrenAreInStep : Type 0
ChildrenAreInStep = OfChildren Steps

abbrev pub ViewsAreBacked : Type 0
ViewsAreBacked = OfViews AreBackedIn

abbrev pub ChildrenAreBacked : Type 0
ChildrenAreBacked = OfChildren AreBackedIn

---- Two views

-- no two views of a requester know one connection
abbrev pub ViewsKnowTheirOwn : Type 0
ViewsKnowTheirOwn =
    (t : Network) (routes : Routes) (events : List Event) (a b k i j id : ℕ) (setting : RequesterSetting) (u v : View) → AreAllowed (home_in t routes) empty events →
    let homes : Homes = home_in t routes in
    let w : World = world_after empty events in
    IsAgent homes a → IsAgent homes b → (homes a).role ≡ requests setting → setting.provider ≡ (homes b).name → is_requester (homes b).role ≡ false → IsPlaceOf w a k →
    slice_get (told_to homes w a k).state.views i ≡ Some u → slice_get (told_to homes w a k).state.views j ≡ Some v → u.child.connection ≡ Some id → v.child.connection ≡ Some id → i ≡ j

-- nor do two views that an aggregator has of one child, of one or of two of its own connections
abbrev pub ChildrenKnowTheirOwn : Type 0
ChildrenKnowTheirOwn =
    (t : Network) (routes : Routes) (events : List Event) (a b k n i m j id : ℕ) (setting : AggregatorSetting) (xs ys : List ChildConnection) (x y : ChildConnection) →
    AreAllowed (home_in t routes) empty events →
    let homes : Homes = home_in t routes in
    let w : World = world_after empty events in
    IsAgent homes a → IsAgent homes b → (homes a).role ≡ aggregates setting → b ≢ a → is_requester (homes b).role ≡ false → IsPlaceOf w a k →
    slice_get (told_to homes w a k).state.children n ≡ Some xs → slice_get xs i ≡ Some x → x.child ≡ (homes b).name → slice_get (told_to homes w a k).state.children m ≡ Some ys → slice_get ys j ≡ Some y →
    y.child ≡ (homes b).name → x.connection ≡ Some id → y.connection ≡ Some id → (n ≡ m) × (i ≡ j)

---- Every run

-- in the world that the events of a run make, in a topology that a text gives
abbrev pub InEveryRun : (Network → Homes → World → Type 0) → Type 0
InEveryRun Holds =
    (t : Network) (routes : Routes) (events : List Event) → IsSound t → IsWellFormed t → AreRoutes t routes → AreAllowed (home_in t routes) empty events →
    Holds t (home_in t routes) (world_after empty events)

-- whose views these are is known too: no premise names the child
abbrev pub RunsAreBacked : Type 0
RunsAreBacked = InEveryRun EachViewIsBacked

abbrev pub ViewsRise : Type 0
ViewsRise = InEveryRun (λ t homes w. EachViewRises homes w)

abbrev pub RecordsAreApart : Type 0
RecordsAreApart = InEveryRun NoRecordIsShared

abbrev pub ChildrenLive : Type 0
ChildrenLive = InEveryRun EachChildLives

abbrev pub ChildrenAreBetween : Type 0
ChildrenAreBetween = InEveryRun EachChildIsBetween

abbrev pub ChildrenHaveTheCriteria : Type 0
ChildrenHaveTheCriteria = InEveryRun EachChildHasTheCriteria

abbrev pub CriteriaWereAskedFor : Type 0
CriteriaWereAskedFor = (homes : Homes) (events : List Event) → AreAllowed homes empty events → EachCriteriaWasAskedFor homes (world_after empty events)

abbrev pub AttemptsWereAskedFor : Type 0
AttemptsWereAskedFor = (homes : Homes) (events : List Event) → AreAllowed homes empty events → EachAttemptWasAskedFor homes (world_after empty events)

abbrev pub RecordsWereOpened : Type 0
RecordsWereOpened = (homes : Homes) (events : List Event) → AreAllowed homes empty events → EachRecordWasOpened homes (world_after empty events)

abbrev pub RecordsHaveThePoints : Type 0
RecordsHaveThePoints = InEveryRun (λ t homes w. EachRecordHasAViewsPoints homes w)

abbrev pub CircuitsStand : Type 0
CircuitsStand = InEveryRun EachCircuitStands

---- There are circuits

-- A run of a topology that a text gives, over the legs of its least paths; and whatever a crash leaves of an aggregator by so many entries, a version
-- that a record of it has as committed is a circuit of two children.
pub record IsCircuitRun (t : Network) (routes : Routes) (events : List Event) : Type 0 where
  pub sound : IsSound t
  pub formed : IsWellFormed t
  pub routed : AreRoutes t routes
  pub run : IsRun (home_in t routes) events
  pub agent : ℕ
  pub cut : ℕ
  pub place : ℕ
  pub version : ℕ
  pub setting : AggregatorSetting
  pub own : Record
  pub is_agent : IsAgent (home_in t routes) agent
  pub role : (home_in t routes agent).role ≡ aggregates setting
  pub is_cut : IsCutOf (world_after empty events) agent cut
  pub there : slice_get (state_of_cut (home_in t routes) (world_after empty events) agent cut).base.records place ≡ Some own
  pub committed : Contains (versions_of own) version
  pub two : length (children_at place (state_of_cut (home_in t routes) (world_after empty events) agent cut).children) ≡ 2
  pub circuit : IsCircuit t (home_in t routes) (world_after empty events) agent own (children_at place (state_of_cut (home_in t routes) (world_after empty events) agent cut).children) version

abbrev pub CircuitsAreReached : Type 0
CircuitsAreReached = (t : Network) × (routes : Routes) × (events : List Event) × IsCircuitRun t routes events

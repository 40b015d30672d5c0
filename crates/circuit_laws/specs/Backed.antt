-- What stands behind a version that is committed: behind the view of a child, and behind an aggregator's own record.
use Rattle.std.specs.Prelude.{ℕ, ◌≡◌, ◌≢◌, ◌<◌, length, get_or, true, false, List, [], map, Contains, Some, slice_get}
use Rattle.std.specs.List.Sorted.{IsStrictlyIncreasing}
use Rattle.nsi_base.specs.Range.{span_of}
use Rattle.nsi_primitive.specs.declared.message.Body.{Body}
use Rattle.nsi_primitive.specs.declared.message.Criteria.{Criteria}
use Rattle.nsi_primitive.specs.declared.message.Message.{Message}
use Rattle.nsi_primitive.specs.declared.message.ReserveRequest.{ReserveRequest}
use Rattle.stp_topology.specs.declared.network.Network.{Network}
use Rattle.agent_state.specs.State.{AgentState, record_at, children_at}
use Rattle.agent_state.specs.declared.parent.Leg.{Leg}
use Rattle.agent_state.specs.declared.parent.View.{View}
use Rattle.child_connection.specs.Views.{ChildConnection}
use Rattle.connection_record.specs.declared.record.Record.{Record}
use Rattle.connection_record.specs.Moves.{is_live}
use Rattle.connection_record.specs.Refusal.{place_of}
use Rattle.path_segments.specs.declared.path.Segment.{Segment}
use Rattle.path_segments.specs.Paths.{IsLeastPath}
use Rattle.aggregator_agent.specs.Setting.{Setting as AggregatorSetting, legs_of}
use Rattle.nsi_agent.specs.Homes.{Role, provides, aggregates, requests}
use Rattle.nsi_agent.specs.Asked.{IsAskedBy}
use Rattle.nsi_world.specs.Worlds.{Homes, IsAgent, World, IsSent, IsTo}
use Rattle.nsi_world.specs.Runs.{is_requester}
use Rattle.run_growth.specs.Cuts.{IsCutOf, state_of_cut, synced_state}
use Rattle.run_growth.specs.InStep.{versions_of}
use Rattle.circuit_link.specs.Headers.{header_of}

---- A view

-- The agent b is the child of that name that the agent a asks: in the topology it is a's provider, or one of its children; another agent, and no
-- requester.
pub record IsChildOf (t : Network) (homes : Homes) (a : ℕ) (name : List ℕ) (b : ℕ) : Type 0 where
  pub agent : IsAgent homes b
  pub named : name ≡ (homes b).name
  pub below : IsAskedBy t a b
  pub other : b ≢ a
  pub asked : is_requester (homes b).role ≡ false

-- A version that a view of the agent a has as committed at the agent b: its commit under a correlation and the confirmation were sent, and it
-- is among those of the record by what b has synced.
pub record IsBackedIn (homes : Homes) (w : World) (a b : ℕ) (x : ChildConnection) (v c : ℕ) : Type 0 where
  pub connection : ℕ
  pub known : x.connection ≡ Some connection
  pub commit : IsSent homes w (record { header = header_of (homes a).name (homes b).name c; body = Body.ReserveCommit connection })
  pub id : ℕ
  pub confirmed : IsSent homes w (record { header = header_of (homes a).name (homes b).name c; body = Body.ReserveCommitConfirmed id })
  pub place : ℕ
  pub there : place_of connection (homes a).name (synced_state homes w b).base.records ≡ Some place
  pub stands : Contains (versions_of (record_at place (synced_state homes w b).base.records)) v

-- Each committed version of such a view has a commit of its own: their correlations in the order of the versions, no two the same.
pub record AreBackedIn (homes : Homes) (w : World) (a b : ℕ) (x : ChildConnection) : Type 0 where
  pub own : List ℕ
  pub long : length own ≡ length x.committed
  pub each : (n : ℕ) → n < length own → IsBackedIn homes w a b x (get_or x.committed n 0) (get_or own n 0)
  pub apart : (n k : ℕ) → n < length own → k < length own → get_or own n 0 ≡ get_or own k 0 → n ≡ k

-- an agent keeps this view: a requester of its provider's connection, an aggregator of a child's
abbrev pub HasView : Role → AgentState → ChildConnection → Type 0
HasView (provides setting stp_of) s x = ⊥
HasView (aggregates setting) s x = (n : ℕ) × Contains (children_at n s.children) x
HasView (requests setting) s x = (v : View) × Contains s.views v × (v.child ≡ x)

-- Whatever a crash leaves of an agent: each of its views is of such a child, which backs all that the view has as committed.
abbrev pub EachViewIsBacked : Network → Homes → World → Type 0
EachViewIsBacked t homes w =
    (a k : ℕ) (x : ChildConnection) → IsAgent homes a → IsCutOf w a k → HasView (homes a).role (state_of_cut homes w a k) x →
    (b : ℕ) × IsChildOf t homes a x.child b × AreBackedIn homes w a b x

-- And what the view has as committed rises.
abbrev pub EachViewRises : Homes → World → Type 0
EachViewRises homes w =
    (a k : ℕ) (x : ChildConnection) → IsAgent homes a → IsCutOf w a k → HasView (homes a).role (state_of_cut homes w a k) x → IsStrictlyIncreasing x.committed

---- An aggregator's own record

-- the legs are those of the least path of the aggregator a between two points
abbrev pub IsLeastWay : Network → (a source dest : ℕ) → List Leg → Type 0
IsLeastWay t a source dest legs = (xs : List Segment) × IsLeastPath t a source dest xs × (legs ≡ legs_of t xs)

-- the leg of a way that a view is of
abbrev pub leg_in : ChildConnection → Leg
leg_in x = record { child = x.child; source = x.source; dest = x.dest }

-- While the connection lives, so does the record that a version of a view is backed by.
abbrev pub LivesIn : Homes → World → (a b : ℕ) → Record → ChildConnection → ℕ → Type 0
LivesIn homes w a b own x v = (c : ℕ) (backed : IsBackedIn homes w a b x v c) → is_live own.lsm ≡ true → is_live (record_at backed.place (synced_state homes w b).base.records).lsm ≡ true

-- a record is between the two points of a view
pub record IsBetween (x : ChildConnection) (r : Record) : Type 0 where
  pub source : r.service.source ≡ x.source
  pub dest : r.service.dest ≡ x.dest

-- So is the record that a version of the view is backed by.
abbrev pub IsBetweenIn : Homes → World → (a b : ℕ) → ChildConnection → ℕ → Type 0
IsBetweenIn homes w a b x v = (c : ℕ) (backed : IsBackedIn homes w a b x v c) → IsBetween x (record_at backed.place (synced_state homes w b).base.records)

-- The record of the parent that a view knows by its connection has these criteria as committed: their version, their schedule and their capacity.
pub record HasCriteria (parent : List ℕ) (x : ChildConnection) (rs : List Record) (k : Criteria) : Type 0 where
  pub connection : ℕ
  pub known : x.connection ≡ Some connection
  pub place : ℕ
  pub there : place_of connection parent rs ≡ Some place
  pub has : Contains (record_at place rs).committed k

-- So has the child's record of a view the criteria of a version of the own record.
abbrev pub HasCriteriaIn : Homes → World → (a b : ℕ) → Record → ChildConnection → ℕ → Type 0
HasCriteriaIn homes w a b own x v = (k : Criteria) → Contains own.committed k → k.version ≡ v → HasCriteria (homes a).name x (synced_state homes w b).base.records k

-- A version of a connection that the agent a has made stands in each network on its way. Its children are the legs of the least path between its
-- two points, of which there is one at least. The view of each has the version as committed, by a commit of its own that was sent and confirmed,
-- and its record has it by what is synced there; that record lives while the connection does, is between the two points of the leg, and has the
-- version's criteria as the connection has them: the same schedule and capacity. No two children have one record.
pub record IsCircuit (t : Network) (homes : Homes) (w : World) (a : ℕ) (own : Record) (children : List ChildConnection) (v : ℕ) : Type 0 where
  pub some : children ≡ [] → ⊥
  pub way : IsLeastWay t a own.source own.dest (map leg_in children)
  pub each : (x : ChildConnection) → Contains children x →
      Contains x.committed v × (b : ℕ) × (c : ℕ) × IsChildOf t homes a x.child b × IsBackedIn homes w a b x v c × LivesIn homes w a b own x v × IsBetweenIn homes w a b x v ×
      HasCriteriaIn homes w a b own x v
  pub apart : (i j b c d : ℕ) (x y : ChildConnection) → slice_get children i ≡ Some x → slice_get children j ≡ Some y → IsChildOf t homes a x.child b → IsChildOf t homes a y.child b →
      (p : IsBackedIn homes w a b x v c) (q : IsBackedIn homes w a b y v d) → p.place ≡ q.place → i ≡ j

-- Whatever a crash leaves of an aggregator: each version that a record of it has as committed is such a circuit.
abbrev pub EachCircuitStands : Network → Homes → World → Type 0
EachCircuitStands t homes w =
    (a k n v : ℕ) (setting : AggregatorSetting) (own : Record) → IsAgent homes a → (homes a).role ≡ aggregates setting → IsCutOf w a k →
    slice_get (state_of_cut homes w a k).base.records n ≡ Some own → Contains (versions_of own) v →
    IsCircuit t homes w a own (children_at n (state_of_cut homes w a k).children) v

-- Whatever a crash leaves of an aggregator and of a child: while a connection of the aggregator lives, so does the child's record of each of
-- its views.
abbrev pub EachChildLives : Network → Homes → World → Type 0
EachChildLives t homes w =
    (a b k j n id place : ℕ) (setting : AggregatorSetting) (own : Record) (x : ChildConnection) → IsAgent homes a → (homes a).role ≡ aggregates setting → IsCutOf w a k →
    slice_get (state_of_cut homes w a k).base.records n ≡ Some own → is_live own.lsm ≡ true → Contains (children_at n (state_of_cut homes w a k).children) x →
    IsChildOf t homes a x.child b → IsCutOf w b j → x.connection ≡ Some id → place_of id (homes a).name (state_of_cut homes w b j).base.records ≡ Some place →
    is_live (record_at place (state_of_cut homes w b j).base.records).lsm ≡ true

-- Whatever a crash leaves of an aggregator: two of its views that are backed by one record are one, of whichever connections.
abbrev pub NoRecordIsShared : Network → Homes → World → Type 0
NoRecordIsShared t homes w =
    (a b k n i m j u v c d : ℕ) (setting : AggregatorSetting) (x y : ChildConnection) → IsAgent homes a → (homes a).role ≡ aggregates setting → IsCutOf w a k →
    slice_get (children_at n (state_of_cut homes w a k).children) i ≡ Some x → slice_get (children_at m (state_of_cut homes w a k).children) j ≡ Some y →
    IsChildOf t homes a x.child b → IsChildOf t homes a y.child b → (p : IsBackedIn homes w a b x u c) (q : IsBackedIn homes w a b y v d) → p.place ≡ q.place → (n ≡ m) × (i ≡ j)

---- Criteria

-- A reserve asks for criteria: for their schedule and capacity, and for their version where it gives one.
pub record AsksFor (q : ReserveRequest) (k : Criteria) : Type 0 where
  pub start : q.start ≡ Some k.interval.start
  pub interval : span_of k.interval.start q.end ≡ Some k.interval
  pub capacity : q.capacity ≡ k.capacity
  pub version : (v : ℕ) → q.version ≡ Some v → v ≡ k.version

-- the agent b was asked for criteria in that requester's name, by a reserve that was sent
pub record WasAskedFor (homes : Homes) (w : World) (b : ℕ) (requester : List ℕ) (k : Criteria) : Type 0 where
  pub message : Message
  pub sent : IsSent homes w message
  pub to : IsTo homes b message
  pub from : message.header.requester ≡ requester
  pub reserve : ReserveRequest
  pub body : message.body ≡ Body.Reserve reserve
  pub asks : AsksFor reserve k

-- Whatever a crash leaves of an agent that is asked: each criteria that a record of it has as committed its owner has asked for.
abbrev pub EachCriteriaWasAskedFor : Homes → World → Type 0
EachCriteriaWasAskedFor homes w =
    (b j n : ℕ) (r : Record) (k : Criteria) → IsAgent homes b → is_requester (homes b).role ≡ false → IsCutOf w b j →
    slice_get (state_of_cut homes w b j).base.records n ≡ Some r → Contains r.committed k → WasAskedFor homes w b r.owner k

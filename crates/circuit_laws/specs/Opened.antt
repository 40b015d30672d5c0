-- What laws say of a circuit beside what stands.
use Rattle.std.specs.Prelude.{ℕ, ◌≡◌, false, Contains, Some, None, slice_get}
use Rattle.nsi_primitive.specs.declared.message.Body.{Body}
use Rattle.nsi_primitive.specs.declared.message.Criteria.{Criteria}
use Rattle.nsi_primitive.specs.declared.message.Message.{Message}
use Rattle.nsi_primitive.specs.declared.message.ReserveRequest.{ReserveRequest}
use Rattle.stp_topology.specs.declared.network.Network.{Network}
use Rattle.agent_state.specs.State.{record_at, children_at, name_or}
use Rattle.child_connection.specs.Views.{ChildConnection}
use Rattle.connection_record.specs.declared.record.Record.{Record}
use Rattle.connection_record.specs.Moves.{service_of}
use Rattle.connection_record.specs.Refusal.{place_of}
use Rattle.aggregator_agent.specs.Setting.{Setting as AggregatorSetting}
use Rattle.nsi_agent.specs.Homes.{aggregates}
use Rattle.nsi_world.specs.Worlds.{Homes, IsAgent, World, IsSent, IsTo}
use Rattle.nsi_world.specs.Runs.{is_requester}
use Rattle.run_growth.specs.Cuts.{IsCutOf, state_of_cut, synced_state}
use Rattle.circuit_laws.specs.Backed.{IsChildOf, IsBetween, HasCriteria, WasAskedFor}

-- Whatever a crash leaves of an aggregator and of a child: the child's record of a view that knows its connection is between the view's two points.
abbrev pub EachChildIsBetween : Network → Homes → World → Type 0
EachChildIsBetween t homes w =
    (a b k j n id place : ℕ) (setting : AggregatorSetting) (x : ChildConnection) → IsAgent homes a → (homes a).role ≡ aggregates setting → IsCutOf w a k →
    Contains (children_at n (state_of_cut homes w a k).children) x → IsChildOf t homes a x.child b → IsCutOf w b j → x.connection ≡ Some id →
    place_of id (homes a).name (state_of_cut homes w b j).base.records ≡ Some place → IsBetween x (record_at place (state_of_cut homes w b j).base.records)

-- Whatever a crash leaves of an aggregator and of a child: the criteria that a connection of the aggregator has as committed the child's record of
-- each of its views has as committed too.
abbrev pub EachChildHasTheCriteria : Network → Homes → World → Type 0
EachChildHasTheCriteria t homes w =
    (a b k j n : ℕ) (setting : AggregatorSetting) (own : Record) (x : ChildConnection) (c : Criteria) → IsAgent homes a → (homes a).role ≡ aggregates setting → IsCutOf w a k →
    slice_get (state_of_cut homes w a k).base.records n ≡ Some own → Contains own.committed c → Contains (children_at n (state_of_cut homes w a k).children) x →
    IsChildOf t homes a x.child b → IsCutOf w b j → HasCriteria (homes a).name x (state_of_cut homes w b j).base.records c

-- Whatever a crash leaves of an agent that is asked: what a record of it has as pending its owner has asked for, by the reserve that is the record's
-- attempt.
abbrev pub EachAttemptWasAskedFor : Homes → World → Type 0
EachAttemptWasAskedFor homes w =
    (b j n : ℕ) (r : Record) (k : Criteria) → IsAgent homes b → is_requester (homes b).role ≡ false → IsCutOf w b j →
    slice_get (state_of_cut homes w b j).base.records n ≡ Some r → r.pending ≡ Some k →
    (c : ℕ) × (r.attempt ≡ Some c) × (asked : WasAskedFor homes w b r.owner k) × (asked.message.header.correlation ≡ c)

-- A record was opened by a first reserve of its owner that was sent: it has the points and all else of that reserve's service.
pub record WasOpenedBy (homes : Homes) (w : World) (b : ℕ) (r : Record) : Type 0 where
  pub message : Message
  pub sent : IsSent homes w message
  pub to : IsTo homes b message
  pub from : message.header.requester ≡ r.owner
  pub reserve : ReserveRequest
  pub body : message.body ≡ Body.Reserve reserve
  pub unnamed : reserve.connection ≡ None
  pub service : r.service ≡ service_of reserve (name_or reserve.source) (name_or reserve.dest)

-- Whatever a crash leaves of an agent that is asked: each record of it was opened so.
abbrev pub EachRecordWasOpened : Homes → World → Type 0
EachRecordWasOpened homes w =
    (b j n : ℕ) (r : Record) → IsAgent homes b → is_requester (homes b).role ≡ false → IsCutOf w b j → slice_get (state_of_cut homes w b j).base.records n ≡ Some r → WasOpenedBy homes w b r

-- Whatever a crash leaves of an agent that is asked: each record that it has for an aggregator is between the two points of a view that the
-- aggregator has of it, by what the aggregator has synced.
abbrev pub EachRecordHasAViewsPoints : Homes → World → Type 0
EachRecordHasAViewsPoints homes w =
    (a b j n : ℕ) (setting : AggregatorSetting) (r : Record) → IsAgent homes a → (homes a).role ≡ aggregates setting → IsAgent homes b → is_requester (homes b).role ≡ false → IsCutOf w b j →
    slice_get (state_of_cut homes w b j).base.records n ≡ Some r → r.owner ≡ (homes a).name →
    (i : ℕ) × (x : ChildConnection) × Contains (children_at i (synced_state homes w a).children) x × (x.child ≡ (homes b).name) × (r.service.source ≡ x.source) × (r.service.dest ≡ x.dest)

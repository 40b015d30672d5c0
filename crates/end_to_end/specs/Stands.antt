-- What is booked from end to end, in a world and in each.
use Rattle.std.specs.Prelude.{ℕ, ◌≡◌, true, List, Some, Contains, slice_get}
use Rattle.std.specs.List.{All}
use Rattle.nsi_primitive.specs.declared.entry.Event.{Event}
use Rattle.nsi_primitive.specs.declared.message.Criteria.{Criteria}
use Rattle.stp_topology.specs.declared.network.Network.{Network}
use Rattle.stp_topology.specs.Network.{stp_of}
use Rattle.agent_state.specs.declared.parent.View.{View}
use Rattle.connection_record.specs.declared.record.Record.{Record}
use Rattle.connection_record.specs.Moves.{is_live}
use Rattle.child_connection.specs.Views.{ChildConnection}
use Rattle.requester_agent.specs.Setting.{Setting as RequesterSetting}
use Rattle.aggregator_agent.specs.Setting.{Setting as AggregatorSetting}
use Rattle.nsi_agent.specs.Homes.{Routes, aggregates, requests, home_in}
use Rattle.nsi_world.specs.Worlds.{Homes, IsAgent, World}
use Rattle.run_growth.specs.Cuts.{IsCutOf, state_of_cut}
use Rattle.run_growth.specs.Safe.{InEachWorld}
use Rattle.circuit_laws.specs.Backed.{IsChildOf, WasAskedFor}
use Rattle.end_to_end.specs.EndToEnd.{Booking, IsEndToEnd, IsLiving}

-- A connection has these criteria from end to end: it is booked so between its own two ports, and while it lives each of the bookings does.
pub record StandsEndToEnd (t : Network) (homes : Homes) (w : World) (own : Record) (k : Criteria) : Type 0 where
  pub bookings : List Booking
  pub circuit : IsEndToEnd t homes w own.source own.dest k bookings
  pub living : is_live own.lsm ≡ true → All IsLiving bookings

-- Whatever a crash leaves of an aggregator: each criteria that a connection of it has as committed stand from end to end.
abbrev pub EachConnectionStands : Network → Homes → World → Type 0
EachConnectionStands t homes w =
    (a k n : ℕ) (setting : AggregatorSetting) (own : Record) (c : Criteria) → IsAgent homes a → (homes a).role ≡ aggregates setting → IsCutOf w a k →
    slice_get (state_of_cut homes w a k).base.records n ≡ Some own → Contains own.committed c → StandsEndToEnd t homes w own c

-- A version that a view has as committed: it is booked from end to end between the view's own two points, with criteria that have this version and
-- that were asked for, by a reserve that was sent.
pub record IsKnownEndToEnd (t : Network) (homes : Homes) (w : World) (a : ℕ) (x : ChildConnection) (v : ℕ) : Type 0 where
  pub criteria : Criteria
  pub version : criteria.version ≡ v
  pub source : ℕ
  pub from : stp_of t x.source ≡ Some source
  pub dest : ℕ
  pub to : stp_of t x.dest ≡ Some dest
  pub bookings : List Booking
  pub circuit : IsEndToEnd t homes w source dest criteria bookings
  pub provider : ℕ
  pub below : IsChildOf t homes a x.child provider
  pub asked : WasAskedFor homes w provider (homes a).name criteria

-- Whatever a crash leaves of a requester: so is each version that it knows as committed.
abbrev pub EachVersionIsKnown : Network → Homes → World → Type 0
EachVersionIsKnown t homes w =
    (a k i v : ℕ) (setting : RequesterSetting) (x : View) → IsAgent homes a → (homes a).role ≡ requests setting → IsCutOf w a k →
    slice_get (state_of_cut homes w a k).views i ≡ Some x → Contains x.child.committed v → IsKnownEndToEnd t homes w a x.child v

-- in the world after each front of the events
pub record StandsInEachWorld (t : Network) (routes : Routes) (events : List Event) : Type 0 where
  pub connections : InEachWorld events (EachConnectionStands t (home_in t routes))
  pub versions : InEachWorld events (EachVersionIsKnown t (home_in t routes))

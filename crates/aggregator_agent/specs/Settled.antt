-- Connections to which nothing is left to do as their children stand.
use Rattle.std.specs.Prelude.{◌≡◌, ◌<◌, ℕ, Bool, true, false, List, length, Option, Some, None}
use Rattle.std.specs.List.{list_any}
use Rattle.nsi_primitive.specs.declared.kind.Kind.{Kind}
use Rattle.nsi_primitive.specs.declared.state.Lsm.{Lsm}
use Rattle.nsi_primitive.specs.declared.message.Criteria.{Criteria}
use Rattle.connection_record.specs.declared.record.Record.{Record}
use Rattle.connection_record.specs.declared.moves.ReservationMove.{ReservationMove}
use Rattle.child_connection.specs.Views.{ChildConnection}
use Rattle.aggregator_agent.specs.declared.connection_index.ConnectionIndex.{ConnectionIndex}
use Rattle.aggregator_agent.specs.Bonds.{Bond, bond_at}
use Rattle.aggregator_agent.specs.Indexed.{AreFound}
use Rattle.aggregator_agent.specs.Settling.{is_quiet, is_there, reservation_due, provision_due}

-- a move that is due does nothing where criteria would be held, and none are pending
unfoldable pub rests : Option ReservationMove → Option Criteria → Bool
rests None pending = true
rests (Some (ReservationMove.Fit deadline)) None = true
rests _ pending = false

-- neither machine has a move that does something, whoever the agent is
pub record AreAtRest (own : Record) (children : List ChildConnection) : Type 0 where
  pub reservation : (agent : List ℕ) → rests (reservation_due (is_quiet Kind.Reserve children) own.rsm agent children) own.pending ≡ true
  pub provision : (agent : List ℕ) → provision_due (is_quiet Kind.Provision children) own.psm agent children ≡ None

-- a connection that ends waits for a child, and one that has ended waits for nothing
unfoldable pub IsSettledIn : Lsm → Record → List ChildConnection → Type 0
IsSettledIn Lsm.Terminating own children = list_any is_there children ≡ true
IsSettledIn Lsm.Terminated own children = true ≡ true
IsSettledIn _ own children = AreAtRest own children

abbrev pub IsSettled : Bond → Type 0
IsSettled b = IsSettledIn b.own.lsm b.own b.children

abbrev pub AreSettled : List Bond → Type 0
AreSettled bs = (n : ℕ) → n < length bs → IsSettled (bond_at n bs)

---- A table

-- each connection is found, and has nothing left to do
abbrev pub IsTable : ConnectionIndex → List Bond → Type 0
IsTable index bs = AreFound index bs × AreSettled bs

-- A view and its child: where the view's record is, and what else of the child concerns the view.
use Rattle.std.specs.Prelude.{ℕ, ◌≡◌, ◌<◌, Bool, true, false, List, Contains, Option, Some, None, length, ◌||◌}
use Rattle.nsi_primitive.specs.declared.kind.Kind.{Kind}
use Rattle.nsi_primitive.specs.declared.message.Body.{Body}
use Rattle.message_retry.specs.Taken.{is_taken}
use Rattle.child_connection.specs.Views.{ChildConnection, sent}
use Rattle.child_connection.specs.Holding.{teaches, IsHeeded}
use Rattle.connection_record.specs.declared.record.Record.{Record}
use Rattle.connection_record.specs.Courses.{IsAlone}
use Rattle.connection_record.specs.Speaking.{is_of, owed}
use Rattle.agent_state.specs.State.{record_at}
use Rattle.circuit_link.specs.Children.{Child, about, record_of, side_of}
use Rattle.circuit_link.specs.Headers.{header_of}
use Rattle.circuit_link.specs.Links.{Link}

-- the record at the view's place has this id
abbrev pub IsSeatOf : Option ℕ → List Record → ℕ → Type 0
IsSeatOf place rs id = (n : ℕ) × (place ≡ Some n) × ((record_at n rs).id ≡ id)

-- whether a kind of answer teaches its view the connection's id
abbrev pub is_teaching : ℕ → Bool
is_teaching n = is_of Kind.ReserveResponse n || (is_of Kind.ReserveConfirmed n || (is_of Kind.ReserveFailed n || is_of Kind.ReserveTimeout n))

-- The record at the view's place is the parent's. Under a correlation that the view listens to no other record of the parent owes an answer, nor
-- does another machine of its own. The connection that the view knows, and each that it may learn, is that of its record.
pub record IsSeated (parent child : List ℕ) (x : ChildConnection) (place : Option ℕ) (d : Child) : Type 0 where
  pub seated : (n : ℕ) → place ≡ Some n → (n < length d.records) × ((record_at n d.records).owner ≡ parent)
  pub others : (n : ℕ) → (place ≡ Some n → ⊥) → (record_at n d.records).owner ≡ parent → (c : ℕ) → IsHeeded x c → (k : ℕ) → owed c k (record_at n d.records) ≡ 0
  pub alone : (c : ℕ) → IsHeeded x c → IsAlone c (record_of place d.records)
  pub known : (id : ℕ) → x.connection ≡ Some id → IsSeatOf place d.records id
  pub named : (c : ℕ) (b : Body) (id : ℕ) → IsHeeded x c → Contains (about (header_of parent child c) d.said) b → teaches b ≡ Some id → IsSeatOf place d.records id

-- the record was opened for the view's first reserve, which isn't answered yet: each answer to it teaches the id
pub record IsOpening (parent child : List ℕ) (x : ChildConnection) (n : ℕ) (d : Child) : Type 0 where
  pub c : ℕ
  pub asked : x.reserve_request ≡ Some (sent c Kind.Reserve)
  pub attempt : x.attempt ≡ Some c
  pub taken : is_taken (header_of parent child c) d.seen ≡ true
  pub owes : (k : ℕ) → is_teaching k ≡ false → owed c k (record_at n d.records) ≡ 0
  pub says : (b : Body) → Contains (about (header_of parent child c) d.said) b → teaches b ≡ None → ⊥

-- a view that has a record without knowing its id waits for the answer to its first reserve
abbrev pub IsOpened : (parent child : List ℕ) → ChildConnection → Option ℕ → Child → Type 0
IsOpened parent child x place d = (n : ℕ) → place ≡ Some n → x.connection ≡ None → IsOpening parent child x n d

-- a view and its child, where the view's record is at that place, or nowhere yet
pub record IsMate (parent child : List ℕ) (x : ChildConnection) (place : Option ℕ) (d : Child) : Type 0 where
  pub linked : Link x (side_of parent child place d)
  pub seated : IsSeated parent child x place d
  pub opened : IsOpened parent child x place d

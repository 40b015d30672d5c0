-- A connection of an aggregator in the course of an entry.
use Rattle.std.specs.Prelude.{◌≡◌, ℕ, [], ◌++◌, List, get_or, slice_set, Option, Result, OnOk, IfOk}
use Rattle.std.specs.declared.alloc.AllocError.{AllocError}
use Rattle.nsi_primitive.specs.declared.kind.Kind.{Kind}
use Rattle.nsi_primitive.specs.declared.message.Body.{Body}
use Rattle.nsi_primitive.specs.declared.message.Message.{Message}
use Rattle.child_connection.specs.Views.{ChildConnection, new_view}
use Rattle.aggregator_agent.specs.declared.connection.Connection.{Connection}
use Rattle.aggregator_agent.specs.declared.connection.Turning.{Turning}
use Rattle.aggregator_agent.specs.declared.agent.Agent.{Agent}
use Rattle.aggregator_agent.specs.Turns.{said_of}
use Rattle.aggregator_agent.specs.Asking.{Turn, Asked, Asking, asked_view, request_of}

abbrev pub turn_of : Connection → Turning → Turn
turn_of c t =
    record {
      own = c.own;
      children = c.children.items;
      replies = t.replies.items;
      asked = t.asked.items;
      notices = t.notices.items;
      next = t.next;
    }

abbrev pub said_by : Agent → List ℕ → Turning → List Message
said_by agent owner t = said_of agent owner t.replies.items t.asked.items t.notices.items

-- a view of nothing
abbrev pub no_view : ChildConnection
no_view = new_view [] [] []

abbrev pub view_at : ℕ → List ChildConnection → ChildConnection
view_at n views = get_or views n no_view

---- One child

-- a child is asked a body of a kind under a correlation, or not at all; the request is handed on
pub record IsAskOf (agent : List ℕ) (c : ℕ) (k : Kind) (body : Option Body) (old new : ChildConnection) (result : Result (Option Message) AllocError) : Type 0 where
  pub child : OnOk result (new ≡ asked_view body k c old)
  pub request : IfOk result (λ request. request ≡ request_of body agent c old)

-- what is asked of a child is kept behind what was asked before, and all else is as it was
pub record IsAsked {X : Type 0} (old new : Turning) (x y : ChildConnection) (result : Result X AllocError) (one : Asked) : Type 0 where
  pub child : OnOk result (y ≡ one.child)
  pub asked : OnOk result (new.asked.items ≡ old.asked.items ++ one.asked)
  pub next : OnOk result (new.next ≡ one.next)
  pub replies : new.replies ≡ old.replies
  pub notices : new.notices ≡ old.notices

-- the same of the child at a place among others
pub record IsAskedAt {X : Type 0} (old new : Turning) (place : ℕ) (xs ys : List ChildConnection) (result : Result X AllocError) (one : Asked) : Type 0 where
  pub child : OnOk result (ys ≡ slice_set xs place one.child)
  pub asked : OnOk result (new.asked.items ≡ old.asked.items ++ one.asked)
  pub next : OnOk result (new.next ≡ one.next)
  pub replies : new.replies ≡ old.replies
  pub notices : new.notices ≡ old.notices

-- the same of all children
pub record AreAsked {X : Type 0} (old new : Turning) (ys : List ChildConnection) (result : Result X AllocError) (all : Asking) : Type 0 where
  pub children : OnOk result (ys ≡ all.children)
  pub asked : OnOk result (new.asked.items ≡ old.asked.items ++ all.asked)
  pub next : OnOk result (new.next ≡ all.next)
  pub replies : new.replies ≡ old.replies
  pub notices : new.notices ≡ old.notices

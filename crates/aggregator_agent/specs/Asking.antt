-- A connection in the course of one entry, and what its children are asked.
use Rattle.std.specs.Prelude.{ℕ, ◌+◌, Bool, true, false, List, [], ◌∷◌, ◌++◌, Option, Some, None, option_map, option_to_list, map}
use Rattle.std.specs.Str.{bytes_eq}
use Rattle.nsi_primitive.specs.Messages.{kind_of}
use Rattle.nsi_primitive.specs.Ids.{id_of}
use Rattle.nsi_primitive.specs.declared.kind.Kind.{Kind}
use Rattle.nsi_primitive.specs.declared.message.Body.{Body}
use Rattle.nsi_primitive.specs.declared.message.Criteria.{Criteria}
use Rattle.nsi_primitive.specs.declared.message.Message.{Message}
use Rattle.nsi_primitive.specs.declared.message.Service.{Service}
use Rattle.connection_record.specs.declared.record.Record.{Record}
use Rattle.connection_record.specs.declared.moves.Reply.{Reply}
use Rattle.connection_record.specs.Replies.{Moved}
use Rattle.child_connection.specs.declared.state.Phase.{Phase}
use Rattle.child_connection.specs.declared.state.Sent.{Sent}
use Rattle.child_connection.specs.Views.{ChildConnection, new_view, open_request}
use Rattle.child_connection.specs.Asks.{asks, request_about, reserve_for, to_child}
use Rattle.agent_state.specs.declared.parent.Leg.{Leg}
use Rattle.aggregator_agent.specs.declared.agent.Agent.{Agent}

-- its own record and the views of its children; what it has said so far: answers, requests to children, notices; and the number of the next id
pub record Turn : Type 0 where
  pub own : Record
  pub children : List ChildConnection
  pub replies : List Reply
  pub asked : List Message
  pub notices : List Reply
  pub next : ℕ

abbrev pub begin : Record → List ChildConnection → ℕ → Turn
begin own children next = record { own = own; children = children; replies = []; asked = []; notices = []; next = next }

-- the own record moves, and answers
abbrev pub replies_by : Turn → Moved → Turn
replies_by t x = record t { own = x.rec; replies = t.replies ++ x.out }

-- the own record moves, and gives notice under a correlation that is there already
abbrev pub notices_by : Turn → Moved → Turn
notices_by t x = record t { own = x.rec; notices = t.notices ++ x.out }

-- the number of the next id, once what is said under an id of its own has drawn it
unfoldable pub next_after : List Reply → ℕ → ℕ
next_after [] next = next
next_after (x ∷ xs) next = next + 1

-- the own record moves, and gives notice under the next id
abbrev pub notices_under : Turn → Moved → Turn
notices_under t x = record t { own = x.rec; notices = t.notices ++ x.out; next = next_after x.out t.next }

---- Requests to children

-- a view after its child was asked, or not; the request to it, if any; and the number of the next id
pub record Asked : Type 0 where
  pub child : ChildConnection
  pub asked : List Message
  pub next : ℕ

-- the view after its child was asked, or not
unfoldable pub asked_view : Option Body → Kind → ℕ → ChildConnection → ChildConnection
asked_view None k c x = x
asked_view (Some body) k c x = asks k c x

-- the request itself
abbrev pub request_of : Option Body → List ℕ → ℕ → ChildConnection → Option Message
request_of body agent c x = option_map (λ b. to_child agent c x b) body

-- the number of the next id, once a request has drawn it
unfoldable pub next_behind : Option Message → ℕ → ℕ
next_behind None next = next
next_behind (Some m) next = next + 1

-- a child is asked under the next id, or left out where there is nothing to ask
abbrev pub ask_one : Option Body → Kind → Agent → ℕ → ChildConnection → Asked
ask_one body k agent next x =
    record {
      child = asked_view body k (id_of agent.number next) x;
      asked = option_to_list (request_of body agent.name (id_of agent.number next) x);
      next = next_behind (request_of body agent.name (id_of agent.number next) x) next;
    }

-- the same of all children
pub record Asking : Type 0 where
  pub children : List ChildConnection
  pub asked : List Message
  pub next : ℕ

abbrev pub asks_none : ℕ → Asking
asks_none next = record { children = []; asked = []; next = next }

-- a child stands before those behind it
abbrev pub asked_before : Asked → Asking → Asking
asked_before x rest = record { children = x.child ∷ rest.children; asked = x.asked ++ rest.asked; next = rest.next }

-- each child in the order of the segments, the next with the number that the one before it leaves
unfoldable pub each : (ℕ → ChildConnection → Asked) → ℕ → List ChildConnection → Asking
each does next [] = asks_none next
each does next (x ∷ xs) = asked_before (does next x) (each does (does next x).next xs)

abbrev pub asks_by : Turn → Asking → Turn
asks_by t a = record t { children = a.children; asked = t.asked ++ a.asked; next = a.next }

---- What a child is asked

-- a machine of a child has one request at a time
abbrev pub if_free : Option Sent → Option Body → Option Body
if_free None body = body
if_free (Some request) body = None

-- a request about a child whose id is known
unfoldable pub request_if : Bool → Kind → ChildConnection → Option Body
request_if true k x = if_free (open_request k x) (option_map (λ id. request_about k id) x.connection)
request_if false k x = None

-- an abort goes to a child that has something to give back
unfoldable pub may_abort : Phase → Bool
may_abort Phase.Held = true
may_abort Phase.Failed = true
may_abort Phase.TimedOut = true
may_abort _ = false

-- a child whose id isn't known is told the service
abbrev pub service_for : Option ℕ → Service → Option Service
service_for None service = Some service
service_for (Some id) service = None

-- a segment has two points: a view of one point asks for nothing
abbrev pub if_apart : Bool → Option Body → Option Body
if_apart true body = None
if_apart false body = body

-- a reserve has the version and the criteria that the own record asks for
unfoldable pub reserve_if : Option Criteria → Service → ChildConnection → Option Body
reserve_if None service x = None
reserve_if (Some c) service x =
    if_free (open_request Kind.Reserve x)
    (if_apart (bytes_eq x.source x.dest)
    (Some (Body.Reserve (reserve_for (service_for x.connection service) (Some c.version) c.interval.start c.interval.end c.capacity x))))

-- what a child is sent for a request that the own record has taken
unfoldable pub passed_on : Body → Record → ChildConnection → Option Body
passed_on (Body.Reserve _) own x = reserve_if own.pending own.service x
passed_on (Body.ReserveCommit _) own x = request_if true Kind.ReserveCommit x
passed_on (Body.ReserveAbort _) own x = request_if (may_abort x.phase) Kind.ReserveAbort x
passed_on (Body.Provision _) own x = request_if true Kind.Provision x
passed_on (Body.Release _) own x = request_if true Kind.Release x
passed_on (Body.Terminate _) own x = request_if true Kind.Terminate x
passed_on _ own x = None

-- a child is asked what its request passes on
abbrev pub pass_one : Message → Agent → Record → ℕ → ChildConnection → Asked
pass_one m agent own next x = ask_one (passed_on m.body own x) (kind_of m.body) agent next x

-- so is each in order
abbrev pub pass_each : Message → Agent → Record → ℕ → List ChildConnection → Asking
pass_each m agent own next children = each (λ n x. pass_one m agent own n x) next children

---- The children of a connection

abbrev pub view_of : Leg → ChildConnection
view_of leg = new_view leg.child leg.source leg.dest

unfoldable pub views_of : List Leg → List ChildConnection
views_of legs = map view_of legs

-- a reserve looks for children where there are none
unfoldable pub with_path : Body → List ChildConnection → List Leg → List ChildConnection
with_path (Body.Reserve _) [] legs = views_of legs
with_path _ children legs = children

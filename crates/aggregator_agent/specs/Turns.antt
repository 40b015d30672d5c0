-- The turn of a connection: by a request of its owner, and by a message of a child.
use Rattle.std.specs.Prelude.{ℕ, Bool, true, false, ◌&&◌, List, ◌++◌, Option, Some, None, map, is_none}
use Rattle.std.specs.List.{list_any}
use Rattle.nsi_primitive.specs.Ids.{id_of}
use Rattle.nsi_primitive.specs.declared.kind.Kind.{Kind}
use Rattle.nsi_primitive.specs.declared.plane.Plane.{Plane}
use Rattle.nsi_primitive.specs.declared.state.Side.{Side}
use Rattle.nsi_primitive.specs.declared.message.Body.{Body}
use Rattle.nsi_primitive.specs.declared.message.Message.{Message}
use Rattle.dataplane_state.specs.Plane.{announces, joined}
use Rattle.connection_record.specs.declared.record.Record.{Record}
use Rattle.connection_record.specs.declared.moves.Reply.{Reply}
use Rattle.connection_record.specs.declared.moves.ReservationMove.{ReservationMove}
use Rattle.connection_record.specs.declared.life.LifecycleMove.{LifecycleMove}
use Rattle.connection_record.specs.Replies.{Moved, addressed}
use Rattle.connection_record.specs.Moves.{reserves_if, is_live}
use Rattle.connection_record.specs.Lives.{lives_if}
use Rattle.connection_record.specs.Applied.{moves_if, requested, is_terminating, tells_plane}
use Rattle.child_connection.specs.declared.state.Taken.{Taken}
use Rattle.child_connection.specs.Views.{ChildConnection}
use Rattle.child_connection.specs.Hearing.{hear}
use Rattle.aggregator_agent.specs.declared.agent.Agent.{Agent}
use Rattle.aggregator_agent.specs.Asking.{Turn, Asked, Asking, begin, replies_by, notices_by, notices_under, request_if, ask_one, each, asks_by, pass_each}
use Rattle.aggregator_agent.specs.Settling.{settle}

---- The data plane

abbrev pub plane_of : ChildConnection → Plane
plane_of x = x.plane

-- the status over the children
abbrev pub joined_of : List ChildConnection → Plane
joined_of children = joined (map plane_of children)

-- a change of it is told under the next id
unfoldable pub tell_joined : Plane → Agent → ℕ → Turn → Turn
tell_joined before agent now t =
    notices_under t (tells_plane (announces before (joined_of t.children)) (joined_of t.children) (id_of agent.number t.next) now t.own)

---- A request

unfoldable pub pass_on : Message → Agent → Turn → Turn
pass_on m agent t = asks_by t (pass_each m agent t.own t.next t.children)

-- the own record takes a request
unfoldable pub takes : Message → ℕ → Record → Moved
takes m now own = moves_if Side.Aggregator (requested now m.body m.header.correlation own) now own

-- the own record takes it, the children are asked, and what is due at once is done
unfoldable pub turn_by_request : Agent → ℕ → Message → Turn → Turn
turn_by_request agent now m t = settle agent now (pass_on m agent (replies_by t (takes m now t.own)))

-- and then the change of the data plane is told
abbrev pub requested_turn : Agent → ℕ → Message → Turn → Turn
requested_turn agent now m t = tell_joined (joined_of t.children) agent now (turn_by_request agent now m t)

unfoldable pub request_turn : Agent → ℕ → Message → Record → List ChildConnection → ℕ → Turn
request_turn agent now m own children next = requested_turn agent now m (begin own children next)

---- A message of a child

unfoldable pub is_timed_out : Taken → Bool
is_timed_out Taken.TimedOut = true
is_timed_out _ = false

unfoldable pub is_ended : Taken → Bool
is_ended Taken.Ended = true
is_ended _ = false

-- whether a child is heard to have lost what it held
abbrev pub loses : Message → ChildConnection → Bool
loses m x = is_timed_out (hear m x).taken

-- whether a child's connection is heard to have ended before its time
abbrev pub breaks : Message → ChildConnection → Bool
breaks m x = is_ended (hear m x).taken

-- a child whose id is learnt while the connection is ending is asked to terminate
abbrev pub late_terminate : Bool → Message → ChildConnection → Option Body
late_terminate is_ending m x = request_if (is_ending && is_none x.connection) Kind.Terminate (hear m x).view

-- a child hears the message, and is asked to terminate at once where that is due
abbrev pub hear_one : (is_ending : Bool) → Message → Agent → ℕ → ChildConnection → Asked
hear_one is_ending m agent next x = ask_one (late_terminate is_ending m x) Kind.Terminate agent next (hear m x).view

-- so does each in order
abbrev pub hear_each : (is_ending : Bool) → Message → Agent → ℕ → List ChildConnection → Asking
hear_each is_ending m agent next children = each (λ n x. hear_one is_ending m agent n x) next children

-- a hold that ended below ends the own one, and its origin is passed on
unfoldable pub hold_end_by : Bool → Body → Option ReservationMove
hold_end_by true (Body.ReserveTimeout t) =
    Some (ReservationMove.HoldEnd (record { connection = t.originating_connection; nsa = t.originating_nsa; value = t.value }))
hold_end_by _ body = None

-- a connection that ended below before its time ends the own one; no hold has a part in it, so that the time of one means nothing
unfoldable pub force_by : Bool → ℕ → Body → Option LifecycleMove
force_by true c (Body.ErrorEvent f) =
    Some (LifecycleMove.Force c (record { connection = f.originating_connection; nsa = f.originating_nsa; value = 1 }))
force_by _ c body = None

unfoldable pub hold_ends : Bool → Message → ℕ → Turn → Turn
hold_ends lost m now t = notices_by t (reserves_if (hold_end_by (lost && is_live t.own.lsm) m.body) now t.own)

-- the notice has the next id
unfoldable pub force_ends : Bool → Message → Agent → ℕ → Turn → Turn
force_ends broken m agent now t = notices_under t (lives_if (force_by broken (id_of agent.number t.next) m.body) now t.own)

unfoldable pub heard_by : Message → Agent → Turn → Turn
heard_by m agent t = asks_by t (hear_each (is_terminating t.own.lsm) m agent t.next t.children)

-- its views hear the message, its own hold or life ends with a child's, and what is due then is done
unfoldable pub turn_by_answer : Agent → ℕ → Message → Turn → Turn
turn_by_answer agent now m t =
    settle agent now
    (force_ends (list_any (breaks m) t.children) m agent now
    (hold_ends (list_any (loses m) t.children) m now (heard_by m agent t)))

-- and then the change of the data plane is told
abbrev pub answered_turn : Agent → ℕ → Message → Turn → Turn
answered_turn agent now m t = tell_joined (joined_of t.children) agent now (turn_by_answer agent now m t)

unfoldable pub answer_turn : Agent → ℕ → Message → Record → List ChildConnection → ℕ → Turn
answer_turn agent now m own children next = answered_turn agent now m (begin own children next)

---- What is said

-- answers first, then requests to children, then notices
abbrev pub said_of : Agent → List ℕ → List Reply → List Message → List Reply → List Message
said_of agent owner replies asked notices = addressed agent.name owner replies ++ (asked ++ addressed agent.name owner notices)

unfoldable pub spoken : Agent → Turn → List Message
spoken agent t = said_of agent t.own.owner t.replies t.asked t.notices

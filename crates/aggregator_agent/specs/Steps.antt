-- One entry at an aggregator.
use Rattle.std.specs.Prelude.{ℕ, ◌+◌, Bool, true, false, List, [], ◌∷◌, ◌++◌, ◌&&◌, nat_lt, length, bytes_eq, slice_set, Option, Some, None, option_and_then}
use Rattle.std.specs.List.{list_any}
use Rattle.nsi_primitive.specs.Ids.{id_of}
use Rattle.nsi_primitive.specs.Messages.{is_request, is_query, connection_of}
use Rattle.nsi_primitive.specs.declared.kind.ErrorName.{ErrorName}
use Rattle.nsi_primitive.specs.declared.message.Body.{Body}
use Rattle.nsi_primitive.specs.declared.message.Identity.{Identity}
use Rattle.nsi_primitive.specs.declared.message.Message.{Message}
use Rattle.nsi_primitive.specs.declared.message.ReserveRequest.{ReserveRequest}
use Rattle.nsi_primitive.specs.declared.entry.Entry.{Entry}
use Rattle.nsi_primitive.specs.declared.entry.Input.{Input}
use Rattle.message_retry.specs.Retry.{is_old, saw, without}
use Rattle.connection_record.specs.declared.record.Record.{Record}
use Rattle.connection_record.specs.Moves.{fresh, service_of}
use Rattle.connection_record.specs.Refusal.{refusal, place_of, points_of}
use Rattle.child_connection.specs.Views.{ChildConnection}
use Rattle.agent_state.specs.declared.parent.Due.{Due}
use Rattle.agent_state.specs.Entries.{is_on_time, is_recursive, most_entries, error_reply, query_reply, retry_of, with_retry}
use Rattle.agent_state.specs.State.{AgentState, AgentStepped, stays, sends, counts_agent, record_at, children_at, name_or}
use Rattle.aggregator_agent.specs.declared.agent.Agent.{Agent}
use Rattle.aggregator_agent.specs.Setting.{Setting}
use Rattle.aggregator_agent.specs.Asking.{Turn, with_path}
use Rattle.aggregator_agent.specs.Turns.{request_turn, answer_turn, spoken}
use Rattle.aggregator_agent.specs.Queries.{answer_to}
use Rattle.aggregator_agent.specs.Below.{Sought, is_asked, seek, opened, nested_reply, Heard, hear_below}
use Rattle.aggregator_agent.specs.Clock.{Clocked, clock_all, due_for, told_dues}

---- Messages that came

-- whether a message was taken before
abbrev pub is_seen : AgentState → Message → Bool
is_seen s m = is_old m (retry_of s.base)

abbrev pub sees : Message → AgentState → AgentState
sees m s = record s { base = with_retry (saw m (retry_of s.base)) s.base }

---- A request

-- a connection after its turn is put in its place, and its messages are said
abbrev pub put_back : Setting → AgentState → ℕ → Turn → AgentStepped
put_back setting s n t =
    sends
    (record {
      base = record s.base { records = slice_set s.base.records n t.own; next = t.next };
      children = slice_set s.children n t.children;
      dues = s.dues ++ due_for n s.base.now t.asked;
      queries = s.queries;
      views = s.views;
    })
    (spoken setting.agent t)

abbrev pub children_for : Setting → AgentState → ℕ → Message → List ChildConnection
children_for setting s n m =
    with_path m.body (children_at n s.children) (setting.route (record_at n s.base.records).source (record_at n s.base.records).dest)

-- the connection at a place takes a request
unfoldable pub request_at : Setting → AgentState → ℕ → Message → AgentStepped
request_at setting s n m =
    put_back setting s n (request_turn setting.agent s.base.now m (record_at n s.base.records) (children_for setting s n m) s.base.next)

-- a first reserve makes a connection between the two points, without children yet, under the next id
abbrev pub with_new : Setting → AgentState → Message → ReserveRequest → ℕ × ℕ → AgentState
with_new setting s m q points =
    record s {
      base =
          record s.base {
            records =
                s.base.records ++
                fresh (id_of setting.agent.number s.base.next) m.header.requester (service_of q (name_or q.source) (name_or q.dest)) points.0 points.1 ∷ [];
            next = s.base.next + 1;
          };
      children = s.children ++ [] ∷ [];
    }

abbrev pub opens_between : Option (ℕ × ℕ) → Setting → AgentState → Message → ReserveRequest → AgentStepped
opens_between None setting s m q = stays s
opens_between (Some points) setting s m q = request_at setting (with_new setting s m q points) (length s.base.records) m

abbrev pub opens : Body → Setting → AgentState → Message → AgentStepped
opens (Body.Reserve q) setting s m = opens_between (points_of setting.stp_of q) setting s m q
opens _ setting s m = stays s

abbrev pub request_to : Option ℕ → Setting → AgentState → Message → AgentStepped
request_to None setting s m = stays s
request_to (Some n) setting s m = request_at setting s n m

-- a request that isn't refused: one without a connection opens one
abbrev pub accepts : Option ℕ → Setting → AgentState → Message → AgentStepped
accepts None setting s m = opens m.body setting s m
accepts (Some id) setting s m = request_to (place_of id m.header.requester s.base.records) setting s m

unfoldable pub answers : Option ErrorName → Setting → AgentState → Message → AgentStepped
answers (Some error) setting s m = sends s (error_reply setting.agent.name m error ∷ [])
answers None setting s m = accepts (connection_of m.body) setting s m

---- All else that came

-- connections after a message, what they say, what they have asked of their children, and the number of the next id
pub record Passed : Type 0 where
  pub records : List Record
  pub children : List (List ChildConnection)
  pub out : List Message
  pub dues : List Due
  pub next : ℕ

-- a connection's turn stands before those behind it
abbrev pub pass_more : Agent → (number now : ℕ) → Turn → Passed → Passed
pass_more agent number now t rest =
    record {
      records = t.own ∷ rest.records;
      children = t.children ∷ rest.children;
      out = spoken agent t ++ rest.out;
      dues = due_for number now t.asked ++ rest.dues;
      next = rest.next;
    }

unfoldable pub pass_then : Agent → (number now : ℕ) → Turn → (ℕ → Passed) → Passed
pass_then agent number now t rest = pass_more agent number now t (rest t.next)

-- each connection in order hears the message
unfoldable pub hear_all : Agent → (now number : ℕ) → Message → ℕ → List Record → List (List ChildConnection) → Passed
hear_all agent now number m next (r ∷ rs) (xs ∷ xss) =
    pass_then agent number now (answer_turn agent now m r xs next) (λ n. hear_all agent now (number + 1) m n rs xss)
hear_all agent now number m next rs xss = record { records = rs; children = xss; out = []; dues = []; next = next }

abbrev pub with_passed : AgentState → Passed → AgentStepped
with_passed s p =
    sends
    (record s { base = record s.base { records = p.records; next = p.next }; children = p.children; dues = s.dues ++ p.dues })
    p.out

-- what is answered then stands behind all else
abbrev pub with_heard : Heard → AgentStepped → AgentStepped
with_heard h x = record x { state = record x.state { queries = h.queries }; out = x.out ++ h.out }

-- the connections hear the message, and so do the open queries, whose connections are told as they stood before
unfoldable pub hears : Setting → AgentState → Message → AgentStepped
hears setting s m =
    with_heard (hear_below setting.agent.name s.base.records m s.queries)
    (with_passed s (hear_all setting.agent s.base.now 0 m s.base.next s.base.records s.children))

---- A query

-- the children that can be asked are, and the query waits for their answers; where there is none it is answered at once
abbrev pub opens_query : (waits : Bool) → Setting → AgentState → ℕ → Message → Sought → AgentStepped
opens_query true setting s n m x =
    sends
    (record s { base = record s.base { next = x.next }; dues = s.dues ++ due_for n s.base.now x.asked; queries = s.queries ++ opened m n x ∷ [] })
    x.asked
opens_query false setting s n m x = sends s (nested_reply setting.agent.name (record_at n s.base.records) (opened m n x) ∷ [])

abbrev pub opens_sought : Setting → AgentState → ℕ → Message → Sought → AgentStepped
opens_sought setting s n m x = opens_query (list_any is_asked x.parts) setting s n m x

-- a query about the connection at a place, and all below it
unfoldable pub asks_below : Setting → AgentState → ℕ → Message → AgentStepped
asks_below setting s n m = opens_sought setting s n m (seek setting.agent s.base.next (children_at n s.children))

abbrev pub asks_if_own : (is_own : Bool) → Option ℕ → Setting → AgentState → Message → AgentStepped
asks_if_own true (Some n) setting s m = asks_below setting s n m
asks_if_own true None setting s m = sends s (error_reply setting.agent.name m ErrorName.Nonexistent ∷ [])
asks_if_own false o setting s m = sends s (error_reply setting.agent.name m ErrorName.WrongProvider ∷ [])

-- where the connection stands that a request of its owner names
abbrev pub place_named : Message → List Record → Option ℕ
place_named m records = option_and_then (λ id. place_of id m.header.requester records) (connection_of m.body)

-- every other query is answered at once by what the agent has, which stays as it is
abbrev pub queries : (is_recursive : Bool) → Setting → AgentState → Message → AgentStepped
queries true setting s m = asks_if_own (bytes_eq m.header.provider setting.agent.name) (place_named m s.base.records) setting s m
queries false setting s m = sends s (query_reply setting.agent.name m (answer_to setting.agent.name s m) ∷ [])

-- every other request is one to do something
abbrev pub serves : (is_query : Bool) → Setting → AgentState → Message → AgentStepped
serves true setting s m = queries (is_recursive m.body) setting s m
serves false setting s m = answers (refusal s.base.now setting.agent.name setting.stp_of s.base.records m) setting s m

-- a message is taken once
unfoldable pub receives : (is_request is_old : Bool) → Setting → AgentState → Message → AgentStepped
receives true false setting s m = serves (is_query m.body) setting (sees m s) m
receives false false setting s m = hears setting (sees m s) m
receives _ true setting s m = stays s

---- Time, and acknowledgements

abbrev pub clock_on : AgentState → ℕ → Clocked → AgentStepped
clock_on s now x =
    sends
    (record s { base = record s.base { now = now; records = x.records; next = x.next }; dues = told_dues now s.base.waiting s.dues })
    x.out

-- the clock goes on
unfoldable pub ticks : Setting → ℕ → AgentState → AgentStepped
ticks setting now s = clock_on s now (clock_all setting.agent now 0 s.dues s.base.waiting s.base.next s.base.records)

-- a message that was acknowledged doesn't wait any more
abbrev pub acknowledged : Identity → AgentState → AgentState
acknowledged i s = record s { base = record s.base { waiting = without i s.base.waiting } }

---- One entry

-- an aggregator has no asks of its own
abbrev pub is_for_aggregator : Input → Bool
is_for_aggregator (Input.Ask _ _) = false
is_for_aggregator _ = true

abbrev pub may_take : AgentState → Entry → Bool
may_take s e = nat_lt s.base.taken most_entries && (is_for_aggregator e.input && is_on_time e.input e.second s.base.now)

-- work of a machine and a forced end are a provider's
unfoldable pub step : Input → ℕ → Setting → AgentState → AgentStepped
step (Input.Got m) second setting s = receives (is_request m.body) (is_seen s m) setting s m
step Input.Tick second setting s = ticks setting second s
step (Input.Acked i) second setting s = stays (acknowledged i s)
step (Input.Work _ _) second setting s = stays s
step (Input.Force _) second setting s = stays s
step (Input.Ask _ _) second setting s = stays s

abbrev pub after_if : Bool → Setting → AgentState → Entry → AgentStepped
after_if true setting s e = counts_agent (step e.input e.second setting s)
after_if false setting s e = stays s

-- an entry that may not be taken changes nothing
unfoldable pub after : Setting → AgentState → Entry → AgentStepped
after setting s e = after_if (may_take s e) setting s e

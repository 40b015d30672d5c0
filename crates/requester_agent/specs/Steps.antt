-- One entry at a requester.
use Rattle.std.specs.Prelude.{ℕ, ◌+◌, ◌&&◌, nat_lt, Bool, true, false, List, [], ◌∷◌, ◌++◌, length, map, slice_get, slice_set, position, Option, Some, None}
use Rattle.std.specs.Option.{option_map, option_and_then}
use Rattle.std.specs.Str.{bytes_eq}
use Rattle.nsi_primitive.specs.Ids.{id_of}
use Rattle.nsi_primitive.specs.declared.ask.AskAnswer.{AskAnswer}
use Rattle.nsi_primitive.specs.declared.ask.ReserveAsk.{ReserveAsk}
use Rattle.nsi_primitive.specs.declared.ask.What.{What}
use Rattle.nsi_primitive.specs.declared.entry.Entry.{Entry}
use Rattle.nsi_primitive.specs.declared.entry.Input.{Input}
use Rattle.nsi_primitive.specs.declared.kind.Kind.{Kind}
use Rattle.nsi_primitive.specs.declared.message.Body.{Body}
use Rattle.nsi_primitive.specs.declared.message.Identity.{Identity}
use Rattle.nsi_primitive.specs.declared.message.Message.{Message}
use Rattle.message_retry.specs.Retry.{is_old, saw, without}
use Rattle.child_connection.specs.Views.{new_view}
use Rattle.child_connection.specs.Hearing.{hear}
use Rattle.agent_state.specs.declared.parent.View.{View}
use Rattle.agent_state.specs.State.{AgentState, AgentStepped, stays, counts_agent}
use Rattle.agent_state.specs.Entries.{retry_of, with_retry, is_on_time, most_entries}
use Rattle.requester_agent.specs.Queries.{query_for, query_under}
use Rattle.requester_agent.specs.Setting.{Setting}
use Rattle.requester_agent.specs.Views.{Asked, asks_about, asks_reserve}

---- The view of a label

abbrev pub view_at : List View → ℕ → Option (ℕ × View)
view_at vs n = option_map (λ v. (n, v)) (slice_get vs n)

-- where the view of a label stands, and the view
unfoldable pub find_view : List ℕ → List View → Option (ℕ × View)
find_view label vs = option_and_then (view_at vs) (position (λ v. bytes_eq label v.label) vs)

-- the correlation of the next request
abbrev pub next_id : Setting → AgentState → ℕ
next_id set s = id_of set.number s.base.next

-- an ask is answered: an id was drawn for each request that is sent
unfoldable pub answers : Asked → List View → AgentState → AgentStepped
answers x vs s =
    record {
      state = record s { views = vs; base = record s.base { next = s.base.next + length x.out } };
      out = x.out;
      answer = Some x.answer;
    }

-- nothing is known of the connection
abbrev pub refuses : AgentState → AgentStepped
refuses s = record { state = s; out = []; answer = Some AskAnswer.NoId }

-- the view at a place is asked
unfoldable pub asks_at : ℕ × View → Asked → AgentState → AgentStepped
asks_at found x s = answers x (slice_set s.views found.0 (record found.1 { child = x.child })) s

-- a new view is asked
unfoldable pub asks_new : List ℕ → Asked → AgentState → AgentStepped
asks_new label x s = answers x (s.views ++ record { label = label; child = x.child } ∷ []) s

---- Asks

unfoldable pub asks_found : Option (ℕ × View) → Kind → Setting → AgentState → AgentStepped
asks_found None k set s = refuses s
asks_found (Some found) k set s = asks_at found (asks_about set.name (next_id set s) k found.1.child) s

-- the first reserve of a label makes its view, whose child is the agent that the requester asks
unfoldable pub reserves : Option (ℕ × View) → ReserveAsk → List ℕ → Setting → AgentState → AgentStepped
reserves None q label set s = asks_new label (asks_reserve set.name (next_id set s) q (new_view set.provider q.source q.dest)) s
reserves (Some found) q label set s = asks_at found (asks_reserve set.name (next_id set s) q found.1.child) s

-- a query is sent under the next id, and leaves the views as they are
unfoldable pub sends_query : Option Body → Setting → AgentState → AgentStepped
sends_query None set s = refuses s
sends_query (Some body) set s =
    record {
      state = record s { base = record s.base { next = s.base.next + 1 } };
      out = query_under set (next_id set s) body ∷ [];
      answer = Some AskAnswer.Sent;
    }

unfoldable pub asked_of : What → List ℕ → Option (ℕ × View) → Setting → AgentState → AgentStepped
asked_of (What.Reserve q) label found set s = reserves found q label set s
asked_of What.Commit label found set s = asks_found found Kind.ReserveCommit set s
asked_of What.Abort label found set s = asks_found found Kind.ReserveAbort set s
asked_of What.Provision label found set s = asks_found found Kind.Provision set s
asked_of What.Release label found set s = asks_found found Kind.Release set s
asked_of What.Terminate label found set s = asks_found found Kind.Terminate set s
asked_of what label found set s = sends_query (query_for what found) set s

-- without a label no connection is known, but a summary is of all
unfoldable pub asked : Option (List ℕ) → What → Setting → AgentState → AgentStepped
asked None What.Summary set s = sends_query (Some (Body.QuerySummary None)) set s
asked None what set s = refuses s
asked (Some label) what set s = asked_of what label (find_view label s.views) set s

---- Messages

abbrev pub view_hears : Message → View → View
view_hears m v = record v { child = (hear m v.child).view }

-- each view hears a message that comes for the first time
unfoldable pub hears_if : (is_old : Bool) → Message → AgentState → AgentStepped
hears_if true m s = stays s
hears_if false m s = stays (record s { base = with_retry (saw m (retry_of s.base)) s.base; views = map (view_hears m) s.views })

-- a message waits until it is acknowledged
unfoldable pub acked : Identity → AgentState → AgentStepped
acked i s = stays (record s { base = record s.base { waiting = without i s.base.waiting } })

unfoldable pub ticks : ℕ → AgentState → AgentStepped
ticks second s = stays (record s { base = record s.base { now = second } })

---- One entry

abbrev pub may_take : AgentState → Entry → Bool
may_take s e = nat_lt s.base.taken most_entries && is_on_time e.input e.second s.base.now

-- it has no work, and nothing to end by force
unfoldable pub step : Input → ℕ → Setting → AgentState → AgentStepped
step (Input.Ask number ask) second set s = asked ask.label ask.what set s
step (Input.Got m) second set s = hears_if (is_old m (retry_of s.base)) m s
step Input.Tick second set s = ticks second s
step (Input.Acked i) second set s = acked i s
step (Input.Work n machine) second set s = stays s
step (Input.Force n) second set s = stays s

abbrev pub after_if : Bool → Setting → AgentState → Entry → AgentStepped
after_if true set s e = counts_agent (step e.input e.second set s)
after_if false set s e = stays s

-- an entry that may not be taken changes nothing
unfoldable pub after : Setting → AgentState → Entry → AgentStepped
after set s e = after_if (may_take s e) set s e

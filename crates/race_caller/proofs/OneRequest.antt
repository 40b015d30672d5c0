-- An ask makes a requester send one message at most.
use Rattle.std.proofs.Common.{ℕ, ◌≤◌, ◌≡◌, Bool, true, false, List, [], ◌∷◌, Option, Some, None, length, ap, arith}
use Rattle.nsi_primitive.specs.declared.ask.Ask.{Ask}
use Rattle.nsi_primitive.specs.declared.ask.ReserveAsk.{ReserveAsk}
use Rattle.nsi_primitive.specs.declared.ask.What.{What}
use Rattle.nsi_primitive.specs.declared.kind.Kind.{Kind}
use Rattle.nsi_primitive.specs.declared.message.Body.{Body}
use Rattle.nsi_primitive.specs.declared.message.Message.{Message}
use Rattle.child_connection.specs.declared.state.Sent.{Sent}
use Rattle.child_connection.specs.Views.{ChildConnection, new_view, open_request}
use Rattle.child_connection.specs.Asks.{request_about}
use Rattle.agent_state.specs.declared.parent.View.{View}
use Rattle.agent_state.specs.State.{AgentState}
use Rattle.stp_topology.specs.declared.network.Network.{Network}
use Rattle.requester_agent.specs.Queries.{query_for}
use Rattle.requester_agent.specs.Setting.{Setting, setting_of}
use Rattle.requester_agent.specs.Views.{asks_if_free, asks_if_known, reserve_of}
use Rattle.requester_agent.specs.Steps.{find_view, next_id, answers, asks_at, asks_new, asks_found, reserves, sends_query, asked_of, step, after, after_if, may_take, asked as asks}
use Rattle.race_caller.specs.Plays.{ask_entry, asked}

free_few : (o : Option Sent) (parent : List ℕ) (c : ℕ) (k : Kind) (body : Body) (x : ChildConnection) → length (asks_if_free o parent c k body x).out ≤ 1
unfolding asks_if_free
free_few (Some q) parent c k body x = omega arith
free_few None parent c k body x = omega arith

about_few : (o : Option ℕ) (parent : List ℕ) (c : ℕ) (k : Kind) (x : ChildConnection) → length (asks_if_known o parent c k x).out ≤ 1
unfolding asks_if_known
about_few None parent c k x = omega arith
about_few (Some id) parent c k x = free_few (open_request k x) parent c k (request_about k id) x

found_few : (o : Option (ℕ × View)) (k : Kind) (set : Setting) (s : AgentState) → length (asks_found o k set s).out ≤ 1
unfolding asks_found asks_at answers
found_few None k set s = omega arith
found_few (Some found) k set s = about_few found.1.child.connection set.name (next_id set s) k found.1.child

reserves_few : (o : Option (ℕ × View)) (q : ReserveAsk) (label : List ℕ) (set : Setting) (s : AgentState) → length (reserves o q label set s).out ≤ 1
unfolding reserves asks_at asks_new answers
reserves_few None q label set s =
    let x = new_view set.provider q.source q.dest in
    free_few (open_request Kind.Reserve x) set.name (next_id set s) Kind.Reserve (reserve_of q x) x
reserves_few (Some found) q label set s =
    let x = found.1.child in
    free_few (open_request Kind.Reserve x) set.name (next_id set s) Kind.Reserve (reserve_of q x) x

query_few : (query : Option Body) (set : Setting) (s : AgentState) → length (sends_query query set s).out ≤ 1
unfolding sends_query
query_few None set s = omega arith
query_few (Some body) set s = omega arith

of_few : (what : What) (label : List ℕ) (found : Option (ℕ × View)) (set : Setting) (s : AgentState) → length (asked_of what label found set s).out ≤ 1
unfolding asked_of
of_few (What.Reserve q) label found set s = reserves_few found q label set s
of_few What.Commit label found set s = found_few found Kind.ReserveCommit set s
of_few What.Abort label found set s = found_few found Kind.ReserveAbort set s
of_few What.Provision label found set s = found_few found Kind.Provision set s
of_few What.Release label found set s = found_few found Kind.Release set s
of_few What.Terminate label found set s = found_few found Kind.Terminate set s
of_few what label found set s = query_few (query_for what found) set s

asks_few : (label : Option (List ℕ)) (what : What) (set : Setting) (s : AgentState) → length (asks label what set s).out ≤ 1
unfolding asks
asks_few None What.Summary set s = query_few (Some (Body.QuerySummary None)) set s
asks_few None what set s = omega arith
asks_few (Some label) what set s = of_few what label (find_view label s.views) set s

after_few : (b : Bool) (set : Setting) (s : AgentState) (ask : Ask) → length (after_if b set s (ask_entry s ask)).out ≤ 1
unfolding step
after_few true set s ask = asks_few ask.label ask.what set s
after_few false set s ask = omega arith

pub one_at_most : (t : Network) (a : ℕ) (s : AgentState) (ask : Ask) → length (asked t a s ask).out ≤ 1
unfolding after
one_at_most t a s ask = after_few (may_take s (ask_entry s ask)) (setting_of t a) s ask

-- what is sent first is all that is sent
pub all_sent : (out more : List Message) (m : Message) → out ≡ m ∷ more → length out ≤ 1 → out ≡ m ∷ []
all_sent out [] m e few = e
all_sent out (n ∷ more) m e few = absurd (omega (arith, ap length e, few))

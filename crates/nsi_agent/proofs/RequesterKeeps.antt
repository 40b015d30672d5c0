-- What a requester's step leaves alone: it counts nothing, and puts nothing to what waits; it notes the message that came.
use Rattle.std.proofs.Common.{◌≡◌, inl, inr, ℕ, Bool, true, false, List, Option, Some, None, refl}
use Rattle.nsi_primitive.specs.Messages.{is_request}
use Rattle.nsi_primitive.specs.declared.ask.ReserveAsk.{ReserveAsk}
use Rattle.nsi_primitive.specs.declared.ask.What.{What}
use Rattle.nsi_primitive.specs.declared.entry.Input.{Input}
use Rattle.nsi_primitive.specs.declared.kind.Kind.{Kind}
use Rattle.nsi_primitive.specs.declared.message.Body.{Body}
use Rattle.nsi_primitive.specs.declared.message.Message.{Message}
use Rattle.message_retry.specs.Retry.{saw, saw_if, is_old}
use Rattle.agent_state.specs.declared.parent.View.{View}
use Rattle.agent_state.specs.Entries.{retry_of}
use Rattle.agent_state.specs.State.{AgentState}
use Rattle.requester_agent.specs.Queries.{query_for}
use Rattle.requester_agent.specs.Setting.{Setting}
use Rattle.requester_agent.specs.Steps.{step, asked, asked_of, asks_found, asks_at, asks_new, answers, reserves, sends_query, find_view, hears_if, acked, ticks}
use Rattle.nsi_agent.proofs.ProviderKeeps.{IsStep, IsQuiet, IsSameSeen, HasSeen}

found_quiet : (o : Option (ℕ × View)) (k : Kind) (set : Setting) (s : AgentState) → IsQuiet s.base (asks_found o k set s).state.base
unfolding asks_found asks_at answers
found_quiet None k set s = record { taken = refl; waiting = refl; now = refl }
found_quiet (Some found) k set s = record { taken = refl; waiting = refl; now = refl }

reserves_quiet : (o : Option (ℕ × View)) (q : ReserveAsk) (label : List ℕ) (set : Setting) (s : AgentState) → IsQuiet s.base (reserves o q label set s).state.base
unfolding reserves asks_new asks_at answers
reserves_quiet None q label set s = record { taken = refl; waiting = refl; now = refl }
reserves_quiet (Some found) q label set s = record { taken = refl; waiting = refl; now = refl }

sends_quiet : (query : Option Body) (set : Setting) (s : AgentState) → IsQuiet s.base (sends_query query set s).state.base
unfolding sends_query
sends_quiet None set s = record { taken = refl; waiting = refl; now = refl }
sends_quiet (Some body) set s = record { taken = refl; waiting = refl; now = refl }

of_quiet : (what : What) (label : List ℕ) (o : Option (ℕ × View)) (set : Setting) (s : AgentState) → IsQuiet s.base (asked_of what label o set s).state.base
unfolding asked_of
of_quiet (What.Reserve q) label o set s = reserves_quiet o q label set s
of_quiet What.Commit label o set s = found_quiet o Kind.ReserveCommit set s
of_quiet What.Abort label o set s = found_quiet o Kind.ReserveAbort set s
of_quiet What.Provision label o set s = found_quiet o Kind.Provision set s
of_quiet What.Release label o set s = found_quiet o Kind.Release set s
of_quiet What.Terminate label o set s = found_quiet o Kind.Terminate set s
of_quiet what label o set s = sends_quiet (query_for what o) set s

asked_quiet : (label : Option (List ℕ)) (what : What) (set : Setting) (s : AgentState) → IsQuiet s.base (asked label what set s).state.base
unfolding asked
asked_quiet None What.Summary set s = sends_quiet (Some (Body.QuerySummary None)) set s
asked_quiet None what set s = record { taken = refl; waiting = refl; now = refl }
asked_quiet (Some label) what set s = of_quiet what label (find_view label s.views) set s

saw_waiting : (is_request : Bool) (m : Message) (s : AgentState) → (saw_if is_request m (retry_of s.base)).waiting ≡ s.base.waiting
saw_waiting true m s = refl
saw_waiting false m s = refl

heard : (is_old : Bool) (m : Message) (s : AgentState) → IsQuiet s.base (hears_if is_old m s).state.base
unfolding hears_if saw
heard true m s = record { taken = refl; waiting = refl; now = refl }
heard false m s = record { taken = refl; waiting = saw_waiting (is_request m.body) m s; now = refl }

pub requester_step : (input : Input) (second : ℕ) (set : Setting) (s : AgentState) → IsStep input second s.base (step input second set s).state.base
unfolding step ticks acked
requester_step (Input.Got m) second set s =
    let q = heard (is_old m (retry_of s.base)) m s in
    record { taken = q.taken; waiting = q.waiting; now = q.now }
requester_step (Input.Ask number ask) second set s =
    let q = asked_quiet ask.label ask.what set s in
    record { taken = q.taken; waiting = q.waiting; now = q.now }
requester_step Input.Tick second set s = record { taken = refl; waiting = refl; now = refl }
requester_step (Input.Acked i) second set s = record { taken = refl; waiting = refl; now = refl }
requester_step (Input.Work n machine) second set s = record { taken = refl; waiting = refl; now = refl }
requester_step (Input.Force n) second set s = record { taken = refl; waiting = refl; now = refl }

---- What was taken before

found_seen : (o : Option (ℕ × View)) (k : Kind) (set : Setting) (s : AgentState) → IsSameSeen s.base (asks_found o k set s).state.base
unfolding asks_found asks_at answers
found_seen None k set s = record { seen = refl; heard = refl }
found_seen (Some found) k set s = record { seen = refl; heard = refl }

reserves_seen : (o : Option (ℕ × View)) (q : ReserveAsk) (label : List ℕ) (set : Setting) (s : AgentState) → IsSameSeen s.base (reserves o q label set s).state.base
unfolding reserves asks_new asks_at answers
reserves_seen None q label set s = record { seen = refl; heard = refl }
reserves_seen (Some found) q label set s = record { seen = refl; heard = refl }

sends_seen : (query : Option Body) (set : Setting) (s : AgentState) → IsSameSeen s.base (sends_query query set s).state.base
unfolding sends_query
sends_seen None set s = record { seen = refl; heard = refl }
sends_seen (Some body) set s = record { seen = refl; heard = refl }

of_seen : (what : What) (label : List ℕ) (o : Option (ℕ × View)) (set : Setting) (s : AgentState) → IsSameSeen s.base (asked_of what label o set s).state.base
unfolding asked_of
of_seen (What.Reserve q) label o set s = reserves_seen o q label set s
of_seen What.Commit label o set s = found_seen o Kind.ReserveCommit set s
of_seen What.Abort label o set s = found_seen o Kind.ReserveAbort set s
of_seen What.Provision label o set s = found_seen o Kind.Provision set s
of_seen What.Release label o set s = found_seen o Kind.Release set s
of_seen What.Terminate label o set s = found_seen o Kind.Terminate set s
of_seen what label o set s = sends_seen (query_for what o) set s

asked_seen : (label : Option (List ℕ)) (what : What) (set : Setting) (s : AgentState) → IsSameSeen s.base (asked label what set s).state.base
unfolding asked
asked_seen None What.Summary set s = sends_seen (Some (Body.QuerySummary None)) set s
asked_seen None what set s = record { seen = refl; heard = refl }
asked_seen (Some label) what set s = of_seen what label (find_view label s.views) set s

heard_saw : (is_old : Bool) (m : Message) (s : AgentState) → HasSeen (Input.Got m) s.base (hears_if is_old m s).state.base
unfolding hears_if
heard_saw true m s = inl (record { seen = refl; heard = refl })
heard_saw false m s = inr (record { seen = refl; heard = refl })

pub requester_saw : (input : Input) (second : ℕ) (set : Setting) (s : AgentState) → HasSeen input s.base (step input second set s).state.base
unfolding step ticks acked
requester_saw (Input.Got m) second set s = heard_saw (is_old m (retry_of s.base)) m s
requester_saw (Input.Ask number ask) second set s = inl (asked_seen ask.label ask.what set s)
requester_saw Input.Tick second set s = inl (record { seen = refl; heard = refl })
requester_saw (Input.Acked i) second set s = inl (record { seen = refl; heard = refl })
requester_saw (Input.Work n machine) second set s = inl (record { seen = refl; heard = refl })
requester_saw (Input.Force n) second set s = inl (record { seen = refl; heard = refl })

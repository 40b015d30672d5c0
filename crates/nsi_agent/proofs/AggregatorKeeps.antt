-- What an aggregator's step leaves alone: it counts nothing, and puts nothing to what waits; it notes the message that came.
use Rattle.std.proofs.Common.{◌≡◌, inl, inr, ℕ, Bool, true, false, Option, Some, None, refl, bytes_eq}
use Rattle.std.specs.List.{list_any}
use Rattle.nsi_primitive.specs.Messages.{is_request, connection_of, is_query}
use Rattle.nsi_primitive.specs.declared.entry.Input.{Input}
use Rattle.nsi_primitive.specs.declared.kind.ErrorName.{ErrorName}
use Rattle.nsi_primitive.specs.declared.message.Body.{Body}
use Rattle.nsi_primitive.specs.declared.message.Message.{Message}
use Rattle.nsi_primitive.specs.declared.message.ReserveRequest.{ReserveRequest}
use Rattle.message_retry.specs.Retry.{saw, saw_if}
use Rattle.connection_record.specs.Refusal.{refusal, place_of, points_of}
use Rattle.agent_state.specs.Entries.{retry_of, is_recursive}
use Rattle.agent_state.specs.State.{State, AgentState, children_at}
use Rattle.aggregator_agent.specs.Setting.{Setting}
use Rattle.aggregator_agent.specs.Below.{Sought, is_asked, seek}
use Rattle.aggregator_agent.specs.Steps.{step, receives, opens_query, asks_below, asks_if_own, place_named, queries, serves, answers, accepts, opens, opens_between, request_to, request_at, hears, ticks, sees, is_seen}
use Rattle.nsi_agent.proofs.ProviderKeeps.{IsStep, IsQuiet, IsSameSeen, HasSeen}

saw_waiting : (is_request : Bool) (m : Message) (s : AgentState) → (saw_if is_request m (retry_of s.base)).waiting ≡ s.base.waiting
saw_waiting true m s = refl
saw_waiting false m s = refl

seen_quiet : (m : Message) (s : AgentState) → IsQuiet s.base (sees m s).base
unfolding saw
seen_quiet m s = record { taken = refl; waiting = saw_waiting (is_request m.body) m s; now = refl }

between_quiet : (o : Option (ℕ × ℕ)) (setting : Setting) (s : AgentState) (m : Message) (q : ReserveRequest) → IsQuiet s.base (opens_between o setting s m q).state.base
unfolding request_at
between_quiet None setting s m q = record { taken = refl; waiting = refl; now = refl }
between_quiet (Some points) setting s m q = record { taken = refl; waiting = refl; now = refl }

opens_quiet : (body : Body) (setting : Setting) (s : AgentState) (m : Message) → IsQuiet s.base (opens body setting s m).state.base
opens_quiet (Body.Reserve q) setting s m = between_quiet (points_of setting.stp_of q) setting s m q
opens_quiet _ setting s m = record { taken = refl; waiting = refl; now = refl }

to_quiet : (o : Option ℕ) (setting : Setting) (s : AgentState) (m : Message) → IsQuiet s.base (request_to o setting s m).state.base
unfolding request_at
to_quiet None setting s m = record { taken = refl; waiting = refl; now = refl }
to_quiet (Some n) setting s m = record { taken = refl; waiting = refl; now = refl }

accepts_quiet : (o : Option ℕ) (setting : Setting) (s : AgentState) (m : Message) → IsQuiet s.base (accepts o setting s m).state.base
accepts_quiet None setting s m = opens_quiet m.body setting s m
accepts_quiet (Some id) setting s m = to_quiet (place_of id m.header.requester s.base.records) setting s m

answers_quiet : (o : Option ErrorName) (setting : Setting) (s : AgentState) (m : Message) → IsQuiet s.base (answers o setting s m).state.base
unfolding answers
answers_quiet (Some error) setting s m = record { taken = refl; waiting = refl; now = refl }
answers_quiet None setting s m = accepts_quiet (connection_of m.body) setting s m

sought_quiet : (waits : Bool) (setting : Setting) (s : AgentState) (n : ℕ) (m : Message) (x : Sought) → IsQuiet s.base (opens_query waits setting s n m x).state.base
sought_quiet true setting s n m x = record { taken = refl; waiting = refl; now = refl }
sought_quiet false setting s n m x = record { taken = refl; waiting = refl; now = refl }

own_quiet : (is_own : Bool) (o : Option ℕ) (setting : Setting) (s : AgentState) (m : Message) → IsQuiet s.base (asks_if_own is_own o setting s m).state.base
unfolding asks_below
own_quiet true (Some n) setting s m =
    let x = seek setting.agent s.base.next (children_at n s.children) in
    sought_quiet (list_any is_asked x.parts) setting s n m x
own_quiet true None setting s m = record { taken = refl; waiting = refl; now = refl }
own_quiet false o setting s m = record { taken = refl; waiting = refl; now = refl }

queries_quiet : (is_recursive : Bool) (setting : Setting) (s : AgentState) (m : Message) → IsQuiet s.base (queries is_recursive setting s m).state.base
queries_quiet true setting s m = own_quiet (bytes_eq m.header.provider setting.agent.name) (place_named m s.base.records) setting s m
queries_quiet false setting s m = record { taken = refl; waiting = refl; now = refl }

serves_quiet : (is_query : Bool) (setting : Setting) (s : AgentState) (m : Message) → IsQuiet s.base (serves is_query setting s m).state.base
serves_quiet true setting s m = queries_quiet (is_recursive m.body) setting s m
serves_quiet false setting s m = answers_quiet (refusal s.base.now setting.agent.name setting.stp_of s.base.records m) setting s m

then_quiet : (a b c : State) → IsQuiet a b → IsQuiet b c → IsQuiet a c
then_quiet a b c p q = record { taken = cc; waiting = cc; now = cc }

received : (is_request is_old : Bool) (setting : Setting) (s : AgentState) (m : Message) → IsQuiet s.base (receives is_request is_old setting s m).state.base
unfolding receives hears
received true false setting s m =
    then_quiet s.base (sees m s).base _ (seen_quiet m s) (serves_quiet (is_query m.body) setting (sees m s) m)
received false false setting s m = let q = seen_quiet m s in record { taken = q.taken; waiting = q.waiting; now = q.now }
received true true setting s m = record { taken = refl; waiting = refl; now = refl }
received false true setting s m = record { taken = refl; waiting = refl; now = refl }

pub aggregator_step : (input : Input) (second : ℕ) (setting : Setting) (s : AgentState) → IsStep input second s.base (step input second setting s).state.base
unfolding step ticks
aggregator_step (Input.Got m) second setting s =
    let q = received (is_request m.body) (is_seen s m) setting s m in
    record { taken = q.taken; waiting = q.waiting; now = q.now }
aggregator_step Input.Tick second setting s = record { taken = refl; waiting = refl; now = refl }
aggregator_step (Input.Acked i) second setting s = record { taken = refl; waiting = refl; now = refl }
aggregator_step (Input.Work n machine) second setting s = record { taken = refl; waiting = refl; now = refl }
aggregator_step (Input.Force n) second setting s = record { taken = refl; waiting = refl; now = refl }
aggregator_step (Input.Ask n a) second setting s = record { taken = refl; waiting = refl; now = refl }

---- What was taken before

between_seen : (o : Option (ℕ × ℕ)) (setting : Setting) (s : AgentState) (m : Message) (q : ReserveRequest) → IsSameSeen s.base (opens_between o setting s m q).state.base
unfolding request_at
between_seen None setting s m q = record { seen = refl; heard = refl }
between_seen (Some points) setting s m q = record { seen = refl; heard = refl }

opens_seen : (body : Body) (setting : Setting) (s : AgentState) (m : Message) → IsSameSeen s.base (opens body setting s m).state.base
opens_seen (Body.Reserve q) setting s m = between_seen (points_of setting.stp_of q) setting s m q
opens_seen _ setting s m = record { seen = refl; heard = refl }

to_seen : (o : Option ℕ) (setting : Setting) (s : AgentState) (m : Message) → IsSameSeen s.base (request_to o setting s m).state.base
unfolding request_at
to_seen None setting s m = record { seen = refl; heard = refl }
to_seen (Some n) setting s m = record { seen = refl; heard = refl }

accepts_seen : (o : Option ℕ) (setting : Setting) (s : AgentState) (m : Message) → IsSameSeen s.base (accepts o setting s m).state.base
accepts_seen None setting s m = opens_seen m.body setting s m
accepts_seen (Some id) setting s m = to_seen (place_of id m.header.requester s.base.records) setting s m

answers_seen : (o : Option ErrorName) (setting : Setting) (s : AgentState) (m : Message) → IsSameSeen s.base (answers o setting s m).state.base
unfolding answers
answers_seen (Some error) setting s m = record { seen = refl; heard = refl }
answers_seen None setting s m = accepts_seen (connection_of m.body) setting s m

sought_seen : (waits : Bool) (setting : Setting) (s : AgentState) (n : ℕ) (m : Message) (x : Sought) → IsSameSeen s.base (opens_query waits setting s n m x).state.base
sought_seen true setting s n m x = record { seen = refl; heard = refl }
sought_seen false setting s n m x = record { seen = refl; heard = refl }

own_seen : (is_own : Bool) (o : Option ℕ) (setting : Setting) (s : AgentState) (m : Message) → IsSameSeen s.base (asks_if_own is_own o setting s m).state.base
unfolding asks_below
own_seen true (Some n) setting s m =
    let x = seek setting.agent s.base.next (children_at n s.children) in
    sought_seen (list_any is_asked x.parts) setting s n m x
own_seen true None setting s m = record { seen = refl; heard = refl }
own_seen false o setting s m = record { seen = refl; heard = refl }

queries_seen : (is_recursive : Bool) (setting : Setting) (s : AgentState) (m : Message) → IsSameSeen s.base (queries is_recursive setting s m).state.base
queries_seen true setting s m = own_seen (bytes_eq m.header.provider setting.agent.name) (place_named m s.base.records) setting s m
queries_seen false setting s m = record { seen = refl; heard = refl }

serves_seen : (is_query : Bool) (setting : Setting) (s : AgentState) (m : Message) → IsSameSeen s.base (serves is_query setting s m).state.base
serves_seen true setting s m = queries_seen (is_recursive m.body) setting s m
serves_seen false setting s m = answers_seen (refusal s.base.now setting.agent.name setting.stp_of s.base.records m) setting s m

received_saw : (asks is_old : Bool) (setting : Setting) (s : AgentState) (m : Message) → HasSeen (Input.Got m) s.base (receives asks is_old setting s m).state.base
unfolding receives hears
received_saw true false setting s m =
    let same = serves_seen (is_query m.body) setting (sees m s) m in
    inr (record { seen = same.seen; heard = same.heard })
received_saw false false setting s m = inr (record { seen = refl; heard = refl })
received_saw true true setting s m = inl (record { seen = refl; heard = refl })
received_saw false true setting s m = inl (record { seen = refl; heard = refl })

pub aggregator_saw : (input : Input) (second : ℕ) (setting : Setting) (s : AgentState) → HasSeen input s.base (step input second setting s).state.base
unfolding step ticks
aggregator_saw (Input.Got m) second setting s = received_saw (is_request m.body) (is_seen s m) setting s m
aggregator_saw Input.Tick second setting s = inl (record { seen = refl; heard = refl })
aggregator_saw (Input.Acked i) second setting s = inl (record { seen = refl; heard = refl })
aggregator_saw (Input.Work n machine) second setting s = inl (record { seen = refl; heard = refl })
aggregator_saw (Input.Force n) second setting s = inl (record { seen = refl; heard = refl })
aggregator_saw (Input.Ask n a) second setting s = inl (record { seen = refl; heard = refl })

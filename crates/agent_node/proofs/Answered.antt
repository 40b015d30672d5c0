-- An ask is answered, and nothing else is.
use Rattle.std.proofs.Common.{ℕ, ◌≡◌, ◌↔◌, ◌&&◌, Bool, true, false, List, Option, Some, None, IsTrue, IsSome, is_some, refl, sym, ap, ◌∙◌, bytes_eq}
use Rattle.std.specs.List.{list_any}
use Rattle.nsi_primitive.specs.Printable.{is_ask}
use Rattle.nsi_primitive.specs.Messages.{is_request, connection_of, is_query}
use Rattle.nsi_primitive.specs.declared.ask.ReserveAsk.{ReserveAsk}
use Rattle.nsi_primitive.specs.declared.ask.What.{What}
use Rattle.nsi_primitive.specs.declared.entry.Entry.{Entry}
use Rattle.nsi_primitive.specs.declared.entry.Input.{Input}
use Rattle.nsi_primitive.specs.declared.kind.ErrorName.{ErrorName}
use Rattle.nsi_primitive.specs.declared.kind.Kind.{Kind}
use Rattle.nsi_primitive.specs.declared.message.Body.{Body}
use Rattle.nsi_primitive.specs.declared.message.Message.{Message}
use Rattle.nsi_primitive.specs.declared.message.ReserveRequest.{ReserveRequest}
use Rattle.stp_topology.specs.declared.network.AgentKind.{AgentKind}
use Rattle.stp_topology.specs.declared.network.Network.{Network}
use Rattle.stp_topology.specs.Network.{kind_of}
use Rattle.message_retry.specs.Retry.{is_old}
use Rattle.connection_record.specs.Refusal.{refusal, place_of, points_of}
use Rattle.agent_state.specs.Entries.{retry_of, is_recursive}
use Rattle.agent_state.specs.State.{AgentState, AgentStepped, stays, children_at}
use Rattle.agent_state.specs.declared.parent.View.{View}
use Rattle.aggregator_agent.specs.Setting.{Setting as AggregatorSetting, setting_of as aggregator_of, agent_in}
use Rattle.aggregator_agent.specs.Below.{Sought, is_asked, seek}
use Rattle.aggregator_agent.specs.Steps.{request_at, opens_between, opens, request_to, accepts, answers as aggregator_answers, opens_query, asks_below, asks_if_own, place_named, queries, serves, hears, receives, sees, is_seen, ticks as aggregator_ticks, step as aggregator_step, after as aggregator_after, after_if as aggregator_if, may_take as aggregator_may, is_for_aggregator}
use Rattle.requester_agent.specs.Queries.{query_for}
use Rattle.requester_agent.specs.Setting.{Setting as RequesterSetting, setting_of as requester_of}
use Rattle.requester_agent.specs.Steps.{find_view, asks_at, asks_new, asks_found, reserves, sends_query, asked_of, asked, hears_if, ticks as requester_ticks, acked, answers as requester_answers, step as requester_step, after as requester_after, after_if as requester_if, may_take as requester_may}
use Rattle.provider_agent.specs.Steps.{is_for_provider}
use Rattle.nsi_agent.specs.Homes.{Routes, home_in, role_in}
use Rattle.nsi_agent.specs.Steps.{after, after_as, may_take}

---- An aggregator answers no ask

abbrev Unanswered : AgentStepped → Type 0
Unanswered x = x.answer ≡ None

request_none : (setting : AggregatorSetting) (s : AgentState) (n : ℕ) (m : Message) → Unanswered (request_at setting s n m)
unfolding request_at
request_none setting s n m = refl

between_none : (o : Option (ℕ × ℕ)) (setting : AggregatorSetting) (s : AgentState) (m : Message) (q : ReserveRequest) → Unanswered (opens_between o setting s m q)
unfolding request_at
between_none None setting s m q = refl
between_none (Some points) setting s m q = refl

opens_none : (b : Body) (setting : AggregatorSetting) (s : AgentState) (m : Message) → Unanswered (opens b setting s m)
opens_none (Body.Reserve q) setting s m = between_none (points_of setting.stp_of q) setting s m q
opens_none (Body.ReserveResponse connection) setting s m = refl
opens_none (Body.ReserveConfirmed r) setting s m = refl
opens_none (Body.ReserveFailed connection exception) setting s m = refl
opens_none (Body.ReserveCommit connection) setting s m = refl
opens_none (Body.ReserveCommitConfirmed connection) setting s m = refl
opens_none (Body.ReserveCommitFailed connection exception) setting s m = refl
opens_none (Body.ReserveAbort connection) setting s m = refl
opens_none (Body.ReserveAbortConfirmed connection) setting s m = refl
opens_none (Body.Provision connection) setting s m = refl
opens_none (Body.ProvisionConfirmed connection) setting s m = refl
opens_none (Body.Release connection) setting s m = refl
opens_none (Body.ReleaseConfirmed connection) setting s m = refl
opens_none (Body.Terminate connection) setting s m = refl
opens_none (Body.TerminateConfirmed connection) setting s m = refl
opens_none (Body.Error connection exception) setting s m = refl
opens_none (Body.ReserveTimeout t) setting s m = refl
opens_none (Body.ErrorEvent notice) setting s m = refl
opens_none (Body.DataPlaneStateChange notice) setting s m = refl
opens_none (Body.MessageDeliveryTimeout timeout) setting s m = refl
opens_none (Body.QuerySummary connection) setting s m = refl
opens_none (Body.QueryNotification range) setting s m = refl
opens_none (Body.QueryResult range) setting s m = refl
opens_none (Body.QueryRecursive connection) setting s m = refl
opens_none (Body.QuerySummaryConfirmed more rows) setting s m = refl
opens_none (Body.QueryNotificationConfirmed connection more rows) setting s m = refl
opens_none (Body.QueryResultConfirmed connection more rows) setting s m = refl
opens_none (Body.QueryRecursiveConfirmed connection more rows) setting s m = refl

to_none : (o : Option ℕ) (setting : AggregatorSetting) (s : AgentState) (m : Message) → Unanswered (request_to o setting s m)
to_none None setting s m = refl
to_none (Some n) setting s m = request_none setting s n m

accepts_none : (o : Option ℕ) (setting : AggregatorSetting) (s : AgentState) (m : Message) → Unanswered (accepts o setting s m)
accepts_none None setting s m = opens_none m.body setting s m
accepts_none (Some id) setting s m = to_none (place_of id m.header.requester s.base.records) setting s m

answers_none : (o : Option ErrorName) (setting : AggregatorSetting) (s : AgentState) (m : Message) → Unanswered (aggregator_answers o setting s m)
unfolding aggregator_answers
answers_none (Some error) setting s m = refl
answers_none None setting s m = accepts_none (connection_of m.body) setting s m

sought_none : (waits : Bool) (setting : AggregatorSetting) (s : AgentState) (n : ℕ) (m : Message) (x : Sought) → Unanswered (opens_query waits setting s n m x)
sought_none true setting s n m x = refl
sought_none false setting s n m x = refl

own_none : (is_own : Bool) (o : Option ℕ) (setting : AggregatorSetting) (s : AgentState) (m : Message) → Unanswered (asks_if_own is_own o setting s m)
unfolding asks_below
own_none true (Some n) setting s m =
    let x = seek setting.agent s.base.next (children_at n s.children) in
    sought_none (list_any is_asked x.parts) setting s n m x
own_none true None setting s m = refl
own_none false o setting s m = refl

queries_none : (is_recursive : Bool) (setting : AggregatorSetting) (s : AgentState) (m : Message) → Unanswered (queries is_recursive setting s m)
queries_none true setting s m = own_none (bytes_eq m.header.provider setting.agent.name) (place_named m s.base.records) setting s m
queries_none false setting s m = refl

serves_none : (is_query : Bool) (setting : AggregatorSetting) (s : AgentState) (m : Message) → Unanswered (serves is_query setting s m)
serves_none true setting s m = queries_none (is_recursive m.body) setting s m
serves_none false setting s m = answers_none (refusal s.base.now setting.agent.name setting.stp_of s.base.records m) setting s m

receives_none : (asks old : Bool) (setting : AggregatorSetting) (s : AgentState) (m : Message) → Unanswered (receives asks old setting s m)
unfolding receives hears
receives_none true false setting s m = serves_none (is_query m.body) setting (sees m s) m
receives_none false false setting s m = refl
receives_none true true setting s m = refl
receives_none false true setting s m = refl

step_none : (i : Input) (second : ℕ) (setting : AggregatorSetting) (s : AgentState) → Unanswered (aggregator_step i second setting s)
unfolding aggregator_step aggregator_ticks
step_none (Input.Ask n ask) second setting s = refl
step_none (Input.Got m) second setting s = receives_none (is_request m.body) (is_seen s m) setting s m
step_none (Input.Work n machine) second setting s = refl
step_none Input.Tick second setting s = refl
step_none (Input.Force n) second setting s = refl
step_none (Input.Acked i) second setting s = refl

after_if_none : (b : Bool) (setting : AggregatorSetting) (s : AgentState) (e : Entry) → Unanswered (aggregator_if b setting s e)
after_if_none true setting s e = step_none e.input e.second setting s
after_if_none false setting s e = refl

aggregator_none : (setting : AggregatorSetting) (s : AgentState) (e : Entry) → Unanswered (aggregator_after setting s e)
unfolding aggregator_after
aggregator_none setting s e = after_if_none (aggregator_may s e) setting s e

---- A requester answers each ask

abbrev IsAnswered : AgentStepped → Type 0
IsAnswered x = IsSome x.answer

found_some : (o : Option (ℕ × View)) (k : Kind) (set : RequesterSetting) (s : AgentState) → IsAnswered (asks_found o k set s)
unfolding asks_found asks_at requester_answers
found_some None k set s = refl
found_some (Some found) k set s = refl

reserves_some : (o : Option (ℕ × View)) (q : ReserveAsk) (label : List ℕ) (set : RequesterSetting) (s : AgentState) → IsAnswered (reserves o q label set s)
unfolding reserves asks_new asks_at requester_answers
reserves_some None q label set s = refl
reserves_some (Some found) q label set s = refl

sends_some : (query : Option Body) (set : RequesterSetting) (s : AgentState) → IsAnswered (sends_query query set s)
unfolding sends_query
sends_some None set s = refl
sends_some (Some body) set s = refl

asked_of_some : (what : What) (label : List ℕ) (o : Option (ℕ × View)) (set : RequesterSetting) (s : AgentState) → IsAnswered (asked_of what label o set s)
unfolding asked_of
asked_of_some (What.Reserve q) label o set s = reserves_some o q label set s
asked_of_some What.Commit label o set s = found_some o Kind.ReserveCommit set s
asked_of_some What.Abort label o set s = found_some o Kind.ReserveAbort set s
asked_of_some What.Provision label o set s = found_some o Kind.Provision set s
asked_of_some What.Release label o set s = found_some o Kind.Release set s
asked_of_some What.Terminate label o set s = found_some o Kind.Terminate set s
asked_of_some what label o set s = sends_some (query_for what o) set s

asked_some : (label : Option (List ℕ)) (what : What) (set : RequesterSetting) (s : AgentState) → IsAnswered (asked label what set s)
unfolding asked
asked_some None What.Summary set s = sends_some (Some (Body.QuerySummary None)) set s
asked_some None what set s = refl
asked_some (Some label) what set s = asked_of_some what label (find_view label s.views) set s

hears_none : (b : Bool) (m : Message) (s : AgentState) → Unanswered (hears_if b m s)
unfolding hears_if
hears_none true m s = refl
hears_none false m s = refl

abbrev pub IsAnsweredAs : Input → AgentStepped → Type 0
IsAnsweredAs i x = IsTrue (is_ask i) ↔ IsSome x.answer

never : {A : Type 0} → false ≡ true → A
never h = absurd (cc)

no_ask : (x : AgentStepped) → Unanswered x → IsAnsweredAs Input.Tick x
no_ask x e = ((λ h. never h), (λ h. never (sym (ap is_some e) ∙ h)))

first_of : (a b : Bool) → (a && b) ≡ true → a ≡ true
first_of true b e = refl
first_of false b e = never e

second_of : (a b : Bool) → (a && b) ≡ true → b ≡ true
second_of true b e = e
second_of false b e = never e

requester_answered : (i : Input) (second : ℕ) (set : RequesterSetting) (s : AgentState) → IsAnsweredAs i (requester_step i second set s)
unfolding requester_step requester_ticks acked
requester_answered (Input.Ask n ask) second set s = ((λ h. asked_some ask.label ask.what set s), (λ h. refl))
requester_answered (Input.Got m) second set s = no_ask (hears_if (is_old m (retry_of s.base)) m s) (hears_none (is_old m (retry_of s.base)) m s)
requester_answered (Input.Work n machine) second set s = no_ask (stays s) refl
requester_answered Input.Tick second set s = no_ask (requester_ticks second s) refl
requester_answered (Input.Force n) second set s = no_ask (stays s) refl
requester_answered (Input.Acked i) second set s = no_ask (acked i s) refl

requester_if_answered : (b : Bool) (set : RequesterSetting) (s : AgentState) (e : Entry) → b ≡ true → IsAnsweredAs e.input (requester_if b set s e)
requester_if_answered true set s e h = requester_answered e.input e.second set s
requester_if_answered false set s e h = never h

-- whoever takes no asks answers none
others_answered : (i : Input) (x : AgentStepped) → is_ask i ≡ false → Unanswered x → IsAnsweredAs i x
others_answered i x e h = ((λ k. never (sym e ∙ k)), (λ k. never (sym (ap is_some h) ∙ k)))

no_provider_ask : (i : Input) → is_for_provider i ≡ true → is_ask i ≡ false
no_provider_ask (Input.Ask n ask) e = never e
no_provider_ask (Input.Got m) e = refl
no_provider_ask (Input.Work n machine) e = refl
no_provider_ask Input.Tick e = refl
no_provider_ask (Input.Force n) e = refl
no_provider_ask (Input.Acked i) e = refl

no_aggregator_ask : (i : Input) → is_for_aggregator i ≡ true → is_ask i ≡ false
no_aggregator_ask (Input.Ask n ask) e = never e
no_aggregator_ask (Input.Got m) e = refl
no_aggregator_ask (Input.Work n machine) e = refl
no_aggregator_ask Input.Tick e = refl
no_aggregator_ask (Input.Force n) e = refl
no_aggregator_ask (Input.Acked i) e = refl

-- the input is one that the agent takes
input_of : (b c d : Bool) → (b && (c && d)) ≡ true → c ≡ true
input_of b c d e = first_of c d (second_of b (c && d) e)

as_kind : (o : Option AgentKind) (t : Network) (routes : Routes) (a : ℕ) (s : AgentState) (e : Entry) → may_take o s e ≡ true → IsAnsweredAs e.input (after_as (role_in o t routes a) s e)
unfolding after_as requester_after
as_kind (Some (AgentKind.Provider hold)) t routes a s e h =
    others_answered e.input (after_as (role_in (Some (AgentKind.Provider hold)) t routes a) s e) (no_provider_ask e.input (input_of _ _ _ h)) refl
as_kind (Some (AgentKind.Requester provider)) t routes a s e h = requester_if_answered (requester_may s e) (requester_of t a) s e h
as_kind (Some AgentKind.Aggregator) t routes a s e h =
    others_answered e.input (aggregator_after (aggregator_of t (agent_in t a) (routes a)) s e) (no_aggregator_ask e.input (input_of _ _ _ h)) (aggregator_none (aggregator_of t (agent_in t a) (routes a)) s e)
as_kind None t routes a s e h =
    others_answered e.input (aggregator_after (aggregator_of t (agent_in t a) (routes a)) s e) (no_aggregator_ask e.input (input_of _ _ _ h)) (aggregator_none (aggregator_of t (agent_in t a) (routes a)) s e)

-- an entry that may be taken is answered exactly where it is an ask
pub answered : (t : Network) (routes : Routes) (a : ℕ) (s : AgentState) (e : Entry) → may_take (kind_of t a) s e ≡ true → IsAnsweredAs e.input (after (home_in t routes a) s e)
unfolding home_in
answered t routes a s e h = as_kind (kind_of t a) t routes a s e h

-- What the definition makes of a request, exit by exit.
use Rattle.std.proofs.Common.{◌≡◌, ◌∷◌, [], ℕ, Bool, true, false, Option, Some, None, List, ◌∙◌, refl, sym, ap}
use Rattle.std.specs.List.{list_any}
use Rattle.std.specs.Str.{bytes_eq}
use Rattle.nsi_primitive.specs.Messages.{is_request, is_query, connection_of}
use Rattle.nsi_primitive.specs.declared.kind.ErrorName.{ErrorName}
use Rattle.nsi_primitive.specs.declared.message.Body.{Body}
use Rattle.nsi_primitive.specs.declared.message.Message.{Message}
use Rattle.nsi_primitive.specs.declared.message.ReserveRequest.{ReserveRequest}
use Rattle.nsi_primitive.specs.declared.ask.Ask.{Ask}
use Rattle.nsi_primitive.specs.declared.entry.Input.{Input}
use Rattle.nsi_primitive.specs.declared.message.Identity.{Identity}
use Rattle.nsi_primitive.specs.declared.state.Machine.{Machine}
use Rattle.connection_record.specs.Refusal.{refusal, unnamed_refusal, schedule_refusal, points_of, place_of}
use Rattle.agent_state.specs.Entries.{error_reply, is_recursive}
use Rattle.agent_state.specs.State.{AgentState, children_at, stays, sends}
use Rattle.aggregator_agent.specs.Below.{Sought, is_asked, seek}
use Rattle.aggregator_agent.specs.Setting.{Setting}
use Rattle.aggregator_agent.specs.Steps.{accepts, queries, serves, answers, opens, opens_between, asks_below, opens_query, opens_sought, place_named, request_at, hears, receives, is_seen, sees, ticks, acknowledged, step}
use Rattle.aggregator_agent.specs.Step.{takes_new}

pub answered_error : (setting : Setting) (s : AgentState) (m : Message) (error : ErrorName) → refusal s.base.now setting.agent.name setting.stp_of s.base.records m ≡ Some error
    → sends s (error_reply setting.agent.name m error ∷ []) ≡ answers (refusal s.base.now setting.agent.name setting.stp_of s.base.records m) setting s m
unfolding answers
answered_error setting s m error h = rw h refl

pub answered_at : (setting : Setting) (s : AgentState) (m : Message) (id n : ℕ) → refusal s.base.now setting.agent.name setting.stp_of s.base.records m ≡ None → connection_of m.body ≡ Some id → place_of id m.header.requester s.base.records ≡ Some n
    → request_at setting s n m ≡ answers (refusal s.base.now setting.agent.name setting.stp_of s.base.records m) setting s m
unfolding answers
answered_at setting s m id n h e f = rw (h, e, f) refl

pub opens_refused : (setting : Setting) (s : AgentState) (m : Message) (q : ReserveRequest) (error : ErrorName) → m.body ≡ Body.Reserve q → schedule_refusal s.base.now q ≡ Some error
    → sends s (error_reply setting.agent.name m error ∷ []) ≡ answers (unnamed_refusal s.base.now m.body setting.stp_of) setting s m
unfolding answers unnamed_refusal
opens_refused setting s m q error e h = ap (λ o. answers o setting s m) (sym by_schedule)
  where
    by_schedule : unnamed_refusal s.base.now m.body setting.stp_of ≡ Some error
    by_schedule = rw (e, h) refl

pub opens_unknown : (setting : Setting) (s : AgentState) (m : Message) (q : ReserveRequest) → m.body ≡ Body.Reserve q → schedule_refusal s.base.now q ≡ None → points_of setting.stp_of q ≡ None
    → sends s (error_reply setting.agent.name m ErrorName.UnknownStp ∷ []) ≡ answers (unnamed_refusal s.base.now m.body setting.stp_of) setting s m
unfolding answers unnamed_refusal
opens_unknown setting s m q e h f = ap (λ o. answers o setting s m) (sym by_points)
  where
    by_points : unnamed_refusal s.base.now m.body setting.stp_of ≡ Some ErrorName.UnknownStp
    by_points = rw (e, h, f) refl

known_none : (now : ℕ) (setting : Setting) (m : Message) (q : ReserveRequest) (points : ℕ × ℕ) → m.body ≡ Body.Reserve q → schedule_refusal now q ≡ None → points_of setting.stp_of q ≡ Some points → unnamed_refusal now m.body setting.stp_of ≡ None
unfolding unnamed_refusal
known_none now setting m q points e h f = rw (e, h, f) refl

pub opens_known : (setting : Setting) (s : AgentState) (m : Message) (q : ReserveRequest) (points : ℕ × ℕ) → m.body ≡ Body.Reserve q → connection_of m.body ≡ None → schedule_refusal s.base.now q ≡ None → points_of setting.stp_of q ≡ Some points
    → opens_between (Some points) setting s m q ≡ answers (unnamed_refusal s.base.now m.body setting.stp_of) setting s m
unfolding answers
opens_known setting s m q points e n h f = sym
    (ap (λ o. answers o setting s m) (known_none s.base.now setting m q points e h f) ∙ ap (λ o. accepts o setting s m) n ∙ ap (λ b. opens b setting s m) e
    ∙ ap (λ o. opens_between o setting s m q) f)

pub below_wrong : (setting : Setting) (s : AgentState) (m : Message) → bytes_eq m.header.provider setting.agent.name ≡ false → sends s (error_reply setting.agent.name m ErrorName.WrongProvider ∷ []) ≡ queries true setting s m
below_wrong setting s m h = rw h refl

pub below_nowhere : (setting : Setting) (s : AgentState) (m : Message) → bytes_eq m.header.provider setting.agent.name ≡ true → place_named m s.base.records ≡ None → sends s (error_reply setting.agent.name m ErrorName.Nonexistent ∷ []) ≡ queries true setting s m
below_nowhere setting s m h e = rw (h, e) refl

pub below_at : (setting : Setting) (s : AgentState) (m : Message) (n : ℕ) → bytes_eq m.header.provider setting.agent.name ≡ true → place_named m s.base.records ≡ Some n → asks_below setting s n m ≡ queries true setting s m
below_at setting s m n h e = rw (h, e) refl

-- a query waits where a child was asked, and is answered where none was
pub opens_waiting : (setting : Setting) (s : AgentState) (n : ℕ) (m : Message) (x : Sought) → x ≡ seek setting.agent s.base.next (children_at n s.children) → list_any is_asked x.parts ≡ true
    → opens_query true setting s n m x ≡ asks_below setting s n m
unfolding asks_below
opens_waiting setting s n m x e h = ap (λ b. opens_query b setting s n m x) (sym h) ∙ ap (opens_sought setting s n m) e

pub opens_answered : (setting : Setting) (s : AgentState) (n : ℕ) (m : Message) (x : Sought) → x ≡ seek setting.agent s.base.next (children_at n s.children) → list_any is_asked x.parts ≡ false
    → opens_query false setting s n m x ≡ asks_below setting s n m
unfolding asks_below
opens_answered setting s n m x e h = ap (λ b. opens_query b setting s n m x) (sym h) ∙ ap (opens_sought setting s n m) e

pub not_recursive : (b : Body) → ((id : ℕ) → b ≡ Body.QueryRecursive id → ⊥) → is_recursive b ≡ false
not_recursive (Body.QueryRecursive id) h = absurd (h id refl)
not_recursive _ h = refl

pub queries_at_once : (b : Body) (setting : Setting) (s : AgentState) (m : Message) → is_recursive b ≡ false → queries false setting s m ≡ queries (is_recursive b) setting s m
queries_at_once b setting s m h = rw h refl

pub serves_query : (setting : Setting) (s : AgentState) (m : Message) → is_query m.body ≡ true → queries (is_recursive m.body) setting s m ≡ serves (is_query m.body) setting s m
serves_query setting s m h = rw h refl

pub serves_other : (setting : Setting) (s : AgentState) (m : Message) → is_query m.body ≡ false → answers (refusal s.base.now setting.agent.name setting.stp_of s.base.records m) setting s m ≡ serves (is_query m.body) setting s m
serves_other setting s m h = rw h refl

pub takes_request : (setting : Setting) (s : AgentState) (m : Message) → is_request m.body ≡ true → serves (is_query m.body) setting s m ≡ takes_new (is_request m.body) setting s m
takes_request setting s m h = rw h refl

pub takes_other : (setting : Setting) (s : AgentState) (m : Message) → is_request m.body ≡ false → hears setting s m ≡ takes_new (is_request m.body) setting s m
takes_other setting s m h = rw h refl

pub received_old : (b : Bool) (setting : Setting) (s : AgentState) (m : Message) → is_seen s m ≡ true → stays s ≡ receives b (is_seen s m) setting s m
unfolding receives
received_old true setting s m h = rw h refl
received_old false setting s m h = rw h refl

pub received_new : (b : Bool) (setting : Setting) (s : AgentState) (m : Message) → is_seen s m ≡ false → takes_new b setting (sees m s) m ≡ receives b (is_seen s m) setting s m
unfolding receives
received_new true setting s m h = rw h refl
received_new false setting s m h = rw h refl

---- A request without a connection that is no reserve

unopened_refusal : (now : ℕ) (b : Body) (stp_of : List ℕ → Option ℕ) → ((q : ReserveRequest) → b ≡ Body.Reserve q → ⊥) → unnamed_refusal now b stp_of ≡ None
unfolding unnamed_refusal
unopened_refusal now (Body.Reserve q) stp_of h = absurd (h q refl)
unopened_refusal now _ stp_of h = refl

unopened : (b : Body) (setting : Setting) (s : AgentState) (m : Message) → ((q : ReserveRequest) → b ≡ Body.Reserve q → ⊥) → stays s ≡ opens b setting s m
unopened (Body.Reserve q) setting s m h = absurd (h q refl)
unopened _ setting s m h = refl

pub opens_none : (setting : Setting) (s : AgentState) (m : Message) → connection_of m.body ≡ None → ((q : ReserveRequest) → m.body ≡ Body.Reserve q → ⊥) → stays s ≡ answers (unnamed_refusal s.base.now m.body setting.stp_of) setting s m
unfolding answers
opens_none setting s m n h = unopened m.body setting s m h ∙ (rw (unopened_refusal s.base.now m.body setting.stp_of h, n) refl)

---- An entry

pub step_tick : (setting : Setting) (s : AgentState) (input : Input) (second : ℕ) → input ≡ Input.Tick → ticks setting second s ≡ step input second setting s
unfolding step
step_tick setting s input second h = rw h refl

pub step_acked : (setting : Setting) (s : AgentState) (input : Input) (second : ℕ) (i : Identity) → input ≡ Input.Acked i → stays (acknowledged i s) ≡ step input second setting s
unfolding step
step_acked setting s input second i h = rw h refl

pub step_work : (setting : Setting) (s : AgentState) (input : Input) (second n : ℕ) (machine : Machine) → input ≡ Input.Work n machine → stays s ≡ step input second setting s
unfolding step
step_work setting s input second n machine h = rw h refl

pub step_force : (setting : Setting) (s : AgentState) (input : Input) (second n : ℕ) → input ≡ Input.Force n → stays s ≡ step input second setting s
unfolding step
step_force setting s input second n h = rw h refl

pub step_ask : (setting : Setting) (s : AgentState) (input : Input) (second n : ℕ) (a : Ask) → input ≡ Input.Ask n a → stays s ≡ step input second setting s
unfolding step
step_ask setting s input second n a h = rw h refl

-- What an entry makes an aggregator do with its requests: each that is open it goes on with, or answers, and so it does with one that it takes.
use Rattle.std.proofs.Common.{ℕ, ◌+◌, ◌≡◌, ◌∙◌, ◌⊎◌, inl, inr, Bool, true, false, List, [], ◌∷◌, ◌++◌, Option, Some, None, refl, sym, ap, subst, arith, length, bytes_eq, slice_get, slice_set, if◌then◌else◌}
use Rattle.std.specs.List.{list_any}
use Rattle.std.proofs.lemmas.Option.{get_or_from_slice_get, slice_get_within}
use Rattle.nsi_primitive.specs.Ids.{id_of}
use Rattle.nsi_primitive.specs.Messages.{kind_of, is_request, is_query, connection_of}
use Rattle.nsi_primitive.specs.declared.entry.Input.{Input}
use Rattle.nsi_primitive.specs.declared.kind.ErrorName.{ErrorName}
use Rattle.nsi_primitive.specs.declared.kind.Kind.{Kind}
use Rattle.nsi_primitive.specs.declared.message.Body.{Body}
use Rattle.nsi_primitive.specs.declared.message.Criteria.{Criteria}
use Rattle.nsi_primitive.specs.declared.message.Message.{Message}
use Rattle.nsi_primitive.specs.declared.message.ReserveRequest.{ReserveRequest}
use Rattle.nsi_primitive.specs.declared.state.Side.{Side}
use Rattle.connection_record.specs.declared.record.Record.{Record}
use Rattle.connection_record.specs.declared.life.LifecycleMove.{LifecycleMove}
use Rattle.connection_record.specs.Applied.{moves_if, requested, schedule_end, end_of}
use Rattle.connection_record.specs.Demand.{last}
use Rattle.connection_record.specs.Moves.{is_live, is_due, fresh, service_of}
use Rattle.connection_record.specs.Refusal.{points_of, place_of, first_refusal, unnamed_refusal, refusal}
use Rattle.connection_record.specs.Replies.{Moved, addressed}
use Rattle.connection_record.specs.Unrefused.{IsTakenAt}
use Rattle.connection_record.proofs.Growing.{lives_if_later}
use Rattle.connection_record.proofs.Unrefused.{unrefused_agent, unrefused_at, unrefused_fits, first_criteria}
use Rattle.child_connection.specs.Views.{ChildConnection}
use Rattle.agent_state.specs.declared.parent.Due.{Due}
use Rattle.agent_state.specs.Entries.{is_recursive, error_reply}
use Rattle.agent_state.specs.State.{AgentState, AgentStepped, sends, no_record, record_at, children_at, name_or}
use Rattle.aggregator_agent.specs.declared.agent.Agent.{Agent}
use Rattle.aggregator_agent.specs.Asking.{Turn}
use Rattle.aggregator_agent.specs.Below.{Sought, is_asked, seek, opened, Heard, hear_below}
use Rattle.aggregator_agent.specs.Clock.{Told, tells_late, tell_one, is_late_of, tell_all, ends, clocked, clock_then, clock_all, Clocked}
use Rattle.aggregator_agent.specs.Setting.{Setting}
use Rattle.aggregator_agent.specs.Steps.{is_seen, sees, children_for, request_at, with_new, opens_between, opens, request_to, accepts, answers, Passed, pass_then, hear_all, hears, opens_query, asks_below, asks_if_own, place_named, queries, serves, receives, ticks, step}
use Rattle.aggregator_agent.specs.Turns.{takes, request_turn, answer_turn, spoken}
use Rattle.provider_agent.proofs.RecordPlaces.{set_here, push_here}
use Rattle.agent_speech.proofs.Turning.{request_turning, answer_turning}
use Rattle.request_answers.specs.Answers.{IsAnswered}
use Rattle.request_answers.specs.Open.{works_on, IsWorkedOn}
use Rattle.request_answers.specs.Waiting.{WaitsForPart}
use Rattle.request_answers.proofs.Below.{nested_answers, heard_sought, sought_push, sought_new}
use Rattle.request_answers.proofs.Carrying.{is_carried, Carries, IsGoingOn, or_left, carries_none, carries_then, lives_if_carry}
use Rattle.request_answers.proofs.Entries.{IsKept}
use Rattle.request_answers.proofs.Providing.{no_points, unnamed_none}
use Rattle.request_answers.proofs.Querying.{aggregator_answered}
use Rattle.request_answers.proofs.Serving.{IsServed, Honours, Serves, answered_by, answered_left, answered_right, error_answers, carrying_serves, served_there, honours_same, honours_set, honours_cons, worked_push}
use Rattle.request_answers.proofs.Taking.{reserve_taken, request_taken}
use Rattle.request_answers.proofs.Turning.{answer_holds, request_holds, taken_holds, held_serves}

-- one of its records works on the request, or one of its queries waits
abbrev pub IsOpenIn : Setting → Message → AgentState → Type 0
IsOpenIn setting m s = IsWorkedOn setting.agent.name s.base.records m ⊎ WaitsForPart s.queries m

abbrev pub Goes : Setting → AgentState → AgentStepped → Type 0
Goes setting s x = (m : Message) → IsOpenIn setting m s → IsKept (IsOpenIn setting m) m x.state x.out

-- where the queries stay, what the records do is all
by_records : (setting : Setting) (s : AgentState) (x : AgentStepped) → Honours setting.agent.name s.base.records x.state.base.records x.out → x.state.queries ≡ s.queries → Goes setting s x
by_records setting s x honours same m (inl w) = by (honours m w)
  where
    by : IsServed setting.agent.name x.state.base.records x.out m → IsKept (IsOpenIn setting m) m x.state x.out
    by (inl a) = inl a
    by (inr v) = inr (inl v)
by_records setting s x honours same m (inr w) = inr (inr (subst (λ qs. WaitsForPart qs m) (sym same) w))

---- A message of a child

answer_serves : (agent : Agent) (now : ℕ) (n : Message) (r : Record) (xs : List ChildConnection) (next : ℕ) → Serves agent.name r (answer_turn agent now n r xs next).own (spoken agent (answer_turn agent now n r xs next))
answer_serves agent now n r xs next m o p h =
    held_serves agent (answer_turn agent now n r xs next) m ((answer_turning agent now n r xs next).owner ∙ o) p (answer_holds agent now n r xs next (kind_of m.body) m.header.correlation h)

all_hear : (agent : Agent) (now number : ℕ) (n : Message) (next : ℕ) (rs : List Record) (xss : List (List ChildConnection)) →
    Honours agent.name rs (hear_all agent now number n next rs xss).records (hear_all agent now number n next rs xss).out
unfolding hear_all pass_then
all_hear agent now number n next [] xss = honours_same agent.name [] []
all_hear agent now number n next (r ∷ rs) [] = honours_same agent.name (r ∷ rs) []
all_hear agent now number n next (r ∷ rs) (xs ∷ xss) =
    let t : Turn = answer_turn agent now n r xs next in
    let rest : Passed = hear_all agent now (number + 1) n t.next rs xss in
    honours_cons agent.name r t.own (spoken agent t) rs rest.records rest.out (answer_serves agent now n r xs next) (all_hear agent now (number + 1) n t.next rs xss)

hears_goes : (setting : Setting) (s : AgentState) (n : Message) → Goes setting s (hears setting s n)
unfolding hears
hears_goes setting s n m (inl w) = by (all_hear setting.agent s.base.now 0 n s.base.next s.base.records s.children m w)
  where
    x : Passed
    x = hear_all setting.agent s.base.now 0 n s.base.next s.base.records s.children

    h : Heard
    h = hear_below setting.agent.name s.base.records n s.queries

    by : IsServed setting.agent.name x.records x.out m → IsAnswered m (x.out ++ h.out) ⊎ (IsWorkedOn setting.agent.name x.records m ⊎ WaitsForPart h.queries m)
    by (inl a) = inl (answered_left m x.out h.out a)
    by (inr v) = inr (inl v)
hears_goes setting s n m (inr w) = by (heard_sought setting.agent.name s.base.records n s.queries m w)
  where
    x : Passed
    x = hear_all setting.agent s.base.now 0 n s.base.next s.base.records s.children

    h : Heard
    h = hear_below setting.agent.name s.base.records n s.queries

    by : IsAnswered m h.out ⊎ WaitsForPart h.queries m → IsAnswered m (x.out ++ h.out) ⊎ (IsWorkedOn setting.agent.name x.records m ⊎ WaitsForPart h.queries m)
    by (inl a) = inl (answered_right m x.out h.out a)
    by (inr v) = inr (inr v)

---- Time

-- a record in the course of a tick
abbrev as_moved : Told → Moved
as_moved t = record { rec = t.own; out = t.out }

late_carries : (delivery c now : ℕ) (r : Record) → Carries r (tells_late delivery c now r)
unfolding tells_late works_on
late_carries delivery c now r Kind.Reserve d h = or_left _ _ h
late_carries delivery c now r Kind.ReserveCommit d h = or_left _ _ h
late_carries delivery c now r Kind.ReserveAbort d h = or_left _ _ h
late_carries delivery c now r Kind.Provision d h = or_left _ _ h
late_carries delivery c now r Kind.Release d h = or_left _ _ h
late_carries delivery c now r Kind.Terminate d h = or_left _ _ h
late_carries delivery c now r _ d h = absurd (cc)

one_carries : (b : Bool) (agent : Agent) (now next : ℕ) (r : Record) (d : Due) (rest : Record → ℕ → Told) → ((q : Record) (n : ℕ) → Carries q (as_moved (rest q n))) → Carries r (as_moved (tell_one b agent now next r d rest))
unfolding tell_one
one_carries true agent now next r d rest p =
    let x : Moved = tells_late d.correlation (id_of agent.number next) now r in
    carries_then r x (λ q. as_moved (rest q (next + 1))) (late_carries d.correlation (id_of agent.number next) now r) (p x.rec (next + 1))
one_carries false agent now next r d rest p = p r next

all_carry : (ds : List Due) (agent : Agent) (now number : ℕ) (waiting : List Message) (r : Record) (next : ℕ) → Carries r (as_moved (tell_all ds agent now number waiting r next))
unfolding tell_all
all_carry [] agent now number waiting r next = carries_none r
all_carry (d ∷ ds) agent now number waiting r next =
    one_carries (is_late_of number now waiting d) agent now next r d (λ q n. tell_all ds agent now number waiting q n) (λ q n. all_carry ds agent now number waiting q n)

end_goes_on : (c : Option Criteria) (now : ℕ) → IsGoingOn (schedule_end c now)
end_goes_on c now = by (is_due (end_of c) now)
  where
    by : (due : Bool) → IsGoingOn (if due then Some LifecycleMove.EndTime else None)
    by true = refl
    by false = tt

ends_carry : (b : Bool) (now : ℕ) (r : Record) → Carries r (ends b now r)
unfolding ends
ends_carry true now r = lives_if_carry (schedule_end (last r.committed) now) now r (end_goes_on (last r.committed) now)
ends_carry false now r = carries_none r

-- whose the record is stays
one_owner : (b : Bool) (agent : Agent) (now next : ℕ) (r : Record) (d : Due) (rest : Record → ℕ → Told) → ((q : Record) (n : ℕ) → (rest q n).own.owner ≡ q.owner) → (tell_one b agent now next r d rest).own.owner ≡ r.owner
unfolding tell_one tells_late
one_owner true agent now next r d rest p = p (tells_late d.correlation (id_of agent.number next) now r).rec (next + 1)
one_owner false agent now next r d rest p = p r next

all_owner : (ds : List Due) (agent : Agent) (now number : ℕ) (waiting : List Message) (r : Record) (next : ℕ) → (tell_all ds agent now number waiting r next).own.owner ≡ r.owner
unfolding tell_all
all_owner [] agent now number waiting r next = refl
all_owner (d ∷ ds) agent now number waiting r next =
    one_owner (is_late_of number now waiting d) agent now next r d (λ q n. tell_all ds agent now number waiting q n) (λ q n. all_owner ds agent now number waiting q n)

ends_owner : (b : Bool) (now : ℕ) (r : Record) → (ends b now r).rec.owner ≡ r.owner
unfolding ends
ends_owner true now r = (lives_if_later (schedule_end (last r.committed) now) now r).owner
ends_owner false now r = refl

clocked_owner : (agent : Agent) (now number : ℕ) (ds : List Due) (waiting : List Message) (r : Record) (next : ℕ) → (clocked agent now number ds waiting r next).own.owner ≡ r.owner
unfolding clocked
clocked_owner agent now number ds waiting r next = all_owner ds agent now number waiting (ends (is_live r.lsm) now r).rec next ∙ ends_owner (is_live r.lsm) now r

clocked_carries : (agent : Agent) (now number : ℕ) (ds : List Due) (waiting : List Message) (r : Record) (next : ℕ) → Carries r (as_moved (clocked agent now number ds waiting r next))
unfolding clocked
clocked_carries agent now number ds waiting r next =
    carries_then r (ends (is_live r.lsm) now r) (λ q. as_moved (tell_all ds agent now number waiting q next)) (ends_carry (is_live r.lsm) now r)
    (all_carry ds agent now number waiting (ends (is_live r.lsm) now r).rec next)

all_clock : (agent : Agent) (now number : ℕ) (ds : List Due) (waiting : List Message) (next : ℕ) (rs : List Record) → Honours agent.name rs (clock_all agent now number ds waiting next rs).records (clock_all agent now number ds waiting next rs).out
unfolding clock_all clock_then
all_clock agent now number ds waiting next [] = honours_same agent.name [] []
all_clock agent now number ds waiting next (r ∷ rs) =
    let t : Told = clocked agent now number ds waiting r next in
    let rest : Clocked = clock_all agent now (number + 1) ds waiting t.next rs in
    honours_cons agent.name r t.own (addressed agent.name t.own.owner t.out) rs rest.records rest.out
    (carrying_serves agent.name r (as_moved t) (clocked_carries agent now number ds waiting r next) (clocked_owner agent now number ds waiting r next)) (all_clock agent now (number + 1) ds waiting t.next rs)

ticks_goes : (setting : Setting) (now : ℕ) (s : AgentState) → Goes setting s (ticks setting now s)
unfolding ticks
ticks_goes setting now s = by_records setting s (ticks setting now s) (all_clock setting.agent now 0 s.dues s.base.waiting s.base.next s.base.records) refl

---- Requests

-- the record that a first reserve makes
abbrev pub new_in : Setting → AgentState → Message → ReserveRequest → ℕ × ℕ → Record
new_in setting s m q points = fresh (id_of setting.agent.number s.base.next) m.header.requester (service_of q (name_or q.source) (name_or q.dest)) points.0 points.1

-- the connection at a place takes another request
turned_goes : (setting : Setting) (s : AgentState) (n : ℕ) (q : Message) → Goes setting s (request_at setting s n q)
unfolding request_at
turned_goes setting s n q =
    let r : Record = record_at n s.base.records in
    let xs : List ChildConnection = children_for setting s n q in
    let t : Turn = request_turn setting.agent s.base.now q r xs s.base.next in
    by_records setting s (request_at setting s n q)
    (honours_set setting.agent.name s.base.records n t.own (spoken setting.agent t)
    (λ z at. subst (λ y. Serves setting.agent.name y t.own (spoken setting.agent t)) (get_or_from_slice_get s.base.records n z no_record at) (turn_serves r xs)))
    refl
  where
    turn_serves : (r : Record) (xs : List ChildConnection) →
        Serves setting.agent.name r (request_turn setting.agent s.base.now q r xs s.base.next).own (spoken setting.agent (request_turn setting.agent s.base.now q r xs s.base.next))
    turn_serves r xs m o p h =
        held_serves setting.agent (request_turn setting.agent s.base.now q r xs s.base.next) m ((request_turning setting.agent s.base.now q r xs s.base.next).owner ∙ o) p
        (request_holds setting.agent s.base.now q r xs s.base.next (kind_of m.body) m.header.correlation h)

opened_goes : (o : Option (ℕ × ℕ)) (setting : Setting) (s : AgentState) (m : Message) (q : ReserveRequest) → Goes setting s (opens_between o setting s m q)
opened_goes None setting s m q k w = inr w
opened_goes (Some points) setting s m q k (inl w) = turned_goes setting (with_new setting s m q points) (length s.base.records) m k (inl (worked_push setting.agent.name s.base.records (new_in setting s m q points) k w))
opened_goes (Some points) setting s m q k (inr w) = turned_goes setting (with_new setting s m q points) (length s.base.records) m k (inr w)

opens_goes : (body : Body) (setting : Setting) (s : AgentState) (m : Message) → Goes setting s (opens body setting s m)
opens_goes (Body.Reserve q) setting s m = opened_goes (points_of setting.stp_of q) setting s m q
opens_goes _ setting s m = λ k w. inr w

placed_goes : (o : Option ℕ) (setting : Setting) (s : AgentState) (m : Message) → Goes setting s (request_to o setting s m)
placed_goes None setting s m = λ k w. inr w
placed_goes (Some n) setting s m = turned_goes setting s n m

accepts_goes : (o : Option ℕ) (setting : Setting) (s : AgentState) (m : Message) → Goes setting s (accepts o setting s m)
accepts_goes None setting s m = opens_goes m.body setting s m
accepts_goes (Some id) setting s m = placed_goes (place_of id m.header.requester s.base.records) setting s m

answers_goes : (o : Option ErrorName) (setting : Setting) (s : AgentState) (m : Message) → Goes setting s (answers o setting s m)
unfolding answers
answers_goes (Some error) setting s m = λ k w. inr w
answers_goes None setting s m = accepts_goes (connection_of m.body) setting s m

sought_goes : (waits : Bool) (setting : Setting) (s : AgentState) (n : ℕ) (m : Message) (x : Sought) → Goes setting s (opens_query waits setting s n m x)
sought_goes true setting s n m x k (inl w) = inr (inl w)
sought_goes true setting s n m x k (inr w) = inr (inr (sought_push s.queries (opened m n x) k w))
sought_goes false setting s n m x k w = inr w

below_goes : (setting : Setting) (s : AgentState) (n : ℕ) (m : Message) → Goes setting s (asks_below setting s n m)
unfolding asks_below
below_goes setting s n m = let x : Sought = seek setting.agent s.base.next (children_at n s.children) in sought_goes (list_any is_asked x.parts) setting s n m x

asks_goes : (own : Bool) (o : Option ℕ) (setting : Setting) (s : AgentState) (m : Message) → Goes setting s (asks_if_own own o setting s m)
asks_goes true (Some n) setting s m = below_goes setting s n m
asks_goes true None setting s m = λ k w. inr w
asks_goes false o setting s m = λ k w. inr w

queries_goes : (recursive : Bool) (setting : Setting) (s : AgentState) (m : Message) → Goes setting s (queries recursive setting s m)
queries_goes true setting s m = asks_goes (bytes_eq m.header.provider setting.agent.name) (place_named m s.base.records) setting s m
queries_goes false setting s m = λ k w. inr w

serves_goes : (query : Bool) (setting : Setting) (s : AgentState) (m : Message) → Goes setting s (serves query setting s m)
serves_goes true setting s m = queries_goes (is_recursive m.body) setting s m
serves_goes false setting s m = answers_goes (refusal s.base.now setting.agent.name setting.stp_of s.base.records m) setting s m

receives_goes : (asks old : Bool) (setting : Setting) (s : AgentState) (m : Message) → Goes setting s (receives asks old setting s m)
unfolding receives
receives_goes true false setting s m = serves_goes (is_query m.body) setting (sees m s) m
receives_goes false false setting s m = hears_goes setting (sees m s) m
receives_goes true true setting s m = λ k w. inr w
receives_goes false true setting s m = λ k w. inr w

pub aggregator_goes : (i : Input) (second : ℕ) (setting : Setting) (s : AgentState) → Goes setting s (step i second setting s)
unfolding step
aggregator_goes (Input.Got m) second setting s = receives_goes (is_request m.body) (is_seen s m) setting s m
aggregator_goes Input.Tick second setting s = ticks_goes setting second s
aggregator_goes (Input.Acked i) second setting s = λ k w. inr w
aggregator_goes (Input.Work n machine) second setting s = λ k w. inr w
aggregator_goes (Input.Force n) second setting s = λ k w. inr w
aggregator_goes (Input.Ask n ask) second setting s = λ k w. inr w

---- The request that is taken

module _ (setting : Setting) (s : AgentState) (m : Message) (asks : is_request m.body ≡ true) where
  abbrev Served : AgentStepped → Type 0
  Served x = IsKept (IsOpenIn setting m) m x.state x.out

  refused_serves : (error : ErrorName) → Served (sends s (error_reply setting.agent.name m error ∷ []))
  refused_serves error = inl (answered_by m (error_reply setting.agent.name m error) refl (error_answers (kind_of m.body) asks))

  -- a query
  recursive_kind : is_recursive m.body ≡ true → kind_of m.body ≡ Kind.QueryRecursive
  recursive_kind e = grind (arith, e)

  sought_serves : (n : ℕ) (x : Sought) (waits : Bool) → kind_of m.body ≡ Kind.QueryRecursive → list_any is_asked x.parts ≡ waits → Served (opens_query waits setting s n m x)
  sought_serves n x true k e = inr (inr (sought_new s.queries (opened m n x) m refl k e))
  sought_serves n x false k e = inl (nested_answers setting.agent.name (record_at n s.base.records) (opened m n x) m refl k)

  below_serves : (n : ℕ) → kind_of m.body ≡ Kind.QueryRecursive → Served (asks_below setting s n m)
  unfolding asks_below
  below_serves n k = let x : Sought = seek setting.agent s.base.next (children_at n s.children) in sought_serves n x (list_any is_asked x.parts) k refl

  asks_serves : (own : Bool) (o : Option ℕ) → kind_of m.body ≡ Kind.QueryRecursive → Served (asks_if_own own o setting s m)
  asks_serves true (Some n) k = below_serves n k
  asks_serves true None k = refused_serves ErrorName.Nonexistent
  asks_serves false o k = refused_serves ErrorName.WrongProvider

  queries_serves : is_query m.body ≡ true → (b : Bool) → is_recursive m.body ≡ b → Served (queries b setting s m)
  queries_serves q true e = asks_serves (bytes_eq m.header.provider setting.agent.name) (place_named m s.base.records) (recursive_kind e)
  queries_serves q false e = inl (aggregator_answered setting.agent.name s m q)

  -- a request to do something
  module _ (todo : is_query m.body ≡ false) where
    turned_serves : (u : AgentState) (n : ℕ) (own : Record) → slice_get u.base.records n ≡ Some own → own.owner ≡ m.header.requester → m.header.provider ≡ setting.agent.name →
        is_carried (kind_of m.body) m.header.correlation (takes m u.base.now own) ≡ true → Served (request_at setting u n m)
    unfolding request_at
    turned_serves u n own there owner agent carried =
        let r : Record = record_at n u.base.records in
        let same : r ≡ own = get_or_from_slice_get u.base.records n own no_record there in
        let xs : List ChildConnection = children_for setting u n m in
        let t : Turn = request_turn setting.agent u.base.now m r xs u.base.next in
        by
        (served_there setting.agent.name (slice_set u.base.records n t.own) n t.own (spoken setting.agent t) m (set_here u.base.records n t.own (slice_get_within u.base.records n own there)) agent
        (held_serves setting.agent t m ((request_turning setting.agent u.base.now m r xs u.base.next).owner ∙ (ap (λ (z : Record). z.owner) same ∙ owner)) agent
        (taken_holds setting.agent u.base.now m r xs u.base.next (kind_of m.body) m.header.correlation
        (subst (λ (z : Record). is_carried (kind_of m.body) m.header.correlation (takes m u.base.now z) ≡ true) (sym same) carried))))
      where
        by : IsServed setting.agent.name (request_at setting u n m).state.base.records (request_at setting u n m).out m → Served (request_at setting u n m)
        by (inl a) = inl a
        by (inr v) = inr (inl v)

    new_serves : (q : ReserveRequest) (points : ℕ × ℕ) → m.body ≡ Body.Reserve q → m.header.provider ≡ setting.agent.name → first_refusal s.base.now setting.stp_of q ≡ None →
        Served (request_at setting (with_new setting s m q points) (length s.base.records) m)
    unfolding takes is_live
    new_serves q points is agent fine =
        let new : Record = new_in setting s m q points in
        turned_serves (with_new setting s m q points) (length s.base.records) new (push_here s.base.records new) refl agent
        (subst (λ (b : Body). is_carried (kind_of b) m.header.correlation (moves_if Side.Aggregator (requested s.base.now b m.header.correlation new) s.base.now new) ≡ true) (sym is)
        (reserve_taken Side.Aggregator q m.header.correlation s.base.now new refl refl (first_criteria s.base.now setting.stp_of q fine)))

    opened_serves : (o : Option (ℕ × ℕ)) (q : ReserveRequest) → m.body ≡ Body.Reserve q → m.header.provider ≡ setting.agent.name → first_refusal s.base.now setting.stp_of q ≡ None → points_of setting.stp_of q ≡ o →
        Served (opens_between o setting s m q)
    opened_serves None q is agent fine e = absurd (no_points s.base.now setting.stp_of q e fine)
    opened_serves (Some points) q is agent fine e = new_serves q points is agent fine

    opening_serves : (body : Body) → m.body ≡ body → is_request body ≡ true → is_query body ≡ false → connection_of body ≡ None → m.header.provider ≡ setting.agent.name → unnamed_refusal s.base.now body setting.stp_of ≡ None →
        Served (opens body setting s m)
    unfolding connection_of unnamed_refusal
    opening_serves (Body.Reserve q) is a b c agent fine = opened_serves (points_of setting.stp_of q) q is agent fine refl
    opening_serves _ is a b c agent fine = absurd (cc)

    moved_serves : (id : ℕ) → IsTakenAt s.base.now m s.base.records id → m.header.provider ≡ setting.agent.name → Served (request_to (place_of id m.header.requester s.base.records) setting s m)
    unfolding takes
    moved_serves id at agent =
        subst (λ o. Served (request_to o setting s m)) (sym at.found)
        (turned_serves s at.place at.own at.there at.owner agent (request_taken Side.Aggregator m.body m.header.correlation s.base.now at.own asks todo (unrefused_fits s.base.now m.body at.own at.unrefused)))

    accepting_serves : (o : Option ℕ) → connection_of m.body ≡ o → refusal s.base.now setting.agent.name setting.stp_of s.base.records m ≡ None → Served (accepts o setting s m)
    accepting_serves None e r =
        opening_serves m.body refl asks todo e (unrefused_agent s.base.now setting.agent.name setting.stp_of s.base.records m r) (unnamed_none s.base.now setting.agent.name setting.stp_of s.base.records m e r)
    accepting_serves (Some id) e r =
        moved_serves id (unrefused_at s.base.now setting.agent.name setting.stp_of s.base.records m id e r) (unrefused_agent s.base.now setting.agent.name setting.stp_of s.base.records m r)

    answering_serves : (o : Option ErrorName) → refusal s.base.now setting.agent.name setting.stp_of s.base.records m ≡ o → Served (answers o setting s m)
    unfolding answers
    answering_serves (Some error) r = refused_serves error
    answering_serves None r = accepting_serves (connection_of m.body) refl r

  serving_serves : (b : Bool) → is_query m.body ≡ b → Served (serves b setting s m)
  serving_serves true q = queries_serves q (is_recursive m.body) refl
  serving_serves false todo = answering_serves todo (refusal s.base.now setting.agent.name setting.stp_of s.base.records m) refl

pub aggregator_serves : (m : Message) (second : ℕ) (setting : Setting) (s : AgentState) → is_request m.body ≡ true → is_seen s m ≡ false →
    IsKept (IsOpenIn setting m) m (step (Input.Got m) second setting s).state (step (Input.Got m) second setting s).out
unfolding step receives
aggregator_serves m second setting s asks new =
    subst (λ a. IsKept (IsOpenIn setting m) m (receives a (is_seen s m) setting s m).state (receives a (is_seen s m) setting s m).out) (sym asks)
    (subst (λ b. IsKept (IsOpenIn setting m) m (receives true b setting s m).state (receives true b setting s m).out) (sym new) (serving_serves setting (sees m s) m asks (is_query m.body) refl))

-- What an entry leaves of what an aggregator has.
use Rattle.std.proofs.Common.{ℕ, zero, suc, ◌≡◌, ◌+◌, Bool, true, false, List, [], ◌∷◌, ◌++◌, Option, Some, None, IfSome, refl, sym, subst, length, slice_get, bytes_eq}
use Rattle.std.specs.List.{All, list_any}
use Rattle.std.proofs.Math.Seq.{take-append_seam, take-length}
use Rattle.std.proofs.lemmas.List.Elements.{All-nil, All-cons, All-append, All-head, All-tail, All-set}
use Rattle.std.proofs.lemmas.Option.{get_or_from_slice_get}
use Rattle.nsi_primitive.specs.Ids.{id_of}
use Rattle.nsi_primitive.specs.Messages.{is_request, connection_of, is_query}
use Rattle.nsi_primitive.specs.declared.kind.ErrorName.{ErrorName}
use Rattle.nsi_primitive.specs.declared.message.Body.{Body}
use Rattle.nsi_primitive.specs.declared.message.Message.{Message}
use Rattle.nsi_primitive.specs.declared.message.ReserveRequest.{ReserveRequest}
use Rattle.nsi_primitive.specs.declared.entry.Entry.{Entry}
use Rattle.nsi_primitive.specs.declared.entry.Input.{Input}
use Rattle.connection_record.specs.declared.record.Record.{Record}
use Rattle.connection_record.specs.Applied.{requested, schedule_end}
use Rattle.connection_record.specs.Courses.{Rises}
use Rattle.connection_record.specs.Demand.{last}
use Rattle.connection_record.specs.Later.{IsLater}
use Rattle.connection_record.specs.Moves.{is_live, fresh, service_of}
use Rattle.connection_record.specs.Refusal.{refusal, place_of, points_of}
use Rattle.connection_record.specs.Unrefused.{IsTakenAt}
use Rattle.connection_record.proofs.Growing.{later_refl, later_trans}
use Rattle.connection_record.proofs.Unrefused.{unrefused_fits, unrefused_at}
use Rattle.child_connection.specs.Views.{ChildConnection}
use Rattle.agent_state.specs.declared.parent.Due.{Due}
use Rattle.agent_state.specs.declared.parent.Leg.{Leg}
use Rattle.agent_state.specs.Entries.{error_reply, query_reply, is_recursive}
use Rattle.agent_state.specs.State.{AgentState, AgentStepped, stays, sends, no_record, record_at, children_at, name_or}
use Rattle.provider_agent.proofs.FittingMoves.{requested_fitting, first_fitting}
use Rattle.provider_agent.proofs.GoodMoves.{IsFitting}
use Rattle.provider_agent.proofs.RecordPlaces.{push_here}
use Rattle.aggregator_agent.specs.declared.agent.Agent.{Agent}
use Rattle.aggregator_agent.specs.Asking.{Turn, views_of, with_path}
use Rattle.aggregator_agent.specs.Below.{Sought, is_asked, seek, opened, nested_reply}
use Rattle.aggregator_agent.specs.Clock.{Told, tell_one, tells_late, tell_all, is_late_of, ends, clocked, clock_then, clock_all}
use Rattle.aggregator_agent.specs.Queries.{answer_to}
use Rattle.aggregator_agent.specs.Setting.{Setting}
use Rattle.aggregator_agent.specs.Steps.{sees, is_seen, request_at, children_for, with_new, opens_between, opens, request_to, accepts, answers, pass_then, hear_all, hears, receives, ticks, step, may_take, after_if, after, opens_query, asks_below, asks_if_own, place_named, queries, serves}
use Rattle.aggregator_agent.specs.Turns.{request_turn, answer_turn}
use Rattle.run_growth.specs.Growth.{IsLaterView, HasGrown}
use Rattle.run_growth.proofs.Staying.{stay_then, stay_none, stay_set, stay_push, stay_more}
use Rattle.run_growth.proofs.Views.{ViewsStay, views_same, views_then}
use Rattle.run_growth.proofs.Records.{IsGrown, grown_same, grown_then, grown_life}
use Rattle.run_growth.proofs.Growing.{grown_state, RecordsStay, records_same, AllViewsStay, all_views_same, labels_same}
use Rattle.run_growth.proofs.Turned.{IsTurned, answer_turned, request_later, request_stays, request_rises}

-- records and views after an entry, or a part of one
record ArePassed (rs qs : List Record) (xss yss : List (List ChildConnection)) : Type 0 where
  records : RecordsStay rs qs
  children : AllViewsStay xss yss
  rises : All Rises rs → All Rises qs

passed_same : (rs : List Record) (xss : List (List ChildConnection)) → ArePassed rs rs xss xss
passed_same rs xss = record { records = records_same rs; children = all_views_same xss; rises = λ h. h }

rising_more : (r q : Record) (rs qs : List Record) → (Rises r → Rises q) → (All Rises rs → All Rises qs) → All Rises (r ∷ rs) → All Rises (q ∷ qs)
rising_more r q rs qs f g h = All-cons Rises q qs (f (All-head Rises r rs h)) (g (All-tail Rises r rs h))

---- A message of a child

heard_passed : (agent : Agent) (now number : ℕ) (m : Message) (next : ℕ) (rs : List Record) (xss : List (List ChildConnection)) →
    ArePassed rs (hear_all agent now number m next rs xss).records xss (hear_all agent now number m next rs xss).children
unfolding hear_all pass_then
heard_passed agent now number m next [] xss = passed_same [] xss
heard_passed agent now number m next (r ∷ rs) [] = passed_same (r ∷ rs) []
heard_passed agent now number m next (r ∷ rs) (xs ∷ xss) =
    let t : Turn = answer_turn agent now m r xs next in
    let here : IsTurned r xs t = answer_turned agent now m r xs next in
    let rest = heard_passed agent now (number + 1) m t.next rs xss in
    record {
      records = stay_more IsLater r t.own rs (hear_all agent now (number + 1) m t.next rs xss).records here.own.later rest.records;
      children = stay_more ViewsStay xs t.children xss (hear_all agent now (number + 1) m t.next rs xss).children here.children rest.children;
      rises = rising_more r t.own rs (hear_all agent now (number + 1) m t.next rs xss).records here.own.rises rest.rises;
    }

---- A tick

late_grown : (delivery c now : ℕ) (r : Record) → IsGrown r (tells_late delivery c now r).rec
unfolding tells_late
late_grown delivery c now r =
    record {
      later = record {
        id = refl;
        owner = refl;
        service = refl;
        source = refl;
        dest = refl;
        committed = take-length r.committed;
        notices = take-append_seam r.notices _;
        results = take-length r.results;
      };
      rises = λ h. record { rising = h.rising; above = h.above };
    }

one_told : (b : Bool) (agent : Agent) (now next : ℕ) (r : Record) (d : Due) (rest : Record → ℕ → Told) → ((q : Record) (n : ℕ) → IsGrown q (rest q n).own) → IsGrown r (tell_one b agent now next r d rest).own
unfolding tell_one
one_told true agent now next r d rest p =
    let q : Record = (tells_late d.correlation (id_of agent.number next) now r).rec in
    grown_then r q (rest q (next + 1)).own (late_grown d.correlation (id_of agent.number next) now r) (p q (next + 1))
one_told false agent now next r d rest p = p r next

all_told : (ds : List Due) (agent : Agent) (now number : ℕ) (waiting : List Message) (r : Record) (next : ℕ) → IsGrown r (tell_all ds agent now number waiting r next).own
unfolding tell_all
all_told [] agent now number waiting r next = grown_same r
all_told (d ∷ ds) agent now number waiting r next =
    one_told (is_late_of number now waiting d) agent now next r d (λ q n. tell_all ds agent now number waiting q n) (λ q n. all_told ds agent now number waiting q n)

ended : (b : Bool) (now : ℕ) (r : Record) → IsGrown r (ends b now r).rec
unfolding ends
ended true now r = grown_life (schedule_end (last r.committed) now) now r
ended false now r = grown_same r

clocked_grown : (agent : Agent) (now number : ℕ) (ds : List Due) (waiting : List Message) (r : Record) (next : ℕ) → IsGrown r (clocked agent now number ds waiting r next).own
unfolding clocked
clocked_grown agent now number ds waiting r next =
    let q : Record = (ends (is_live r.lsm) now r).rec in
    grown_then r q (tell_all ds agent now number waiting q next).own (ended (is_live r.lsm) now r) (all_told ds agent now number waiting q next)

clocked_passed : (agent : Agent) (now number : ℕ) (ds : List Due) (waiting : List Message) (next : ℕ) (rs : List Record) (xss : List (List ChildConnection)) →
    ArePassed rs (clock_all agent now number ds waiting next rs).records xss xss
unfolding clock_all clock_then
clocked_passed agent now number ds waiting next [] xss = passed_same [] xss
clocked_passed agent now number ds waiting next (r ∷ rs) xss =
    let t : Told = clocked agent now number ds waiting r next in
    let g : IsGrown r t.own = clocked_grown agent now number ds waiting r next in
    let rest = clocked_passed agent now (number + 1) ds waiting t.next rs xss in
    record {
      records = stay_more IsLater r t.own rs (clock_all agent now (number + 1) ds waiting t.next rs).records g.later rest.records;
      children = all_views_same xss;
      rises = rising_more r t.own rs (clock_all agent now (number + 1) ds waiting t.next rs).records g.rises rest.rises;
    }

---- A request

-- what an entry, or a part of one, leaves
record IsPassed (s : AgentState) (x : AgentStepped) : Type 0 where
  grown : HasGrown s x.state
  rises : All Rises s.base.records → All Rises x.state.base.records

stays_passed : (s : AgentState) → IsPassed s (stays s)
stays_passed s = record { grown = grown_state s; rises = λ h. h }

path_stays : (body : Body) (xs : List ChildConnection) (legs : List Leg) → ViewsStay xs (with_path body xs legs)
unfolding with_path
path_stays (Body.Reserve q) [] legs = stay_none IsLaterView (views_of legs)
path_stays (Body.Reserve q) (x ∷ xs) legs = views_same (x ∷ xs)
path_stays _ xs legs = views_same xs

none_rises : Rises no_record
none_rises = record { rising = tt; above = tt }

rises_at : (n : ℕ) (rs : List Record) → All Rises rs → Rises (record_at n rs)
rises_at n [] h = none_rises
rises_at zero (r ∷ rs) h = All-head Rises r rs h
rises_at (suc n) (r ∷ rs) h = rises_at n rs (All-tail Rises r rs h)

-- a request that fits a record
abbrev Fits : (now : ℕ) → Message → Record → Type 0
Fits now m r = IfSome (requested now m.body m.header.correlation r) (λ move. IsFitting move r)

requested_passed : (setting : Setting) (s : AgentState) (n : ℕ) (m : Message) → Fits s.base.now m (record_at n s.base.records) → IsPassed s (request_at setting s n m)
unfolding request_at
requested_passed setting s n m fits =
    let r : Record = record_at n s.base.records in
    let xs : List ChildConnection = children_for setting s n m in
    let t : Turn = request_turn setting.agent s.base.now m r xs s.base.next in
    record {
      grown = record {
        records = stay_set IsLater later_refl s.base.records n t.own
            (λ q e. subst (λ z. IsLater z t.own) (get_or_from_slice_get s.base.records n q no_record e) (request_later setting.agent s.base.now m r xs s.base.next));
        views = labels_same s.views;
        children = stay_set ViewsStay views_same s.children n t.children
            (λ ys e. views_then ys xs t.children (path_here ys e) (request_stays setting.agent s.base.now m r xs s.base.next));
      };
      rises = λ h. All-set Rises s.base.records n t.own (request_rises setting.agent s.base.now m r xs s.base.next fits (rises_at n s.base.records h)) h;
    }
  where
    path_here : (ys : List ChildConnection) → slice_get s.children n ≡ Some ys → ViewsStay ys (children_for setting s n m)
    path_here ys e =
        subst (λ zs. ViewsStay zs (children_for setting s n m)) (get_or_from_slice_get s.children n ys [] e)
        (path_stays m.body (children_at n s.children) (setting.route (record_at n s.base.records).source (record_at n s.base.records).dest))

at_end : (rs : List Record) (r : Record) → record_at (length rs) (rs ++ r ∷ []) ≡ r
at_end rs r = get_or_from_slice_get (rs ++ r ∷ []) (length rs) r no_record (push_here rs r)

opened_passed : (setting : Setting) (s : AgentState) (m : Message) (q : ReserveRequest) (o : Option (ℕ × ℕ)) → IsPassed s (opens_between o setting s m q)
opened_passed setting s m q None = stays_passed s
opened_passed setting s m q (Some points) =
    let r : Record = fresh (id_of setting.agent.number s.base.next) m.header.requester (service_of q (name_or q.source) (name_or q.dest)) points.0 points.1 in
    let new : AgentState = with_new setting s m q points in
    let fits : Fits s.base.now m (record_at (length s.base.records) new.base.records) = subst (Fits s.base.now m) (sym (at_end s.base.records r)) (first_fitting s.base.now m.body m.header.correlation r refl) in
    let x : IsPassed new (request_at setting new (length s.base.records) m) = requested_passed setting new (length s.base.records) m fits in
    let own : Rises r = record { rising = tt; above = tt } in
    record {
      grown = record {
        records = stay_then IsLater later_trans s.base.records new.base.records _ (stay_push IsLater later_refl s.base.records r) x.grown.records;
        views = x.grown.views;
        children = stay_then ViewsStay views_then s.children new.children _ (stay_push ViewsStay views_same s.children []) x.grown.children;
      };
      rises = λ h. x.rises (All-append Rises s.base.records (r ∷ []) h (All-cons Rises r [] own (All-nil Rises)));
    }

opens_passed : (setting : Setting) (s : AgentState) (m : Message) (body : Body) → IsPassed s (opens body setting s m)
opens_passed setting s m (Body.Reserve q) = opened_passed setting s m q (points_of setting.stp_of q)
opens_passed setting s m _ = stays_passed s

-- what isn't refused fits
taken_passed : (setting : Setting) (s : AgentState) (m : Message) (id : ℕ) → IsTakenAt s.base.now m s.base.records id → IsPassed s (request_to (place_of id m.header.requester s.base.records) setting s m)
taken_passed setting s m id t =
    let same : record_at t.place s.base.records ≡ t.own = get_or_from_slice_get s.base.records t.place t.own no_record t.there in
    let fits : Fits s.base.now m (record_at t.place s.base.records) =
    subst (Fits s.base.now m) (sym same) (requested_fitting s.base.now m.body m.header.correlation t.own (unrefused_fits s.base.now m.body t.own t.unrefused).modification)
    in
    subst (λ o. IsPassed s (request_to o setting s m)) (sym t.found) (requested_passed setting s t.place m fits)

accepts_passed : (setting : Setting) (s : AgentState) (m : Message) (o : Option ℕ) → connection_of m.body ≡ o → refusal s.base.now setting.agent.name setting.stp_of s.base.records m ≡ None → IsPassed s (accepts o setting s m)
accepts_passed setting s m None c u = opens_passed setting s m m.body
accepts_passed setting s m (Some id) c u = taken_passed setting s m id (unrefused_at s.base.now setting.agent.name setting.stp_of s.base.records m id c u)

answers_passed : (setting : Setting) (s : AgentState) (m : Message) (o : Option ErrorName) → refusal s.base.now setting.agent.name setting.stp_of s.base.records m ≡ o → IsPassed s (answers o setting s m)
unfolding answers
answers_passed setting s m (Some error) u = record { grown = grown_state s; rises = λ h. h }
answers_passed setting s m None u = accepts_passed setting s m (connection_of m.body) refl u

---- A query

-- what is told of connections leaves them as they are
told_passed : (s : AgentState) (reply : Message) → IsPassed s (sends s (reply ∷ []))
told_passed s reply = record { grown = grown_state s; rises = λ h. h }

sought_passed : (waits : Bool) (setting : Setting) (s : AgentState) (n : ℕ) (m : Message) (x : Sought) → IsPassed s (opens_query waits setting s n m x)
sought_passed true setting s n m x =
    record { grown = record { records = records_same s.base.records; views = labels_same s.views; children = all_views_same s.children }; rises = λ h. h }
sought_passed false setting s n m x = told_passed s (nested_reply setting.agent.name (record_at n s.base.records) (opened m n x))

own_passed : (is_own : Bool) (o : Option ℕ) (setting : Setting) (s : AgentState) (m : Message) → IsPassed s (asks_if_own is_own o setting s m)
unfolding asks_below
own_passed true (Some n) setting s m =
    let x = seek setting.agent s.base.next (children_at n s.children) in
    sought_passed (list_any is_asked x.parts) setting s n m x
own_passed true None setting s m = told_passed s (error_reply setting.agent.name m ErrorName.Nonexistent)
own_passed false o setting s m = told_passed s (error_reply setting.agent.name m ErrorName.WrongProvider)

queries_passed : (is_recursive : Bool) (setting : Setting) (s : AgentState) (m : Message) → IsPassed s (queries is_recursive setting s m)
queries_passed true setting s m = own_passed (bytes_eq m.header.provider setting.agent.name) (place_named m s.base.records) setting s m
queries_passed false setting s m = told_passed s (query_reply setting.agent.name m (answer_to setting.agent.name s m))

serves_passed : (is_query : Bool) (setting : Setting) (s : AgentState) (m : Message) → IsPassed s (serves is_query setting s m)
serves_passed true setting s m = queries_passed (is_recursive m.body) setting s m
serves_passed false setting s m = answers_passed setting s m (refusal s.base.now setting.agent.name setting.stp_of s.base.records m) refl

---- Any entry

heard_step : (setting : Setting) (s : AgentState) (m : Message) → IsPassed s (hears setting s m)
unfolding hears
heard_step setting s m =
    let all = heard_passed setting.agent s.base.now 0 m s.base.next s.base.records s.children in
    record { grown = record { records = all.records; views = labels_same s.views; children = all.children }; rises = all.rises }

received_step : (asks is_old : Bool) (setting : Setting) (s : AgentState) (m : Message) → IsPassed s (receives asks is_old setting s m)
unfolding receives
received_step true false setting s m =
    let x = serves_passed (is_query m.body) setting (sees m s) m in
    record { grown = record { records = x.grown.records; views = x.grown.views; children = x.grown.children }; rises = x.rises }
received_step false false setting s m =
    let x = heard_step setting (sees m s) m in
    record { grown = record { records = x.grown.records; views = x.grown.views; children = x.grown.children }; rises = x.rises }
received_step true true setting s m = stays_passed s
received_step false true setting s m = stays_passed s

ticked_step : (setting : Setting) (now : ℕ) (s : AgentState) → IsPassed s (ticks setting now s)
unfolding ticks
ticked_step setting now s =
    let all = clocked_passed setting.agent now 0 s.dues s.base.waiting s.base.next s.base.records s.children in
    record { grown = record { records = all.records; views = labels_same s.views; children = all.children }; rises = all.rises }

taken_step : (input : Input) (second : ℕ) (setting : Setting) (s : AgentState) → IsPassed s (step input second setting s)
unfolding step
taken_step (Input.Got m) second setting s = received_step (is_request m.body) (is_seen s m) setting s m
taken_step Input.Tick second setting s = ticked_step setting second s
taken_step (Input.Acked i) second setting s =
    record { grown = record { records = records_same s.base.records; views = labels_same s.views; children = all_views_same s.children }; rises = λ h. h }
taken_step (Input.Work n machine) second setting s = stays_passed s
taken_step (Input.Force n) second setting s = stays_passed s
taken_step (Input.Ask n a) second setting s = stays_passed s

passed_after : (setting : Setting) (s : AgentState) (e : Entry) → IsPassed s (after setting s e)
unfolding after
passed_after setting s e = by_may (may_take s e)
  where
    by_may : (b : Bool) → IsPassed s (after_if b setting s e)
    by_may false = stays_passed s
    by_may true =
        let x = taken_step e.input e.second setting s in
        record { grown = record { records = x.grown.records; views = x.grown.views; children = x.grown.children }; rises = x.rises }

pub aggregator_grows : (setting : Setting) (s : AgentState) (e : Entry) → HasGrown s (after setting s e).state
aggregator_grows setting s e = (passed_after setting s e).grown

pub aggregator_rises : (setting : Setting) (s : AgentState) (e : Entry) → All Rises s.base.records → All Rises (after setting s e).state.base.records
aggregator_rises setting s e h = (passed_after setting s e).rises h

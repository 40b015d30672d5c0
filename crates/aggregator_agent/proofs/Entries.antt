-- What no entry does to an aggregator: its texts stay, what it says can be written, and each request has an id of its own.
use Rattle.std.proofs.Common.{◌≡◌, ◌≤◌, ◌+◌, inl, ℕ, Bool, true, false, List, [], ◌∷◌, length, Option, Some, None, IfSome, refl, arith}
use Rattle.std.specs.List.{All, list_any}
use Rattle.std.specs.Str.{bytes_eq}
use Rattle.std.proofs.lemmas.List.Elements.{All-nil, All-cons, All-append, All-head, All-tail, All-set}
use Rattle.nsi_primitive.specs.Ids.{id_of}
use Rattle.nsi_primitive.specs.Messages.{is_request, is_query, connection_of}
use Rattle.nsi_primitive.specs.Printable.{IsPrintable, IsPrintableInput, IsPrintableBody, has_further_keys}
use Rattle.nsi_primitive.specs.declared.kind.ErrorName.{ErrorName}
use Rattle.nsi_primitive.specs.declared.message.Body.{Body}
use Rattle.nsi_primitive.specs.declared.message.Message.{Message}
use Rattle.nsi_primitive.specs.declared.message.ReserveRequest.{ReserveRequest}
use Rattle.nsi_primitive.specs.declared.entry.Entry.{Entry}
use Rattle.nsi_primitive.specs.declared.entry.Input.{Input}
use Rattle.connection_record.specs.declared.record.Record.{Record}
use Rattle.connection_record.specs.Demand.{last}
use Rattle.connection_record.specs.Moves.{is_live, fresh, service_of}
use Rattle.connection_record.specs.Applied.{schedule_end}
use Rattle.connection_record.specs.Refusal.{refusal, place_of, points_of, modification_refusal, unnamed_refusal}
use Rattle.connection_record.specs.Replies.{addressed}
use Rattle.child_connection.specs.Views.{ChildConnection}
use Rattle.agent_state.specs.declared.parent.Due.{Due}
use Rattle.agent_state.specs.Entries.{error_reply, query_reply, is_recursive}
use Rattle.agent_state.specs.State.{AgentState, AgentStepped, stays, sends, record_at, children_at, name_or, counts_agent}
use Rattle.aggregator_agent.specs.declared.agent.Agent.{Agent}
use Rattle.aggregator_agent.specs.Turns.{request_turn, answer_turn, spoken}
use Rattle.aggregator_agent.specs.Clock.{Told, tell_one, tells_late, tell_all, is_late_of, ends, clocked, clock_then, clock_all}
use Rattle.aggregator_agent.specs.Setting.{Setting}
use Rattle.aggregator_agent.specs.Steps.{sees, is_seen, request_at, children_for, with_new, opens_between, opens, request_to, accepts, answers, opens_query, asks_below, asks_if_own, place_named, queries, serves, pass_then, hear_all, hears, receives, ticks, step, may_take, after_if, after}
use Rattle.aggregator_agent.specs.Good.{IsWritable, IsGood}
use Rattle.aggregator_agent.specs.Queries.{answer_to}
use Rattle.aggregator_agent.specs.Below.{is_asked, seek, hear_below}
use Rattle.agent_state.proofs.Querying.{replied_by}
use Rattle.aggregator_agent.proofs.Queried.{reply_asks_nothing, tells_printable, writable_at}
use Rattle.aggregator_agent.specs.Laws.{AreDrawn}
use Rattle.aggregator_agent.proofs.MildReplies.{AreMild, both_mild, IsMildMoved, stays_mild, writable_later, lives_mild}
use Rattle.aggregator_agent.proofs.Mild.{AreLaws, IsMildAsking, none_mild, drawn_none, drawn_up, drawn_addressed, addressed_printable, both_asking}
use Rattle.aggregator_agent.proofs.Below.{all_sought, all_answers, answers_mild}
use Rattle.aggregator_agent.proofs.MildTurns.{request_mild, answer_mild, spoken_mild}

-- an entry, or a part of one
pub record IsMildStep (agent : ℕ) (s : AgentState) (x : AgentStepped) : Type 0 where
  pub good : IsGood x.state
  pub said : IsMildAsking agent s.base.next x.out x.state.base.next
  pub answer : x.answer ≡ None

stays_step : (agent : ℕ) (s : AgentState) → IsGood s → IsMildStep agent s (stays s)
stays_step agent s g = record { good = g; said = none_mild agent s.base.next; answer = refl }

---- All connections

-- records after an entry, and what they say
record AreMildly (agent next : ℕ) (rs : List Record) (out : List Message) (last : ℕ) : Type 0 where
  good : All IsWritable rs
  said : IsMildAsking agent next out last

heard_mildly : AreLaws → (agent : Agent) (now number : ℕ) (m : Message) (next : ℕ) (rs : List Record) (xss : List (List ChildConnection)) → All IsWritable rs →
    AreMildly agent.number next (hear_all agent now number m next rs xss).records (hear_all agent now number m next rs xss).out (hear_all agent now number m next rs xss).next
unfolding hear_all pass_then
heard_mildly laws agent now number m next [] xss g = record { good = g; said = none_mild agent.number next }
heard_mildly laws agent now number m next (r ∷ rs) [] g = record { good = g; said = none_mild agent.number next }
heard_mildly laws agent now number m next (r ∷ rs) (xs ∷ xss) g =
    let t = answer_turn agent now m r xs next in
    let mild = answer_mild laws agent now m r xs next (All-head IsWritable r rs g) in
    let rest = heard_mildly laws agent now (number + 1) m t.next rs xss (All-tail IsWritable r rs g) in
    record {
      good = All-cons IsWritable t.own (hear_all agent now (number + 1) m t.next rs xss).records mild.writable rest.good;
      said = both_asking agent.number next (spoken agent t) t.next (hear_all agent now (number + 1) m t.next rs xss).out (hear_all agent now (number + 1) m t.next rs xss).next (spoken_mild agent next t mild) rest.said;
    }

---- A tick

-- a record in the course of a tick
record IsMildTold (r : Record) (next : ℕ) (t : Told) : Type 0 where
  writable : IsWritable t.own
  says : AreMild t.out
  rises : next ≤ t.next

late_writable : (delivery c now : ℕ) (r : Record) → IsWritable r → IsWritable (tells_late delivery c now r).rec
unfolding tells_late
late_writable delivery c now r w = record { description = w.description; global = w.global }

late_says : (delivery c now : ℕ) (r : Record) → AreMild (tells_late delivery c now r).out
unfolding tells_late
late_says delivery c now r = ((tt, refl), tt)

one_told : (b : Bool) (agent : Agent) (now next : ℕ) (r : Record) (d : Due) (rest : Record → ℕ → Told) → IsWritable r → ((s : Record) (n : ℕ) → IsWritable s → IsMildTold s n (rest s n)) → IsMildTold r next (tell_one b agent now next r d rest)
unfolding tell_one
one_told true agent now next r d rest w p =
    let x = tells_late d.correlation (id_of agent.number next) now r in
    let more = p x.rec (next + 1) (late_writable d.correlation (id_of agent.number next) now r w) in
    record {
      writable = more.writable;
      says = both_mild x.out (rest x.rec (next + 1)).out (late_says d.correlation (id_of agent.number next) now r) more.says;
      rises = let up = more.rises in omega (arith, up);
    }
one_told false agent now next r d rest w p = p r next w

all_told : (ds : List Due) (agent : Agent) (now number : ℕ) (waiting : List Message) (r : Record) (next : ℕ) → IsWritable r → IsMildTold r next (tell_all ds agent now number waiting r next)
unfolding tell_all
all_told [] agent now number waiting r next w = record { writable = w; says = tt; rises = omega arith }
all_told (d ∷ ds) agent now number waiting r next w = one_told (is_late_of number now waiting d) agent now next r d (λ s n. tell_all ds agent now number waiting s n) w (λ s n v. all_told ds agent now number waiting s n v)

ends_mild : (b : Bool) (now : ℕ) (r : Record) → IsMildMoved r (ends b now r)
unfolding ends
ends_mild true now r = lives_mild (schedule_end (last r.committed) now) now r
ends_mild false now r = stays_mild r

clocked_mild : (agent : Agent) (now number : ℕ) (ds : List Due) (waiting : List Message) (r : Record) (next : ℕ) → IsWritable r → IsMildTold r next (clocked agent now number ds waiting r next)
unfolding clocked
clocked_mild agent now number ds waiting r next w =
    let x = ends (is_live r.lsm) now r in
    let ended = ends_mild (is_live r.lsm) now r in
    let told = all_told ds agent now number waiting x.rec next (writable_later r x.rec ended.later w) in
    record { writable = told.writable; says = both_mild x.out (tell_all ds agent now number waiting x.rec next).out ended.says told.says; rises = told.rises }

clocked_mildly : (agent : Agent) (now number : ℕ) (ds : List Due) (waiting : List Message) (next : ℕ) (rs : List Record) → All IsWritable rs →
    AreMildly agent.number next (clock_all agent now number ds waiting next rs).records (clock_all agent now number ds waiting next rs).out (clock_all agent now number ds waiting next rs).next
unfolding clock_all clock_then
clocked_mildly agent now number ds waiting next [] g = record { good = g; said = none_mild agent.number next }
clocked_mildly agent now number ds waiting next (r ∷ rs) g =
    let t = clocked agent now number ds waiting r next in
    let mild = clocked_mild agent now number ds waiting r next (All-head IsWritable r rs g) in
    let rest = clocked_mildly agent now (number + 1) ds waiting t.next rs (All-tail IsWritable r rs g) in
    let all = clock_all agent now (number + 1) ds waiting t.next rs in
    let here : IsMildAsking agent.number next (addressed agent.name t.own.owner t.out) t.next = record {
      prints = addressed_printable agent.name t.own.owner t.out mild.says;
      drawn = drawn_up agent.number next (addressed agent.name t.own.owner t.out) next t.next (drawn_addressed agent.number agent.name t.own.owner t.out next mild.says) mild.rises;
    } in
    record {
      good = All-cons IsWritable t.own all.records mild.writable rest.good;
      said = both_asking agent.number next (addressed agent.name t.own.owner t.out) t.next all.out all.next here rest.said;
    }

---- Requests

requested_step : AreLaws → (setting : Setting) (s : AgentState) (n : ℕ) (m : Message) → IsGood s → IsMildStep setting.agent.number s (request_at setting s n m)
unfolding request_at
requested_step laws setting s n m g =
    let own = record_at n s.base.records in
    let t = request_turn setting.agent s.base.now m own (children_for setting s n m) s.base.next in
    let mild = request_mild laws setting.agent s.base.now m own (children_for setting s n m) s.base.next (writable_at n s.base.records g) in
    record { good = All-set IsWritable s.base.records n t.own mild.writable g; said = spoken_mild setting.agent s.base.next t mild; answer = refl }

less_step : (agent : ℕ) (s : AgentState) (x : AgentStepped) (less : ℕ) → less ≤ s.base.next → IsMildStep agent s x → IsMildAsking agent less x.out x.state.base.next
less_step agent s x less l p = both_asking agent less [] s.base.next x.out x.state.base.next (record { prints = All-nil IsPrintable; drawn = drawn_none agent less s.base.next l }) p.said

opened_step : AreLaws → (setting : Setting) (s : AgentState) (m : Message) (q : ReserveRequest) (o : Option (ℕ × ℕ)) → IsPrintableBody (Body.Reserve q) → IsGood s → IsMildStep setting.agent.number s (opens_between o setting s m q)
opened_step laws setting s m q None p g = stays_step setting.agent.number s g
opened_step laws setting s m q (Some points) p g =
    let r = fresh (id_of setting.agent.number s.base.next) m.header.requester (service_of q (name_or q.source) (name_or q.dest)) points.0 points.1 in
    let new = with_new setting s m q points in
    let w : IsWritable r = record { description = p.description; global = p.global } in
    let good : IsGood new = All-append IsWritable s.base.records (r ∷ []) g (All-cons IsWritable r [] w (All-nil IsWritable)) in
    let x = requested_step laws setting new (length s.base.records) m good in
    record { good = x.good; said = less_step setting.agent.number new (request_at setting new (length s.base.records) m) s.base.next (omega arith) x; answer = x.answer }

opens_step : AreLaws → (setting : Setting) (s : AgentState) (m : Message) (body : Body) → IsPrintableBody body → IsGood s → IsMildStep setting.agent.number s (opens body setting s m)
opens_step laws setting s m (Body.Reserve q) p g = opened_step laws setting s m q (points_of setting.stp_of q) p g
opens_step laws setting s m _ p g = stays_step setting.agent.number s g

accepts_step : AreLaws → (setting : Setting) (s : AgentState) (m : Message) (o : Option ℕ) → IsPrintable m → IsGood s → IsMildStep setting.agent.number s (accepts o setting s m)
accepts_step laws setting s m None p g = opens_step laws setting s m m.body p g
accepts_step laws setting s m (Some id) p g = by_place (place_of id m.header.requester s.base.records)
  where
    by_place : (o : Option ℕ) → IsMildStep setting.agent.number s (request_to o setting s m)
    by_place None = stays_step setting.agent.number s g
    by_place (Some n) = requested_step laws setting s n m g

-- an error that is told by its name alone
abbrev IsPlain : Option ErrorName → Type 0
IsPlain o = IfSome o (λ error. has_further_keys error ≡ false)

plain_of_record : (now : ℕ) (b : Body) (r : Record) → IsPlain (modification_refusal now b r)
unfolding modification_refusal
plain_of_record now b r = grind arith

plain_of_none : (now : ℕ) (b : Body) (stp_of : List ℕ → Option ℕ) → IsPlain (unnamed_refusal now b stp_of)
unfolding unnamed_refusal
plain_of_none now b stp_of = grind arith

refusal_plain : (now : ℕ) (agent : List ℕ) (stp_of : List ℕ → Option ℕ) (rs : List Record) (m : Message) → IsPlain (refusal now agent stp_of rs m)
unfolding refusal
refusal_plain now agent stp_of rs m = grind (arith, plain_of_record, plain_of_none)

refused_step : (setting : Setting) (s : AgentState) (m : Message) (error : ErrorName) → has_further_keys error ≡ false → IsGood s → IsMildStep setting.agent.number s (sends s (error_reply setting.agent.name m error ∷ []))
unfolding AreDrawn
refused_step setting s m error plain g = record {
  good = g;
  said = record { prints = All-cons IsPrintable (error_reply setting.agent.name m error) [] plain (All-nil IsPrintable); drawn = inl (refl, omega arith) };
  answer = refl;
}

answered_step : AreLaws → (setting : Setting) (s : AgentState) (m : Message) (o : Option ErrorName) → IsPlain o → IsPrintable m → IsGood s → IsMildStep setting.agent.number s (answers o setting s m)
unfolding answers
answered_step laws setting s m (Some error) plain p g = refused_step setting s m error plain g
answered_step laws setting s m None plain p g = accepts_step laws setting s m (connection_of m.body) p g

heard_step : AreLaws → (setting : Setting) (s : AgentState) (m : Message) → IsGood s → IsMildStep setting.agent.number s (hears setting s m)
unfolding hears
heard_step laws setting s m g =
    let x = hear_all setting.agent s.base.now 0 m s.base.next s.base.records s.children in
    let all = heard_mildly laws setting.agent s.base.now 0 m s.base.next s.base.records s.children g in
    let more = (hear_below setting.agent.name s.base.records m s.queries).out in
    let answered = answers_mild setting.agent.number x.next more (all_answers setting.agent.name s.base.records m s.queries) in
    record { good = all.good; said = both_asking setting.agent.number s.base.next x.out x.next more x.next all.said answered; answer = refl }

replied_step : (setting : Setting) (s : AgentState) (m : Message) → IsGood s → IsMildStep setting.agent.number s (sends s (query_reply setting.agent.name m (answer_to setting.agent.name s m) ∷ []))
unfolding AreDrawn
replied_step setting s m g =
    let answer = answer_to setting.agent.name s m in
    record {
      good = g;
      said = record {
        prints =
            All-cons IsPrintable (query_reply setting.agent.name m answer) []
            (replied_by IsPrintableBody setting.agent.name m answer (λ error plain. plain) (λ body e. tells_printable setting.agent.name s m body g e)) (All-nil IsPrintable);
        drawn =
            inl (reply_asks_nothing setting.agent.name s m, omega arith);
      };
      answer = refl;
    }

sought_step : (waits : Bool) (setting : Setting) (s : AgentState) (n : ℕ) (m : Message) → IsGood s → IsMildStep setting.agent.number s (opens_query waits setting s n m (seek setting.agent s.base.next (children_at n s.children)))
unfolding AreDrawn
sought_step true setting s n m g = record { good = g; said = all_sought setting.agent s.base.next (children_at n s.children); answer = refl }
sought_step false setting s n m g = record { good = g; said = record { prints = All-cons IsPrintable _ [] tt (All-nil IsPrintable); drawn = inl (refl, omega arith) }; answer = refl }

below_step : (setting : Setting) (s : AgentState) (n : ℕ) (m : Message) → IsGood s → IsMildStep setting.agent.number s (asks_below setting s n m)
unfolding asks_below
below_step setting s n m g = sought_step (list_any is_asked (seek setting.agent s.base.next (children_at n s.children)).parts) setting s n m g

own_step : (is_own : Bool) (o : Option ℕ) (setting : Setting) (s : AgentState) (m : Message) → IsGood s → IsMildStep setting.agent.number s (asks_if_own is_own o setting s m)
own_step true (Some n) setting s m g = below_step setting s n m g
own_step true None setting s m g = refused_step setting s m ErrorName.Nonexistent refl g
own_step false o setting s m g = refused_step setting s m ErrorName.WrongProvider refl g

queried_step : (is_recursive : Bool) (setting : Setting) (s : AgentState) (m : Message) → IsGood s → IsMildStep setting.agent.number s (queries is_recursive setting s m)
queried_step true setting s m g = own_step (bytes_eq m.header.provider setting.agent.name) (place_named m s.base.records) setting s m g
queried_step false setting s m g = replied_step setting s m g

served_step : AreLaws → (is_query : Bool) (setting : Setting) (s : AgentState) (m : Message) → IsPrintable m → IsGood s → IsMildStep setting.agent.number s (serves is_query setting s m)
served_step laws true setting s m p g = queried_step (is_recursive m.body) setting s m g
served_step laws false setting s m p g =
    answered_step laws setting s m (refusal s.base.now setting.agent.name setting.stp_of s.base.records m) (refusal_plain s.base.now setting.agent.name setting.stp_of s.base.records m) p g

received_step : AreLaws → (is_request is_old : Bool) (setting : Setting) (s : AgentState) (m : Message) → IsPrintable m → IsGood s → IsMildStep setting.agent.number s (receives is_request is_old setting s m)
unfolding receives
received_step laws true false setting s m p g =
    let x = served_step laws (is_query m.body) setting (sees m s) m p g in
    record { good = x.good; said = x.said; answer = x.answer }
received_step laws false false setting s m p g =
    let x = heard_step laws setting (sees m s) m g in
    record { good = x.good; said = x.said; answer = x.answer }
received_step laws true true setting s m p g = stays_step setting.agent.number s g
received_step laws false true setting s m p g = stays_step setting.agent.number s g

ticked_step : (setting : Setting) (now : ℕ) (s : AgentState) → IsGood s → IsMildStep setting.agent.number s (ticks setting now s)
unfolding ticks
ticked_step setting now s g =
    let all = clocked_mildly setting.agent now 0 s.dues s.base.waiting s.base.next s.base.records g in
    record { good = all.good; said = all.said; answer = refl }

taken_step : AreLaws → (input : Input) (second : ℕ) (setting : Setting) (s : AgentState) → IsPrintableInput input → IsGood s → IsMildStep setting.agent.number s (step input second setting s)
unfolding step
taken_step laws (Input.Got m) second setting s p g = received_step laws (is_request m.body) (is_seen s m) setting s m p g
taken_step laws Input.Tick second setting s p g = ticked_step setting second s g
taken_step laws (Input.Acked i) second setting s p g = record { good = g; said = none_mild setting.agent.number s.base.next; answer = refl }
taken_step laws (Input.Work n machine) second setting s p g = stays_step setting.agent.number s g
taken_step laws (Input.Force n) second setting s p g = stays_step setting.agent.number s g
taken_step laws (Input.Ask n a) second setting s p g = stays_step setting.agent.number s g

pub entered : AreLaws → (setting : Setting) (s : AgentState) (e : Entry) → IsPrintableInput e.input → IsGood s → IsMildStep setting.agent.number s (after setting s e)
unfolding after
entered laws setting s e p g = by_may (may_take s e)
  where
    by_may : (b : Bool) → IsMildStep setting.agent.number s (after_if b setting s e)
    by_may false = stays_step setting.agent.number s g
    by_may true =
        let x = taken_step laws e.input e.second setting s p g in
        record { good = x.good; said = x.said; answer = x.answer }

pub after_is : (setting : Setting) (s : AgentState) (e : Entry) → may_take s e ≡ true → after setting s e ≡ counts_agent (step e.input e.second setting s)
unfolding after
after_is setting s e h = rw h refl

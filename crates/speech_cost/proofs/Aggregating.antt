-- What an entry makes an aggregator say by itself is paid by what was left to say, or by the request that it takes.
use Rattle.std.proofs.Common.{ℕ, ◌+◌, ◌≤◌, ◌<◌, ◌≡◌, ◌∙◌, Bool, true, false, List, [], ◌∷◌, Option, Some, None, refl, sym, ap, subst, arith, length, length-append, bytes_eq, slice_get, if◌then◌else◌}
use Rattle.std.specs.List.{list_any}
use Rattle.std.proofs.lemmas.List.Sums.{sum_by-cons, sum_by-append, sum_by-set}
use Rattle.std.proofs.lemmas.Option.{slice_get_within}
use Rattle.nsi_primitive.specs.Ids.{id_of}
use Rattle.nsi_primitive.specs.Messages.{is_request, is_query, connection_of}
use Rattle.nsi_primitive.specs.declared.entry.Entry.{Entry}
use Rattle.nsi_primitive.specs.declared.entry.Input.{Input}
use Rattle.nsi_primitive.specs.declared.kind.ErrorName.{ErrorName}
use Rattle.nsi_primitive.specs.declared.message.Body.{Body}
use Rattle.nsi_primitive.specs.declared.message.Message.{Message}
use Rattle.nsi_primitive.specs.declared.message.ReserveRequest.{ReserveRequest}
use Rattle.nsi_primitive.specs.declared.message.Service.{Service}
use Rattle.connection_record.specs.declared.record.Record.{Record}
use Rattle.connection_record.specs.declared.life.LifecycleMove.{LifecycleMove}
use Rattle.connection_record.specs.Demand.{last}
use Rattle.connection_record.specs.Lives.{lives_if}
use Rattle.connection_record.specs.Moves.{fresh, service_of, is_live, is_due}
use Rattle.connection_record.specs.Refusal.{refusal, points_of}
use Rattle.connection_record.specs.Replies.{Moved, addressed}
use Rattle.connection_record.specs.Applied.{end_of}
use Rattle.connection_record.specs.Speaking.{one, tally, is_asking, is_noting, is_answering}
use Rattle.connection_record.specs.Unrefused.{IsTakenAt}
use Rattle.connection_record.proofs.Saying.{tally_append}
use Rattle.connection_record.proofs.Unrefused.{unrefused_at}
use Rattle.child_connection.specs.Views.{ChildConnection}
use Rattle.agent_state.specs.declared.parent.Due.{Due}
use Rattle.agent_state.specs.declared.parent.OpenQuery.{OpenQuery}
use Rattle.agent_state.specs.declared.parent.Part.{Part}
use Rattle.agent_state.specs.Entries.{error_reply, is_recursive, retry_of, query_reply}
use Rattle.agent_state.specs.State.{sends, AgentState, AgentStepped, blank_agent, stays, record_at, no_record, name_or, children_at}
use Rattle.aggregator_agent.specs.declared.agent.Agent.{Agent}
use Rattle.aggregator_agent.specs.Asking.{Turn}
use Rattle.aggregator_agent.specs.Below.{Sought, is_asked, seek_of, seek_one, seek, opened, nested_reply, Heard, part_of, closes_unless, told_at, tells_query, tells_first, tells_if, asked_place, hear_below}
use Rattle.aggregator_agent.specs.Clock.{tells_late, Told as Tell, tell_one, tell_all, is_late_of, ends, clocked, Clocked, clock_then, clock_all}
use Rattle.aggregator_agent.specs.Setting.{Setting}
use Rattle.aggregator_agent.specs.Queries.{answer_to}
use Rattle.aggregator_agent.specs.Steps.{is_seen, sees, children_for, request_at, with_new, opens_between, opens, request_to, accepts, answers, Passed, pass_then, hear_all, hears, opens_query, asks_below, asks_if_own, place_named, queries, receives, ticks, step, serves, may_take, after_if, after as aggregator_after}
use Rattle.aggregator_agent.specs.Turns.{request_turn, answer_turn, spoken}
use Rattle.nsi_agent.specs.Homes.{Home, aggregates}
use Rattle.nsi_agent.specs.Steps.{after_as, after}
use Rattle.nsi_agent.specs.Told.{Told, goes_on, told}
use Rattle.agent_speech.proofs.Measures.{with_new_taken}
use Rattle.agent_speech.proofs.Noting.{saw_other, new_request, saw_request}
use Rattle.speech_cost.specs.Costs.{says_own, left_reserve, left_provision, left_life, own_left, own_left_by, IsPaidByOwn}
use Rattle.speech_cost.specs.Laws.{OwnEntriesArePaid, AggregatorsSayLittle}
use Rattle.speech_cost.proofs.Turns.{own_reply, addressed_own, PaysOwn, stays_own, lives_if_own, request_spoken, answer_spoken}

abbrev Pays : AgentState → AgentStepped → Type 0
Pays s x = IsPaidByOwn s x.state x.out

nothing_said : tally says_own [] ≡ 0
unfolding tally
nothing_said = refl

one_said : (m : Message) → tally says_own (m ∷ []) ≤ 1
unfolding tally
one_said m = omega (arith, few (says_own m))
  where
    few : (b : Bool) → one b ≤ 1
    few b = grind arith

stays_paid : (s : AgentState) → Pays s (stays s)
stays_paid s = record { paid = omega (arith, nothing_said) }

---- A connection that takes a request

fresh_own : (id : ℕ) (owner : List ℕ) (s : Service) (source dest : ℕ) → own_left (fresh id owner s source dest) ≡ 6
unfolding own_left left_reserve left_provision left_life
fresh_own id owner s source dest = refl

-- a part of an entry: what is said and left then was left, or is a gift; requests that were taken and queries stay
record IsPart (gift : ℕ) (s : AgentState) (x : AgentStepped) : Type 0 where
  paid : tally says_own x.out + own_left_by x.state.base.records ≤ own_left_by s.base.records + gift
  queries : x.state.queries ≡ s.queries
  seen : x.state.base.seen ≡ s.base.seen

request_part : (setting : Setting) (s : AgentState) (n : ℕ) (m : Message) → n < length s.base.records → IsPart 16 s (request_at setting s n m)
unfolding request_at
request_part setting s n m l =
    let r : Record = record_at n s.base.records in
    let xs : List ChildConnection = children_for setting s n m in
    let t : Turn = request_turn setting.agent s.base.now m r xs s.base.next in
    record {
      paid = omega (arith, request_spoken setting.agent s.base.now m r xs s.base.next, sum_by-set own_left s.base.records n t.own no_record l);
      queries = refl;
      seen = refl;
    }

---- Children that are asked below

sought_none : (o : Option ℕ) (agent : Agent) (next : ℕ) (x : ChildConnection) → tally says_own (seek_of o agent next x).asked ≡ 0
unfolding tally is_answering is_asking is_noting
sought_none None agent next x = refl
sought_none (Some id) agent next x = refl

seek_none : (agent : Agent) (next : ℕ) (xs : List ChildConnection) → tally says_own (seek agent next xs).asked ≡ 0
unfolding seek
seek_none agent next [] = nothing_said
seek_none agent next (x ∷ xs) =
    let first : Sought = seek_one agent next x in
    omega (arith, tally_append says_own first.asked (seek agent first.next xs).asked, sought_none x.connection agent next x, seek_none agent first.next xs)

---- A request

module _ (setting : Setting) (s : AgentState) (m : Message) (asks : is_request m.body ≡ true) (new : is_seen s m ≡ false) where
  abbrev t : AgentState
  t = sees m s

  seen_more : length t.base.seen ≡ length s.base.seen + 1
  seen_more =
      ap length (saw_request m (retry_of s.base) asks ∙ with_new_taken m.header s.base.seen (new_request m (retry_of s.base) asks new)) ∙ length-append s.base.seen (m.header ∷ [])

  quiet_paid : Pays s (stays t)
  quiet_paid = record { paid = omega (arith, seen_more, nothing_said) }

  answered_paid : (reply : Message) → Pays s (sends t (reply ∷ []))
  answered_paid reply = record { paid = omega (arith, seen_more, one_said reply) }

  opened_paid : (waits : Bool) (n : ℕ) (x : Sought) → tally says_own x.asked ≡ 0 → Pays s (opens_query waits setting t n m x)
  opened_paid true n x a = record { paid = omega (arith, seen_more, a, length-append s.queries (opened m n x ∷ [])) }
  opened_paid false n x a = answered_paid (nested_reply setting.agent.name (record_at n s.base.records) (opened m n x))

  below_paid : (n : ℕ) → Pays s (asks_below setting t n m)
  unfolding asks_below
  below_paid n =
      let x : Sought = seek setting.agent s.base.next (children_at n s.children) in opened_paid (list_any is_asked x.parts) n x (seek_none setting.agent s.base.next (children_at n s.children))

  owned_paid : (is_own : Bool) (o : Option ℕ) → Pays s (asks_if_own is_own o setting t m)
  owned_paid true (Some n) = below_paid n
  owned_paid true None = answered_paid (error_reply setting.agent.name m ErrorName.Nonexistent)
  owned_paid false o = answered_paid (error_reply setting.agent.name m ErrorName.WrongProvider)

  query_paid : (is_recursive : Bool) → Pays s (queries is_recursive setting t m)
  query_paid true = owned_paid (bytes_eq m.header.provider setting.agent.name) (place_named m s.base.records)
  query_paid false = answered_paid (query_reply setting.agent.name m (answer_to setting.agent.name t m))

  part_paid : (gift : ℕ) (x : AgentStepped) → gift ≤ 30 → IsPart gift t x → Pays s x
  part_paid gift x few a = record { paid = omega (arith, few, a.paid, seen_more, ap length a.seen, ap length a.queries) }

  between_paid : (o : Option (ℕ × ℕ)) (q : ReserveRequest) → Pays s (opens_between o setting t m q)
  between_paid None q = quiet_paid
  between_paid (Some points) q =
      let w : AgentState = with_new setting t m q points in
      let r : Record = fresh (id_of setting.agent.number s.base.next) m.header.requester (service_of q (name_or q.source) (name_or q.dest)) points.0 points.1 in
      let within : length s.base.records < length w.base.records = omega (arith, length-append s.base.records (r ∷ [])) in
      let x : AgentStepped = request_at setting w (length s.base.records) m in
      let a : IsPart 16 w x = request_part setting w (length s.base.records) m within in
      part_paid 22 x (omega arith)
      (record {
        paid = omega (arith, a.paid, sum_by-append own_left s.base.records (r ∷ []), sum_by-cons own_left r [], fresh_own r.id m.header.requester r.service points.0 points.1);
        queries = a.queries;
        seen = a.seen;
      })

  opens_paid : (body : Body) → Pays s (opens body setting t m)
  opens_paid (Body.Reserve q) = between_paid (points_of setting.stp_of q) q
  opens_paid _ = quiet_paid

  accepts_paid : (o : Option ℕ) → connection_of m.body ≡ o → refusal s.base.now setting.agent.name setting.stp_of s.base.records m ≡ None → Pays s (accepts o setting t m)
  accepts_paid None e r = opens_paid m.body
  accepts_paid (Some id) e r =
      let at : IsTakenAt s.base.now m s.base.records id = unrefused_at s.base.now setting.agent.name setting.stp_of s.base.records m id e r in
      let within : at.place < length s.base.records = slice_get_within s.base.records at.place at.own at.there in
      subst (λ (o : Option ℕ). Pays s (request_to o setting t m)) (sym at.found) (part_paid 16 (request_at setting t at.place m) (omega arith) (request_part setting t at.place m within))

  answers_paid : (o : Option ErrorName) → refusal s.base.now setting.agent.name setting.stp_of s.base.records m ≡ o → Pays s (answers o setting t m)
  unfolding answers
  answers_paid (Some e) r = answered_paid (error_reply setting.agent.name m e)
  answers_paid None r = accepts_paid (connection_of m.body) refl r

  serves_paid : (b : Bool) → Pays s (serves b setting t m)
  serves_paid true = query_paid (is_recursive m.body)
  serves_paid false = answers_paid (refusal s.base.now setting.agent.name setting.stp_of s.base.records m) refl

---- All else that came

-- connections that hear a message
record IsPassed (rs : List Record) (x : Passed) : Type 0 where
  paid : tally says_own x.out + own_left_by x.records ≤ own_left_by rs

all_passed : (agent : Agent) (now number : ℕ) (m : Message) (next : ℕ) (rs : List Record) (xss : List (List ChildConnection)) → IsPassed rs (hear_all agent now number m next rs xss)
unfolding hear_all pass_then tally
all_passed agent now number m next [] xss = record { paid = omega arith }
all_passed agent now number m next (r ∷ rs) [] = record { paid = omega arith }
all_passed agent now number m next (r ∷ rs) (xs ∷ xss) =
    let t : Turn = answer_turn agent now m r xs next in
    let rest : Passed = hear_all agent now (number + 1) m t.next rs xss in
    let v : IsPassed rs rest = all_passed agent now (number + 1) m t.next rs xss in
    record { paid = omega (arith, tally_append says_own (spoken agent t) rest.out, answer_spoken agent now m r xs next, v.paid, sum_by-cons own_left r rs, sum_by-cons own_left t.own rest.records) }

-- open queries that hear it
record IsTold (qs : List OpenQuery) (x : Heard) : Type 0 where
  paid : tally says_own x.out + length x.queries ≤ length qs

closed_told : (waits : Bool) (agent : List ℕ) (own : Record) (q p : OpenQuery) (qs : List OpenQuery) → IsTold (p ∷ qs) (closes_unless waits agent own q qs)
closed_told true agent own q p qs = record { paid = omega (arith, nothing_said) }
closed_told false agent own q p qs = record { paid = omega (arith, one_said (nested_reply agent own q)) }

query_told : (own : Option Record) (place : Option ℕ) (agent : List ℕ) (p : Part) (q : OpenQuery) (qs : List OpenQuery) (rest : Heard) → IsTold qs rest → IsTold (q ∷ qs) (tells_query own place agent p q qs rest)
query_told (Some own) (Some n) agent p q qs rest h = closed_told (list_any is_asked (told_at n p q).parts) agent own (told_at n p q) q qs
query_told None place agent p q qs rest h = record { paid = omega (arith, h.paid) }
query_told (Some own) None agent p q qs rest h = record { paid = omega (arith, h.paid) }

first_told : (agent : List ℕ) (records : List Record) (c : ℕ) (p : Part) (qs : List OpenQuery) → IsTold qs (tells_first agent records c p qs)
unfolding tells_first
first_told agent records c p [] = record { paid = omega (arith, nothing_said) }
first_told agent records c p (q ∷ qs) = query_told (slice_get records q.place) (asked_place c q) agent p q qs (tells_first agent records c p qs) (first_told agent records c p qs)

all_told_below : (agent : List ℕ) (records : List Record) (m : Message) (qs : List OpenQuery) → IsTold qs (hear_below agent records m qs)
all_told_below agent records m qs = by (part_of m.body)
  where
    by : (o : Option Part) → IsTold qs (tells_if o agent records m.header.correlation qs)
    by None = record { paid = omega (arith, nothing_said) }
    by (Some p) = first_told agent records m.header.correlation p qs

hears_paid : (setting : Setting) (s : AgentState) (m : Message) → is_request m.body ≡ false → Pays s (hears setting (sees m s) m)
unfolding hears
hears_paid setting s m other =
    let x : Passed = hear_all setting.agent s.base.now 0 m s.base.next s.base.records s.children in
    let v : IsPassed s.base.records x = all_passed setting.agent s.base.now 0 m s.base.next s.base.records s.children in
    let y : Heard = hear_below setting.agent.name s.base.records m s.queries in
    let w : IsTold s.queries y = all_told_below setting.agent.name s.base.records m s.queries in
    record { paid = omega (arith, tally_append says_own x.out y.out, v.paid, w.paid, ap length (saw_other m (retry_of s.base) other)) }

receives_paid : (asks old : Bool) (setting : Setting) (s : AgentState) (m : Message) → is_request m.body ≡ asks → is_seen s m ≡ old → Pays s (receives asks old setting s m)
unfolding receives
receives_paid true false setting s m asks new = serves_paid setting s m asks new (is_query m.body)
receives_paid false false setting s m asks new = hears_paid setting s m asks
receives_paid true true setting s m asks new = stays_paid s
receives_paid false true setting s m asks new = stays_paid s

---- Time

-- a record in the course of a tick
record IsTolled (own : Record) (t : Tell) : Type 0 where
  paid : tally own_reply t.out + own_left t.own ≤ own_left own

late_own : (delivery c now : ℕ) (r : Record) → PaysOwn 0 r (tells_late delivery c now r)
unfolding tells_late tally is_answering is_asking is_noting own_left
late_own delivery c now r = record { paid = omega arith }

one_tolled : (b : Bool) (agent : Agent) (now next : ℕ) (own : Record) (d : Due) (rest : Record → ℕ → Tell) → ((r : Record) (k : ℕ) → IsTolled r (rest r k)) → IsTolled own (tell_one b agent now next own d rest)
unfolding tell_one
one_tolled false agent now next own d rest h = h own next
one_tolled true agent now next own d rest h =
    let id : ℕ = id_of agent.number next in
    let x : Moved = tells_late d.correlation id now own in
    let t : Tell = rest x.rec (next + 1) in
    let l : PaysOwn 0 own x = late_own d.correlation id now own in
    let a : IsTolled x.rec t = h x.rec (next + 1) in
    record { paid = omega (arith, tally_append own_reply x.out t.out, l.paid, a.paid) }

all_tolled : (ds : List Due) (agent : Agent) (now number : ℕ) (waiting : List Message) (own : Record) (next : ℕ) → IsTolled own (tell_all ds agent now number waiting own next)
unfolding tell_all tally
all_tolled [] agent now number waiting own next = record { paid = omega arith }
all_tolled (d ∷ ds) agent now number waiting own next =
    one_tolled (is_late_of number now waiting d) agent now next own d (λ r n. tell_all ds agent now number waiting r n) (λ r n. all_tolled ds agent now number waiting r n)

ending_free : (b : Bool) (now : ℕ) (r : Record) → PaysOwn 0 r (lives_if (if b then Some LifecycleMove.EndTime else None) now r)
ending_free true now r = lives_if_own (Some LifecycleMove.EndTime) now r refl
ending_free false now r = stays_own 0 r

ends_own : (b : Bool) (now : ℕ) (r : Record) → PaysOwn 0 r (ends b now r)
unfolding ends
ends_own false now r = stays_own 0 r
ends_own true now r = ending_free (is_due (end_of (last r.committed)) now) now r

clocked_tolled : (agent : Agent) (now number : ℕ) (ds : List Due) (waiting : List Message) (own : Record) (next : ℕ) → IsTolled own (clocked agent now number ds waiting own next)
unfolding clocked
clocked_tolled agent now number ds waiting own next =
    let x : Moved = ends (is_live own.lsm) now own in
    let e : PaysOwn 0 own x = ends_own (is_live own.lsm) now own in
    let t : Tell = tell_all ds agent now number waiting x.rec next in
    let a : IsTolled x.rec t = all_tolled ds agent now number waiting x.rec next in
    record { paid = omega (arith, tally_append own_reply x.out t.out, e.paid, a.paid) }

-- records after a tick
record IsClocked (rs : List Record) (x : Clocked) : Type 0 where
  paid : tally says_own x.out + own_left_by x.records ≤ own_left_by rs

all_clocked : (agent : Agent) (now number : ℕ) (ds : List Due) (waiting : List Message) (next : ℕ) (rs : List Record) → IsClocked rs (clock_all agent now number ds waiting next rs)
unfolding clock_all clock_then tally
all_clocked agent now number ds waiting next [] = record { paid = omega arith }
all_clocked agent now number ds waiting next (r ∷ rs) =
    let t : Tell = clocked agent now number ds waiting r next in
    let a : IsTolled r t = clocked_tolled agent now number ds waiting r next in
    let rest : Clocked = clock_all agent now (number + 1) ds waiting t.next rs in
    let b : IsClocked rs rest = all_clocked agent now (number + 1) ds waiting t.next rs in
    let ms : List Message = addressed agent.name t.own.owner t.out in
    record { paid = omega (arith, tally_append says_own ms rest.out, addressed_own agent.name t.own.owner t.out, a.paid, b.paid, sum_by-cons own_left r rs, sum_by-cons own_left t.own rest.records) }

ticks_pay : (setting : Setting) (now : ℕ) (s : AgentState) → Pays s (ticks setting now s)
unfolding ticks
ticks_pay setting now s =
    let v : IsClocked s.base.records (clock_all setting.agent now 0 s.dues s.base.waiting s.base.next s.base.records) =
    all_clocked setting.agent now 0 s.dues s.base.waiting s.base.next s.base.records
    in
    record { paid = omega (arith, v.paid) }

---- One entry

step_pays : (i : Input) (second : ℕ) (setting : Setting) (s : AgentState) → Pays s (step i second setting s)
unfolding step
step_pays (Input.Got m) second setting s = receives_paid (is_request m.body) (is_seen s m) setting s m refl refl
step_pays Input.Tick second setting s = ticks_pay setting second s
step_pays (Input.Acked i) second setting s = record { paid = omega (arith, nothing_said) }
step_pays (Input.Work n machine) second setting s = stays_paid s
step_pays (Input.Force n) second setting s = stays_paid s
step_pays (Input.Ask n ask) second setting s = stays_paid s

after_pays : (b : Bool) (setting : Setting) (s : AgentState) (e : Entry) → Pays s (after_if b setting s e)
after_pays false setting s e = stays_paid s
after_pays true setting s e = let a = step_pays e.input e.second setting s in record { paid = a.paid }

pub entries_paid : OwnEntriesArePaid
unfolding aggregator_after
entries_paid setting s e = after_pays (may_take s e) setting s e

---- Entries one after another

-- from a state on
goes_on_paid : (h : Home) (setting : Setting) (s : AgentState) (es : List Entry) → h.role ≡ aggregates setting → IsPaidByOwn s (goes_on h s es).state (goes_on h s es).out
unfolding goes_on after_as
goes_on_paid h setting s [] e = stays_paid s
goes_on_paid h setting s (x ∷ xs) e =
    let y : AgentStepped = after h s x in
    let rest : Told = goes_on h y.state xs in
    let a : IsPaidByOwn s y.state y.out = first e in
    let b : IsPaidByOwn y.state rest.state rest.out = goes_on_paid h setting y.state xs e in
    record { paid = omega (arith, a.paid, b.paid, tally_append says_own y.out rest.out) }
  where
    first : h.role ≡ aggregates setting → IsPaidByOwn s (after h s x).state (after h s x).out
    first e = subst (λ role. IsPaidByOwn s (after_as role s x).state (after_as role s x).out) (sym e) (entries_paid setting s x)

pub told_paid : AggregatorsSayLittle
told_paid h setting es e = let a : IsPaidByOwn blank_agent (told h es).state (told h es).out = goes_on_paid h setting blank_agent es e in omega (arith, a.paid)

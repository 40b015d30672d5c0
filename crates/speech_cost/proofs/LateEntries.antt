-- What an entry makes an aggregator tell to be late was asked, and wasn't told before.
use Rattle.std.proofs.Common.{ℕ, ◌+◌, ◌≤◌, ◌≡◌, Bool, true, false, ◌&&◌, ◌==◌, nat_le, List, [], ◌∷◌, ◌++◌, Option, Some, None, refl, sym, ap, subst, arith, bytes_eq, length}
use Rattle.std.specs.List.{list_any}
use Rattle.nsi_primitive.specs.Ids.{id_of}
use Rattle.nsi_primitive.specs.Messages.{is_request, is_query, connection_of}
use Rattle.nsi_primitive.specs.declared.entry.Entry.{Entry}
use Rattle.nsi_primitive.specs.declared.entry.Input.{Input}
use Rattle.nsi_primitive.specs.declared.kind.ErrorName.{ErrorName}
use Rattle.nsi_primitive.specs.declared.message.Body.{Body}
use Rattle.nsi_primitive.specs.declared.message.Message.{Message}
use Rattle.nsi_primitive.specs.declared.message.ReserveRequest.{ReserveRequest}
use Rattle.connection_record.specs.declared.record.Record.{Record}
use Rattle.connection_record.specs.Demand.{last}
use Rattle.connection_record.specs.Moves.{is_live}
use Rattle.connection_record.specs.Applied.{schedule_end}
use Rattle.connection_record.specs.Refusal.{refusal, points_of, place_of}
use Rattle.connection_record.specs.Replies.{Moved, addressed}
use Rattle.connection_record.specs.Speaking.{one, tally, is_asking, is_noting, is_answering}
use Rattle.connection_record.proofs.Saying.{tally_append}
use Rattle.child_connection.specs.Views.{ChildConnection}
use Rattle.agent_state.specs.declared.parent.Due.{Due}
use Rattle.agent_state.specs.declared.parent.OpenQuery.{OpenQuery}
use Rattle.agent_state.specs.Entries.{error_reply, is_recursive, query_reply}
use Rattle.agent_state.specs.State.{sends, AgentState, AgentStepped, blank_agent, stays, record_at, children_at}
use Rattle.agent_state.proofs.Querying.{replied_by}
use Rattle.aggregator_agent.specs.declared.agent.Agent.{Agent}
use Rattle.aggregator_agent.specs.Asking.{Turn}
use Rattle.aggregator_agent.specs.Below.{Sought, is_asked, seek_of, seek_one, seek, opened, nested_reply, Heard, hear_below}
use Rattle.aggregator_agent.specs.Clock.{due_for, is_late, is_late_of, tells_late, marked, told_dues, Told as Tell, tell_one, tell_all, ends, clocked, Clocked, clock_then, clock_all}
use Rattle.aggregator_agent.specs.Queries.{answer_to}
use Rattle.aggregator_agent.specs.Setting.{Setting}
use Rattle.aggregator_agent.specs.Steps.{is_seen, sees, children_for, request_at, with_new, opens_between, opens, request_to, accepts, answers, Passed, pass_then, hear_all, hears, opens_query, asks_below, asks_if_own, place_named, queries, receives, ticks, step, serves, may_take, after_if, after as aggregator_after}
use Rattle.aggregator_agent.specs.Turns.{request_turn, answer_turn, spoken}
use Rattle.aggregator_agent.proofs.Queried.{tells_rows}
use Rattle.nsi_agent.specs.Homes.{Home, aggregates}
use Rattle.nsi_agent.specs.Steps.{after_as, after}
use Rattle.nsi_agent.specs.Told.{Told, goes_on, told}
use Rattle.agent_speech.proofs.Queried.{rows_answer}
use Rattle.speech_cost.specs.Costs.{is_late_notice, says_late, asks, is_untold, IsLateByAsking}
use Rattle.speech_cost.specs.Laws.{LatesWereAsked, LatesAreFew}
use Rattle.speech_cost.proofs.Silent.{below_silent}
use Rattle.speech_cost.proofs.Lates.{late_reply, NoLate, none_late, addressed_late, late_messages, lives_if_late, leaves_late, request_spoken, answer_spoken}

abbrev Lates : AgentState → AgentStepped → Type 0
Lates s x = IsLateByAsking s x.state x.out

stays_late : (s : AgentState) → Lates s (stays s)
unfolding tally
stays_late s = record { late = omega arith }

-- one answer, and requests that may be late stay
answer_late : (body : Body) → is_answering body ≡ true → is_late_notice body ≡ false
unfolding is_answering is_asking is_noting
answer_late body e = grind (arith, e)

one_late : (m : Message) → is_late_notice m.body ≡ false → tally says_late (m ∷ []) ≡ 0
unfolding tally
one_late m e = omega (arith, ap one e)

---- A connection that takes a request

request_lates : (setting : Setting) (s : AgentState) (n : ℕ) (m : Message) → Lates s (request_at setting s n m)
unfolding request_at
request_lates setting s n m =
    let t : Turn = request_turn setting.agent s.base.now m (record_at n s.base.records) (children_for setting s n m) s.base.next in
    record {
      late = omega (
        arith,
        request_spoken setting.agent n s.base.now m (record_at n s.base.records) (children_for setting s n m) s.base.next,
        tally_append is_untold s.dues (due_for n s.base.now t.asked),
      );
    }

---- Children that are asked below

-- requests, of which each may be late
abbrev AreAsked : (number now : ℕ) → List Message → Type 0
AreAsked number now ms = tally says_late ms + tally is_untold (due_for number now ms) ≤ tally asks ms

due_append : (number now : ℕ) (xs ys : List Message) → due_for number now (xs ++ ys) ≡ due_for number now xs ++ due_for number now ys
unfolding due_for
due_append number now [] ys = refl
due_append number now (x ∷ xs) ys = ap (λ ds. record { number = number; correlation = x.header.correlation; second = now; is_told = false } ∷ ds) (due_append number now xs ys)

sought_asked : (o : Option ℕ) (agent : Agent) (next number now : ℕ) (x : ChildConnection) → AreAsked number now (seek_of o agent next x).asked
unfolding tally due_for is_asking
sought_asked None agent next number now x = omega arith
sought_asked (Some id) agent next number now x = omega arith

seek_asked : (agent : Agent) (next number now : ℕ) (xs : List ChildConnection) → AreAsked number now (seek agent next xs).asked
unfolding seek tally due_for
seek_asked agent next number now [] = omega arith
seek_asked agent next number now (x ∷ xs) =
    let first : Sought = seek_one agent next x in
    let rest : Sought = seek agent first.next xs in
    omega (
      arith,
      tally_append says_late first.asked rest.asked,
      tally_append asks first.asked rest.asked,
      ap (tally is_untold) (due_append number now first.asked rest.asked),
      tally_append is_untold (due_for number now first.asked) (due_for number now rest.asked),
      sought_asked x.connection agent next number now x,
      seek_asked agent first.next number now xs,
    )

---- A request

module _ (setting : Setting) (s : AgentState) (m : Message) where
  abbrev t : AgentState
  t = sees m s

  quiet_lates : Lates s (stays t)
  unfolding tally
  quiet_lates = record { late = omega arith }

  answered_lates : (reply : Message) → is_late_notice reply.body ≡ false → Lates s (sends t (reply ∷ []))
  answered_lates reply e = record { late = omega (arith, one_late reply e) }

  opened_lates : (waits : Bool) (n : ℕ) (x : Sought) → AreAsked n s.base.now x.asked → Lates s (opens_query waits setting t n m x)
  opened_lates true n x a = record { late = omega (arith, a, tally_append is_untold s.dues (due_for n s.base.now x.asked)) }
  opened_lates false n x a = answered_lates (nested_reply setting.agent.name (record_at n s.base.records) (opened m n x)) refl

  below_lates : (n : ℕ) → Lates s (asks_below setting t n m)
  unfolding asks_below
  below_lates n =
      let x : Sought = seek setting.agent s.base.next (children_at n s.children) in
      opened_lates (list_any is_asked x.parts) n x (seek_asked setting.agent s.base.next n s.base.now (children_at n s.children))

  owned_lates : (is_own : Bool) (o : Option ℕ) → Lates s (asks_if_own is_own o setting t m)
  owned_lates true (Some n) = below_lates n
  owned_lates true None = answered_lates (error_reply setting.agent.name m ErrorName.Nonexistent) refl
  owned_lates false o = answered_lates (error_reply setting.agent.name m ErrorName.WrongProvider) refl

  reply_late : is_late_notice (query_reply setting.agent.name m (answer_to setting.agent.name t m)).body ≡ false
  reply_late =
      replied_by (λ b. is_late_notice b ≡ false) setting.agent.name m (answer_to setting.agent.name t m) (λ e plain. refl) (λ body e. answer_late body (rows_answer body (tells_rows setting.agent.name t m body e)))

  query_lates : (is_recursive : Bool) → Lates s (queries is_recursive setting t m)
  query_lates true = owned_lates (bytes_eq m.header.provider setting.agent.name) (place_named m s.base.records)
  query_lates false = answered_lates (query_reply setting.agent.name m (answer_to setting.agent.name t m)) reply_late

  between_lates : (o : Option (ℕ × ℕ)) (q : ReserveRequest) → Lates s (opens_between o setting t m q)
  between_lates None q = quiet_lates
  between_lates (Some points) q =
      let a = request_lates setting (with_new setting t m q points) (length s.base.records) m in record { late = a.late }

  opens_lates : (body : Body) → Lates s (opens body setting t m)
  opens_lates (Body.Reserve q) = between_lates (points_of setting.stp_of q) q
  opens_lates _ = quiet_lates

  to_lates : (o : Option ℕ) → Lates s (request_to o setting t m)
  to_lates None = quiet_lates
  to_lates (Some n) = let a = request_lates setting t n m in record { late = a.late }

  accepts_lates : (o : Option ℕ) → Lates s (accepts o setting t m)
  accepts_lates None = opens_lates m.body
  accepts_lates (Some id) = to_lates (place_of id m.header.requester s.base.records)

  answers_lates : (o : Option ErrorName) → Lates s (answers o setting t m)
  unfolding answers
  answers_lates (Some e) = answered_lates (error_reply setting.agent.name m e) refl
  answers_lates None = accepts_lates (connection_of m.body)

  serves_lates : (b : Bool) → Lates s (serves b setting t m)
  serves_lates true = query_lates (is_recursive m.body)
  serves_lates false = answers_lates (refusal s.base.now setting.agent.name setting.stp_of s.base.records m)

---- All else that came

-- connections that hear a message
record IsPassed (x : Passed) : Type 0 where
  late : tally says_late x.out + tally is_untold x.dues ≤ tally asks x.out

all_passed : (agent : Agent) (now number : ℕ) (m : Message) (next : ℕ) (rs : List Record) (xss : List (List ChildConnection)) → IsPassed (hear_all agent now number m next rs xss)
unfolding hear_all pass_then tally
all_passed agent now number m next [] xss = record { late = omega arith }
all_passed agent now number m next (r ∷ rs) [] = record { late = omega arith }
all_passed agent now number m next (r ∷ rs) (xs ∷ xss) =
    let t : Turn = answer_turn agent now m r xs next in
    let rest : Passed = hear_all agent now (number + 1) m t.next rs xss in
    let v : IsPassed rest = all_passed agent now (number + 1) m t.next rs xss in
    record {
      late = omega (
        arith,
        tally_append says_late (spoken agent t) rest.out,
        tally_append asks (spoken agent t) rest.out,
        tally_append is_untold (due_for number now t.asked) rest.dues,
        answer_spoken agent number now m r xs next,
        v.late,
      );
    }

below_late : (agent : List ℕ) (records : List Record) (m : Message) (qs : List OpenQuery) → tally says_late (hear_below agent records m qs).out ≡ 0
below_late agent records m qs = let out : List Message = (hear_below agent records m qs).out in omega (arith, below_silent agent records m qs, late_messages out)

hears_lates : (setting : Setting) (s : AgentState) (m : Message) → Lates s (hears setting (sees m s) m)
unfolding hears
hears_lates setting s m =
    let x : Passed = hear_all setting.agent s.base.now 0 m s.base.next s.base.records s.children in
    let v : IsPassed x = all_passed setting.agent s.base.now 0 m s.base.next s.base.records s.children in
    let y : Heard = hear_below setting.agent.name s.base.records m s.queries in
    record {
      late = omega (
        arith,
        tally_append says_late x.out y.out,
        tally_append asks x.out y.out,
        tally_append is_untold s.dues x.dues,
        v.late,
        below_late setting.agent.name s.base.records m s.queries,
      );
    }

receives_lates : (is_request is_old : Bool) (setting : Setting) (s : AgentState) (m : Message) → Lates s (receives is_request is_old setting s m)
unfolding receives
receives_lates true false setting s m = serves_lates setting s m (is_query m.body)
receives_lates false false setting s m = hears_lates setting s m
receives_lates true true setting s m = stays_late s
receives_lates false true setting s m = stays_late s

---- Time

-- the late requests of one record
tell_late : (delivery c now : ℕ) (r : Record) → tally late_reply (tells_late delivery c now r).out ≡ 1
unfolding tells_late tally
tell_late delivery c now r = refl

abbrev IsTold : ℕ → Tell → Type 0
IsTold n t = tally late_reply t.out ≡ n

one_told : (b : Bool) (agent : Agent) (now next : ℕ) (own : Record) (d : Due) (rest : Record → ℕ → Tell) (n : ℕ) → ((r : Record) (k : ℕ) → IsTold n (rest r k)) → IsTold (one b + n) (tell_one b agent now next own d rest)
unfolding tell_one
one_told false agent now next own d rest n h = omega (arith, h own next)
one_told true agent now next own d rest n h =
    let x : Moved = tells_late d.correlation (id_of agent.number next) now own in
    omega (arith, tally_append late_reply x.out (rest x.rec (next + 1)).out, tell_late d.correlation (id_of agent.number next) now own, h x.rec (next + 1))

all_told : (ds : List Due) (agent : Agent) (now number : ℕ) (waiting : List Message) (own : Record) (next : ℕ) → IsTold (tally (is_late_of number now waiting) ds) (tell_all ds agent now number waiting own next)
unfolding tell_all tally
all_told [] agent now number waiting own next = refl
all_told (d ∷ ds) agent now number waiting own next =
    one_told (is_late_of number now waiting d) agent now next own d (λ r n. tell_all ds agent now number waiting r n) (tally (is_late_of number now waiting) ds)
    (λ r n. all_told ds agent now number waiting r n)

ends_late : (b : Bool) (now : ℕ) (r : Record) → NoLate (ends b now r)
unfolding ends
ends_late false now r = leaves_late r
ends_late true now r = lives_if_late (schedule_end (last r.committed) now) now r

clocked_late : (agent : Agent) (now number : ℕ) (ds : List Due) (waiting : List Message) (own : Record) (next : ℕ) → IsTold (tally (is_late_of number now waiting) ds) (clocked agent now number ds waiting own next)
unfolding clocked
clocked_late agent now number ds waiting own next =
    let x : Moved = ends (is_live own.lsm) now own in
    omega (
      arith,
      tally_append late_reply x.out (tell_all ds agent now number waiting x.rec next).out,
      ends_late (is_live own.lsm) now own,
      all_told ds agent now number waiting x.rec next,
    )

-- late requests of records from a number on
abbrev is_late_from : ℕ → ℕ → List Message → Due → Bool
is_late_from number now waiting d = nat_le number d.number && is_late now waiting d

one_from : (b : Bool) (number n : ℕ) → one ((n == number) && b) + one (nat_le (number + 1) n && b) ≤ one (nat_le number n && b)
one_from b number n = grind arith

from_more : (number now : ℕ) (waiting : List Message) (ds : List Due) →
    tally (is_late_of number now waiting) ds + tally (is_late_from (number + 1) now waiting) ds ≤ tally (is_late_from number now waiting) ds
unfolding tally
from_more number now waiting [] = omega arith
from_more number now waiting (d ∷ ds) = omega (arith, from_more number now waiting ds, one_from (is_late now waiting d) number d.number)

all_clocked : (agent : Agent) (now number : ℕ) (ds : List Due) (waiting : List Message) (next : ℕ) (rs : List Record) →
    tally says_late (clock_all agent now number ds waiting next rs).out ≤ tally (is_late_from number now waiting) ds
unfolding clock_all clock_then
all_clocked agent now number ds waiting next [] = omega (arith, none_late)
all_clocked agent now number ds waiting next (r ∷ rs) =
    let t : Tell = clocked agent now number ds waiting r next in
    let rest : Clocked = clock_all agent now (number + 1) ds waiting t.next rs in
    omega (
      arith,
      tally_append says_late (addressed agent.name t.own.owner t.out) rest.out,
      addressed_late agent.name t.own.owner t.out,
      clocked_late agent now number ds waiting r next,
      all_clocked agent now (number + 1) ds waiting t.next rs,
      from_more number now waiting ds,
    )

one_marked : (now : ℕ) (waiting : List Message) (d : Due) → one (is_late_from 0 now waiting d) + one (is_untold (marked now waiting d)) ≤ one (is_untold d)
unfolding is_late
one_marked now waiting d = grind arith

all_marked : (now : ℕ) (waiting : List Message) (ds : List Due) → tally (is_late_from 0 now waiting) ds + tally is_untold (told_dues now waiting ds) ≤ tally is_untold ds
unfolding tally
all_marked now waiting [] = omega arith
all_marked now waiting (d ∷ ds) = omega (arith, all_marked now waiting ds, one_marked now waiting d)

ticks_lates : (setting : Setting) (now : ℕ) (s : AgentState) → Lates s (ticks setting now s)
unfolding ticks
ticks_lates setting now s =
    record { late = omega (arith, all_clocked setting.agent now 0 s.dues s.base.waiting s.base.next s.base.records, all_marked now s.base.waiting s.dues) }

---- One entry

step_lates : (i : Input) (second : ℕ) (setting : Setting) (s : AgentState) → Lates s (step i second setting s)
unfolding step tally
step_lates (Input.Got m) second setting s = receives_lates (is_request m.body) (is_seen s m) setting s m
step_lates Input.Tick second setting s = ticks_lates setting second s
step_lates (Input.Acked i) second setting s = record { late = omega arith }
step_lates (Input.Work n machine) second setting s = stays_late s
step_lates (Input.Force n) second setting s = stays_late s
step_lates (Input.Ask n ask) second setting s = stays_late s

after_lates : (b : Bool) (setting : Setting) (s : AgentState) (e : Entry) → Lates s (after_if b setting s e)
after_lates false setting s e = stays_late s
after_lates true setting s e = let a = step_lates e.input e.second setting s in record { late = a.late }

pub lates_were_asked : LatesWereAsked
unfolding aggregator_after
lates_were_asked setting s e = after_lates (may_take s e) setting s e

-- from a state on
goes_on_late : (h : Home) (setting : Setting) (s : AgentState) (es : List Entry) → h.role ≡ aggregates setting → IsLateByAsking s (goes_on h s es).state (goes_on h s es).out
unfolding goes_on after_as
goes_on_late h setting s [] e = stays_late s
goes_on_late h setting s (x ∷ xs) e =
    let y : AgentStepped = after h s x in
    let rest : Told = goes_on h y.state xs in
    let a : IsLateByAsking s y.state y.out = first e in
    let b : IsLateByAsking y.state rest.state rest.out = goes_on_late h setting y.state xs e in
    record { late = omega (arith, a.late, b.late, tally_append says_late y.out rest.out, tally_append asks y.out rest.out) }
  where
    first : h.role ≡ aggregates setting → IsLateByAsking s (after h s x).state (after h s x).out
    first e = subst (λ role. IsLateByAsking s (after_as role s x).state (after_as role s x).out) (sym e) (lates_were_asked setting s x)

pub lates_are_few : LatesAreFew
unfolding tally
lates_are_few h setting es e = let a : IsLateByAsking blank_agent (told h es).state (told h es).out = goes_on_late h setting blank_agent es e in omega (arith, a.late)

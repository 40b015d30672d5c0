-- What each entry of an aggregator does to its records, as its parents' views see it.
use Rattle.std.proofs.Common.{ℕ, ◌≡◌, ◌+◌, Bool, true, false, List, [], ◌∷◌, ◌++◌, length, Option, Some, None, inl, inr, ◌&&◌, refl, sym, ap, ◌∙◌, subst, arith, slice_set, append_assoc, append-nil, option_map, bytes_eq, if◌then◌else◌, true≢false, option_and_then, is_some}
use Rattle.std.proofs.lemmas.List.Elements.{Contains-append_cases}
use Rattle.std.specs.List.{list_any}
use Rattle.nsi_primitive.specs.Ids.{id_of}
use Rattle.nsi_primitive.specs.Messages.{identity, kind_of, connection_of, has_rows, is_request, is_query}
use Rattle.nsi_primitive.specs.declared.entry.Entry.{Entry}
use Rattle.nsi_primitive.specs.declared.entry.Input.{Input}
use Rattle.nsi_primitive.specs.declared.kind.ErrorName.{ErrorName}
use Rattle.nsi_primitive.specs.declared.kind.Kind.{Kind}
use Rattle.nsi_primitive.specs.declared.message.Body.{Body}
use Rattle.nsi_primitive.specs.declared.message.Criteria.{Criteria}
use Rattle.nsi_primitive.specs.declared.message.Message.{Message}
use Rattle.nsi_primitive.specs.declared.message.ReserveRequest.{ReserveRequest}
use Rattle.nsi_primitive.specs.declared.message.Service.{Service}
use Rattle.nsi_primitive.specs.declared.plane.Plane.{Plane}
use Rattle.nsi_primitive.specs.declared.state.Side.{Side}
use Rattle.dataplane_state.specs.Plane.{announces}
use Rattle.message_retry.specs.Retry.{is_heard, is_old, saw_if, saw}
use Rattle.message_retry.specs.Taken.{is_taken, with_taken}
use Rattle.record_index.proofs.Members.{nothing_in}
use Rattle.child_connection.specs.declared.state.Sent.{Sent}
use Rattle.child_connection.specs.Views.{ChildConnection, open_request}
use Rattle.child_connection.specs.Asks.{request_about, to_child}
use Rattle.child_connection.specs.Hearing.{hear}
use Rattle.child_connection.specs.Holding.{is_reservation}
use Rattle.connection_record.specs.declared.record.Record.{Record}
use Rattle.connection_record.specs.declared.moves.Reply.{Reply}
use Rattle.connection_record.specs.Applied.{is_terminating}
use Rattle.connection_record.specs.Courses.{Course}
use Rattle.connection_record.specs.Moves.{is_live}
use Rattle.connection_record.specs.Refusal.{refusal, points_of, place_of}
use Rattle.connection_record.specs.Replies.{Moved, stays, addressed}
use Rattle.connection_record.specs.Speaking.{is_answering, is_asking, is_noting}
use Rattle.connection_record.proofs.Courses.{course_after, merges_append, merges_first}
use Rattle.agent_state.specs.declared.parent.Due.{Due}
use Rattle.agent_state.specs.declared.parent.OpenQuery.{OpenQuery}
use Rattle.agent_state.specs.Entries.{is_recursive, retry_of, with_retry, reply_by}
use Rattle.agent_state.specs.State.{AgentState, AgentStepped, record_at, children_at, sends}
use Rattle.aggregator_agent.specs.declared.agent.Agent.{Agent}
use Rattle.aggregator_agent.specs.Asking.{Turn, Asked, Asking, begin, replies_by, notices_by, notices_under, ask_one, each, asks_by, if_free, if_apart, request_if, reserve_if, passed_on, pass_one}
use Rattle.aggregator_agent.specs.Clock.{Told, tells_more, tells_late, tell_one, tell_all, is_late_of, ends, clocked, clock_then, clock_all}
use Rattle.aggregator_agent.specs.Below.{is_asked, nested_reply, Sought, seek, opened, Heard, hear_below}
use Rattle.aggregator_agent.specs.Setting.{Setting}
use Rattle.aggregator_agent.specs.Settling.{settles, settle}
use Rattle.aggregator_agent.specs.Steps.{sees, is_seen, children_for, request_at, with_new, opens_between, opens, request_to, accepts, answers, Passed, pass_then, hear_all, hears, opens_query, asks_below, asks_if_own, place_named, queries, receives, ticks, step, after_if, after, may_take, serves}
use Rattle.aggregator_agent.specs.Turns.{joined_of, tell_joined, pass_on, takes, turn_by_request, request_turn, loses, breaks, late_terminate, hear_one, hold_ends, force_ends, heard_by, turn_by_answer, answer_turn, spoken}
use Rattle.circuit_link.specs.Children.{TellsNothing}
use Rattle.circuit_link.specs.Serving.{child_of, IsByItself, Tells, TakeCourses, IsTurn, IsNew, IsAbout, Serves}
use Rattle.circuit_link.proofs.Abouts.{AreRowless, addressed_append, same_bytes}
use Rattle.circuit_link.proofs.Acting.{settles_course, hold_course, force_course, plane_course, ends_course, late_course}
use Rattle.circuit_link.proofs.Answering.{only_one}
use Rattle.circuit_link.proofs.Below.{all_asked_below, all_said_below}
use Rattle.circuit_link.proofs.Gathering.{AnswersNothing, requests_tell, rows_tell, row_tells, nothing_tells, tells_addressed, tells_spoken, no_courses, more_courses, courses_beside}
use Rattle.circuit_link.proofs.Living.{itself_same, itself_then, itself_append, hold_itself, plane_itself, settles_itself, forced_itself, ends_itself, late_itself}
use Rattle.circuit_link.proofs.Requests.{refused_by, found_by, first_by, unnamed_kind, query_kind, reserve_unnamed}
use Rattle.circuit_link.proofs.Rowless.{course_rowless}
use Rattle.aggregator_agent.specs.Queries.{answer_by, answer_to, shown_at}
use Rattle.aggregator_agent.proofs.Queried.{tells_rows}
use Rattle.nsi_query.specs.Answers.{answer_about}
use Rattle.nsi_query.proofs.Answering.{queries_are_answered}

---- What children are asked is no answer

abbrev IsNoAnswer : Option Body → Type 0
IsNoAnswer o = (b : Body) → o ≡ Some b → is_answering b ≡ false

about_asks : (k : Kind) (id : ℕ) → is_answering (request_about k id) ≡ false
unfolding request_about is_answering is_asking is_noting
about_asks k id = grind arith

reserve_asks : (q : ReserveRequest) → is_answering (Body.Reserve q) ≡ false
unfolding is_answering is_asking is_noting
reserve_asks q = refl

some_same : (a b : Body) → Some a ≡ Some b → a ≡ b
some_same a b e = cc

free_asks : (o : Option Sent) (body : Option Body) → IsNoAnswer body → IsNoAnswer (if_free o body)
free_asks None body h = h
free_asks (Some q) body h = λ b e. absurd (cc)

request_asks : (t : Bool) (k : Kind) (x : ChildConnection) → IsNoAnswer (request_if t k x)
unfolding request_if
request_asks false k x = λ b e. absurd (cc)
request_asks true k x = free_asks (open_request k x) (option_map (λ id. request_about k id) x.connection) (by_id x.connection)
  where
    by_id : (o : Option ℕ) → IsNoAnswer (option_map (λ id. request_about k id) o)
    by_id None b e = absurd (cc)
    by_id (Some id) b e = subst (λ z. is_answering z ≡ false) (some_same (request_about k id) b e) (about_asks k id)

apart_asks : (t : Bool) (q : ReserveRequest) → IsNoAnswer (if_apart t (Some (Body.Reserve q)))
apart_asks true q b e = absurd (cc)
apart_asks false q b e = subst (λ z. is_answering z ≡ false) (some_same (Body.Reserve q) b e) (reserve_asks q)

reserves_ask : (o : Option Criteria) (service : Service) (x : ChildConnection) → IsNoAnswer (reserve_if o service x)
unfolding reserve_if
reserves_ask None service x = λ b e. absurd (cc)
reserves_ask (Some c) service x = free_asks (open_request Kind.Reserve x) _ (apart_asks (bytes_eq x.source x.dest) _)

passed_asks : (body : Body) (own : Record) (x : ChildConnection) → IsNoAnswer (passed_on body own x)
unfolding passed_on
passed_asks (Body.Reserve q) own x = reserves_ask own.pending own.service x
passed_asks (Body.ReserveCommit id) own x = request_asks _ Kind.ReserveCommit x
passed_asks (Body.ReserveAbort id) own x = request_asks _ Kind.ReserveAbort x
passed_asks (Body.Provision id) own x = request_asks _ Kind.Provision x
passed_asks (Body.Release id) own x = request_asks _ Kind.Release x
passed_asks (Body.Terminate id) own x = request_asks _ Kind.Terminate x
passed_asks _ own x = λ b e. absurd (cc)

one_asks : (o : Option Body) (k : Kind) (agent : Agent) (next : ℕ) (x : ChildConnection) → IsNoAnswer o → AnswersNothing (ask_one o k agent next x).asked
one_asks None k agent next x h m i = absurd (nothing_in m i)
one_asks (Some b) k agent next x h m i = ap (λ (z : Message). is_answering z.body) (only_one (to_child agent.name (id_of agent.number next) x b) m i) ∙ h b refl

none_asks : AnswersNothing []
none_asks m i = absurd (nothing_in m i)

both_ask : (xs ys : List Message) → AnswersNothing xs → AnswersNothing ys → AnswersNothing (xs ++ ys)
both_ask xs ys a b m i = elim (Contains-append_cases xs ys m i) [ inl j ↦ a m j | inr j ↦ b m j ]

each_asks : (does : ℕ → ChildConnection → Asked) → ((n : ℕ) (x : ChildConnection) → AnswersNothing (does n x).asked) → (next : ℕ) (xs : List ChildConnection) → AnswersNothing (each does next xs).asked
unfolding each
each_asks does h next [] = none_asks
each_asks does h next (x ∷ xs) = both_ask (does next x).asked (each does (does next x).next xs).asked (h next x) (each_asks does h (does next x).next xs)

-- nor are the queries about what is below, and their answers are rows
below_asks : (agent : Agent) (next : ℕ) (xs : List ChildConnection) → AnswersNothing (seek agent next xs).asked
unfolding is_answering is_asking is_noting
below_asks agent = all_asked_below (λ m. is_answering m.body ≡ false) agent (λ c id x. refl)

below_tells : (agent : List ℕ) (records : List Record) (m : Message) (qs : List OpenQuery) → TellsNothing (hear_below agent records m qs).out
below_tells agent records m qs = rows_tell (hear_below agent records m qs).out (all_said_below (λ z. has_rows z.body ≡ true) agent (λ own q. refl) records m qs)

---- Turns

-- a turn that began with a move of the own record
pub record From (y : Moved) (t : Turn) : Type 0 where
  pub rest : List Reply
  pub replies : t.replies ≡ y.out ++ rest
  pub course : Course y.rec t.own (rest ++ t.notices)
  pub itself : IsByItself y.rec t.own (rest ++ t.notices)
  pub asked : AnswersNothing t.asked

from_replies : (y : Moved) (t : Turn) (x : Moved) → From y t → Course t.own x.rec x.out → IsByItself t.own x.rec x.out → From y (replies_by t x)
from_replies y t x f c g =
    record {
      rest = f.rest ++ x.out;
      replies = ap (λ z. z ++ x.out) f.replies ∙ append_assoc y.out f.rest x.out;
      course = Course.goes_on y.rec t.own x.rec (f.rest ++ t.notices) x.out ((f.rest ++ x.out) ++ t.notices) f.course c (merges_first f.rest t.notices x.out);
      itself = itself_then y.rec t.own x.rec (f.rest ++ t.notices) x.out ((f.rest ++ x.out) ++ t.notices) (merges_first f.rest t.notices x.out).into f.itself g;
      asked = f.asked;
    }

from_notices : (y : Moved) (t : Turn) (x : Moved) → From y t → Course t.own x.rec x.out → IsByItself t.own x.rec x.out → From y (notices_by t x)
from_notices y t x f c g =
    record {
      rest = f.rest;
      replies = f.replies;
      course =
          subst (λ z. Course y.rec x.rec z) (append_assoc f.rest t.notices x.out)
          (Course.goes_on y.rec t.own x.rec (f.rest ++ t.notices) x.out ((f.rest ++ t.notices) ++ x.out) f.course c (merges_append (f.rest ++ t.notices) x.out));
      itself =
          subst (λ z. IsByItself y.rec x.rec z) (append_assoc f.rest t.notices x.out)
          (itself_append y.rec t.own x.rec (f.rest ++ t.notices) x.out f.itself g);
      asked = f.asked;
    }

from_under : (y : Moved) (t : Turn) (x : Moved) → From y t → Course t.own x.rec x.out → IsByItself t.own x.rec x.out → From y (notices_under t x)
from_under y t x f c g = let w = from_notices y t x f c g in record { rest = w.rest; replies = w.replies; course = w.course; itself = w.itself; asked = w.asked }

from_asks : (y : Moved) (t : Turn) (a : Asking) → From y t → AnswersNothing a.asked → From y (asks_by t a)
from_asks y t a f h = record { rest = f.rest; replies = f.replies; course = f.course; itself = f.itself; asked = both_ask t.asked a.asked f.asked h }

begun_from : (y : Moved) (own : Record) (xs : List ChildConnection) (next : ℕ) → From y (replies_by (begin own xs next) y)
begun_from y own xs next = record { rest = []; replies = sym (append-nil y.out); course = Course.rests y.rec; itself = itself_same y.rec; asked = none_asks }

module _ (agent : Agent) (now : ℕ) (m : Message) (y : Moved) where
  settle_from : (t : Turn) → From y t → From y (settle agent now t)
  unfolding settle
  settle_from t f = from_replies y t (settles t.own.lsm agent now t.children t.own) f (settles_course t.own.lsm agent now t.children t.own) (settles_itself t.own.lsm agent now t.children t.own)

  joined_from : (before : Plane) (t : Turn) → From y t → From y (tell_joined before agent now t)
  unfolding tell_joined
  joined_from before t f = from_under y t _ f (plane_course (announces before (joined_of t.children)) (joined_of t.children) (id_of agent.number t.next) now t.own)
      (plane_itself (announces before (joined_of t.children)) (joined_of t.children) (id_of agent.number t.next) now t.own)

  pass_from : (t : Turn) → From y t → From y (pass_on m agent t)
  unfolding pass_on
  pass_from t f = from_asks y t _ f (each_asks (λ n x. pass_one m agent t.own n x) (λ n x. one_asks (passed_on m.body t.own x) (kind_of m.body) agent n x (passed_asks m.body t.own x)) t.next t.children)

  heard_from : (t : Turn) → From y t → From y (heard_by m agent t)
  unfolding heard_by
  heard_from t f =
      from_asks y t _ f
      (each_asks (λ n x. hear_one (is_terminating t.own.lsm) m agent n x) (λ n x. one_asks (late_terminate (is_terminating t.own.lsm) m x) Kind.Terminate agent n (hear m x).view (request_asks _ Kind.Terminate (hear m x).view)) t.next t.children)

  holds_from : (lost : Bool) (t : Turn) → From y t → From y (hold_ends lost m now t)
  unfolding hold_ends
  holds_from lost t f = from_notices y t _ f (hold_course (lost && is_live t.own.lsm) m.body now t.own) (hold_itself (lost && is_live t.own.lsm) m.body now t.own)

  forces_from : (broken : Bool) (t : Turn) → From y t → From y (force_ends broken m agent now t)
  unfolding force_ends
  forces_from broken t f = from_under y t _ f (force_course broken (id_of agent.number t.next) m.body now t.own) (forced_itself broken (id_of agent.number t.next) m.body now t.own)

pub request_from : (agent : Agent) (now : ℕ) (m : Message) (own : Record) (xs : List ChildConnection) (next : ℕ) → From (takes m now own) (request_turn agent now m own xs next)
unfolding request_turn turn_by_request
request_from agent now m own xs next =
    let y : Moved = takes m now own in
    joined_from agent now m y (joined_of xs) _ (settle_from agent now m y _ (pass_from agent now m y _ (begun_from y own xs next)))

pub answer_from : (agent : Agent) (now : ℕ) (m : Message) (own : Record) (xs : List ChildConnection) (next : ℕ) → From (stays own) (answer_turn agent now m own xs next)
unfolding answer_turn turn_by_answer
answer_from agent now m own xs next =
    let y : Moved = stays own in
    joined_from agent now m y (joined_of xs) _
    (settle_from agent now m y _ (forces_from agent now m y (list_any (breaks m) xs) _ (holds_from agent now m y (list_any (loses m) xs) _ (heard_from agent now m y (begin own xs next) started))))
  where
    started : From (stays own) (begin own xs next)
    started = record { rest = []; replies = refl; course = Course.rests own; itself = itself_same own; asked = none_asks }

-- what a turn by a child's message says of the own record
spoken_tells : (agent : Agent) (t : Turn) → AreRowless (t.replies ++ t.notices) → AnswersNothing t.asked → Tells agent.name t.own.owner (t.replies ++ t.notices) (spoken agent t)
unfolding spoken
spoken_tells agent t rowless n = tells_spoken agent.name t.own.owner t.replies t.notices t.asked rowless n

answer_course : (agent : Agent) (now : ℕ) (m : Message) (own : Record) (xs : List ChildConnection) (next : ℕ) →
    (let t : Turn = answer_turn agent now m own xs next in Course own t.own (t.replies ++ t.notices) × IsByItself own t.own (t.replies ++ t.notices) × Tells agent.name own.owner (t.replies ++ t.notices) (spoken agent t))
answer_course agent now m own xs next =
    let t : Turn = answer_turn agent now m own xs next in
    let f : From (stays own) t = answer_from agent now m own xs next in
    let c : Course own t.own (t.replies ++ t.notices) = subst (λ z. Course own t.own (z ++ t.notices)) (sym f.replies) f.course in
    (c, subst (λ z. IsByItself own t.own (z ++ t.notices)) (sym f.replies) f.itself, subst (λ o. Tells agent.name o (t.replies ++ t.notices) (spoken agent t)) (course_after own t.own (t.replies ++ t.notices) c).later.owner (spoken_tells agent t (course_rowless own t.own (t.replies ++ t.notices) c) f.asked))

---- All records in order

heard_courses : (agent : Agent) (now number : ℕ) (m : Message) (next : ℕ) (rs : List Record) (xss : List (List ChildConnection)) →
    TakeCourses agent.name rs (hear_all agent now number m next rs xss).records (hear_all agent now number m next rs xss).out
unfolding hear_all pass_then
heard_courses agent now number m next [] xss = no_courses agent.name []
heard_courses agent now number m next (r ∷ rs) [] = no_courses agent.name (r ∷ rs)
heard_courses agent now number m next (r ∷ rs) (xs ∷ xss) =
    let t : Turn = answer_turn agent now m r xs next in
    let w = answer_course agent now m r xs next in
    more_courses agent.name r t.own (t.replies ++ t.notices) (spoken agent t) rs _ _ w.0 w.1 w.2 (heard_courses agent now (number + 1) m t.next rs xss)

---- Time

told_course : (r : Record) (x : Moved) (t : Told) → Course r x.rec x.out → Course x.rec t.own t.out → Course r (tells_more x t).own (tells_more x t).out
told_course r x t a b = Course.goes_on r x.rec t.own x.out t.out (x.out ++ t.out) a b (merges_append x.out t.out)

one_told : (b : Bool) (agent : Agent) (now next : ℕ) (own : Record) (d : Due) (rest : Record → ℕ → Told) → ((r : Record) (k : ℕ) → Course r (rest r k).own (rest r k).out) →
    Course own (tell_one b agent now next own d rest).own (tell_one b agent now next own d rest).out
unfolding tell_one
one_told false agent now next own d rest h = h own next
one_told true agent now next own d rest h =
    let x : Moved = tells_late d.correlation (id_of agent.number next) now own in
    told_course own x (rest x.rec (next + 1)) (late_course d.correlation (id_of agent.number next) now own) (h x.rec (next + 1))

all_told : (ds : List Due) (agent : Agent) (now number : ℕ) (waiting : List Message) (own : Record) (next : ℕ) → Course own (tell_all ds agent now number waiting own next).own (tell_all ds agent now number waiting own next).out
unfolding tell_all
all_told [] agent now number waiting own next = Course.rests own
all_told (d ∷ ds) agent now number waiting own next =
    one_told (is_late_of number now waiting d) agent now next own d (λ r k. tell_all ds agent now number waiting r k) (λ r k. all_told ds agent now number waiting r k)

pub clocked_course : (agent : Agent) (now number : ℕ) (ds : List Due) (waiting : List Message) (own : Record) (next : ℕ) → Course own (clocked agent now number ds waiting own next).own (clocked agent now number ds waiting own next).out
unfolding clocked
clocked_course agent now number ds waiting own next =
    told_course own (ends (is_live own.lsm) now own) (tell_all ds agent now number waiting (ends (is_live own.lsm) now own).rec next) (ends_course (is_live own.lsm) now own) (all_told ds agent now number waiting (ends (is_live own.lsm) now own).rec next)

told_itself : (r : Record) (x : Moved) (t : Told) → IsByItself r x.rec x.out → IsByItself x.rec t.own t.out → IsByItself r (tells_more x t).own (tells_more x t).out
told_itself r x t f g = itself_append r x.rec t.own x.out t.out f g

one_itself : (b : Bool) (agent : Agent) (now next : ℕ) (own : Record) (d : Due) (rest : Record → ℕ → Told) → ((r : Record) (k : ℕ) → IsByItself r (rest r k).own (rest r k).out) →
    IsByItself own (tell_one b agent now next own d rest).own (tell_one b agent now next own d rest).out
unfolding tell_one
one_itself false agent now next own d rest h = h own next
one_itself true agent now next own d rest h =
    let x : Moved = tells_late d.correlation (id_of agent.number next) now own in
    told_itself own x (rest x.rec (next + 1)) (late_itself d.correlation (id_of agent.number next) now own) (h x.rec (next + 1))

all_itself : (ds : List Due) (agent : Agent) (now number : ℕ) (waiting : List Message) (own : Record) (next : ℕ) →
    IsByItself own (tell_all ds agent now number waiting own next).own (tell_all ds agent now number waiting own next).out
unfolding tell_all
all_itself [] agent now number waiting own next = itself_same own
all_itself (d ∷ ds) agent now number waiting own next =
    one_itself (is_late_of number now waiting d) agent now next own d (λ r k. tell_all ds agent now number waiting r k) (λ r k. all_itself ds agent now number waiting r k)

clocked_itself : (agent : Agent) (now number : ℕ) (ds : List Due) (waiting : List Message) (own : Record) (next : ℕ) →
    IsByItself own (clocked agent now number ds waiting own next).own (clocked agent now number ds waiting own next).out
unfolding clocked
clocked_itself agent now number ds waiting own next =
    told_itself own (ends (is_live own.lsm) now own) (tell_all ds agent now number waiting (ends (is_live own.lsm) now own).rec next) (ends_itself (is_live own.lsm) now own) (all_itself ds agent now number waiting (ends (is_live own.lsm) now own).rec next)

clocked_courses : (agent : Agent) (now number : ℕ) (ds : List Due) (waiting : List Message) (next : ℕ) (rs : List Record) →
    TakeCourses agent.name rs (clock_all agent now number ds waiting next rs).records (clock_all agent now number ds waiting next rs).out
unfolding clock_all clock_then
clocked_courses agent now number ds waiting next [] = no_courses agent.name []
clocked_courses agent now number ds waiting next (r ∷ rs) =
    let t : Told = clocked agent now number ds waiting r next in
    let c : Course r t.own t.out = clocked_course agent now number ds waiting r next in
    more_courses agent.name r t.own t.out (addressed agent.name t.own.owner t.out) rs _ _ c (clocked_itself agent now number ds waiting r next)
    (subst (λ o. Tells agent.name o t.out (addressed agent.name t.own.owner t.out)) (course_after r t.own t.out c).later.owner (tells_addressed agent.name t.own.owner t.out (course_rowless r t.own t.out c)))
    (clocked_courses agent now (number + 1) ds waiting t.next rs)

---- A request

turn_is : (agent : Agent) (now : ℕ) (m : Message) (n : ℕ) (rs : List Record) (xs : List ChildConnection) (next : ℕ) →
    (let t : Turn = request_turn agent now m (record_at n rs) xs next in IsTurn Side.Aggregator agent.name now m n rs (slice_set rs n t.own) (spoken agent t))
unfolding takes spoken
turn_is agent now m n rs xs next =
    record {
      after = t.own;
      said = f.rest ++ t.notices;
      more = addressed agent.name t.own.owner f.rest ++ (t.asked ++ addressed agent.name t.own.owner t.notices);
      course = f.course;
      itself = f.itself;
      records = refl;
      spoken = whole;
      tells = tells_spoken agent.name t.own.owner f.rest t.notices t.asked (course_rowless y.rec t.own (f.rest ++ t.notices) f.course) f.asked;
    }
  where
    y : Moved
    y = takes m now (record_at n rs)

    t : Turn
    t = request_turn agent now m (record_at n rs) xs next

    f : From y t
    f = request_from agent now m (record_at n rs) xs next

    later : List Message
    later = t.asked ++ addressed agent.name t.own.owner t.notices

    whole : addressed agent.name t.own.owner t.replies ++ later ≡ addressed agent.name y.rec.owner y.out ++ (addressed agent.name t.own.owner f.rest ++ later)
    whole =
        ap (λ z. addressed agent.name t.own.owner z ++ later) f.replies ∙ ap (λ z. z ++ later) (addressed_append agent.name t.own.owner y.out f.rest) ∙
        append_assoc (addressed agent.name t.own.owner y.out) (addressed agent.name t.own.owner f.rest) later ∙
        ap (λ o. addressed agent.name o y.out ++ (addressed agent.name t.own.owner f.rest ++ later)) (course_after y.rec t.own (f.rest ++ t.notices) f.course).later.owner

module _ (setting : Setting) (input : Input) (said : List Message) where
  abbrev name : List ℕ
  name = setting.agent.name

  abbrev Does : AgentState → AgentStepped → Type 0
  Does s x = Serves setting.agent.name input (child_of s.base said) x.state.base.records x.state.base.seen x.out

  nothing : (s s' : AgentState) → s'.base.records ≡ s.base.records → s'.base.seen ≡ s.base.seen → Serves setting.agent.name input (child_of s.base said) s'.base.records s'.base.seen []
  nothing s s' e h = Serves.acts h (subst (λ z. TakeCourses setting.agent.name s.base.records z []) (sym e) (no_courses setting.agent.name s.base.records))

  module _ (m : Message) (s : AgentState) (got : input ≡ Input.Got m) (req : is_request m.body ≡ true) (u : is_taken m.header s.base.seen ≡ false) where
    -- the state in which the request counts as taken
    abbrev seen_now : AgentState
    seen_now = record s { base = record s.base { seen = with_taken m.header s.base.seen } }

    new : IsNew input m (child_of s.base said) (with_taken m.header s.base.seen)
    new = record { got = got; request = req; untaken = u; counted = refl }

    taken : (n : ℕ) → IsTurn Side.Aggregator name s.base.now m n s.base.records (request_at setting seen_now n m).state.base.records (request_at setting seen_now n m).out
    unfolding request_at
    taken n = turn_is setting.agent s.base.now m n s.base.records (children_for setting seen_now n m) s.base.next

    takes_at : (n : ℕ) → IsTurn Side.Aggregator name s.base.now m n s.base.records (request_at setting seen_now n m).state.base.records (request_at setting seen_now n m).out →
        IsAbout s.base.now name m n (child_of s.base said) → Does s (request_at setting seen_now n m)
    unfolding request_at
    takes_at n t a = Serves.takes m n Side.Aggregator s.base.now new a t

    between : (o : Option (ℕ × ℕ)) (q : ReserveRequest) → points_of setting.stp_of q ≡ o → m.body ≡ Body.Reserve q → q.connection ≡ None → refusal s.base.now name setting.stp_of s.base.records m ≡ None →
        Does s (opens_between o setting seen_now m q)
    unfolding request_at
    between None q p b c r = absurd ((first_by s.base.now name setting.stp_of s.base.records m q b c r).1 p)
    between (Some points) q p b c r =
        Serves.opens m (id_of setting.agent.number s.base.next) _ points.0 points.1 Side.Aggregator s.base.now new (first_by s.base.now name setting.stp_of s.base.records m q b c r).0
        (turn_is setting.agent s.base.now m (length s.base.records) _ (children_for setting (with_new setting seen_now m q points) (length s.base.records) m) (s.base.next + 1))

    left : is_reservation (kind_of m.body) ≡ false → Does s (record { state = seen_now; out = []; answer = None })
    left k = Serves.leaves m new k refl nothing_tells

    opening : (body : Body) → m.body ≡ body → connection_of m.body ≡ None → refusal s.base.now name setting.stp_of s.base.records m ≡ None → Does s (opens body setting seen_now m)
    opening (Body.Reserve q) e c r = between (points_of setting.stp_of q) q refl e (reserve_unnamed m.body q e c) r
    opening _ e c r = left (unnamed_kind m.body c (λ q w. absurd (let z = sym e ∙ w in cc)))

    accepting : (o : Option ℕ) → connection_of m.body ≡ o → refusal s.base.now name setting.stp_of s.base.records m ≡ None → Does s (accepts o setting seen_now m)
    accepting None e r = opening m.body refl e r
    accepting (Some id) e r =
        let f = found_by s.base.now name setting.stp_of m id (child_of s.base said) e r in
        subst (λ o. Does s (request_to o setting seen_now m)) (sym f.found) (takes_at f.place (taken f.place) f.about)

    answering : (o : Option ErrorName) → refusal s.base.now name setting.stp_of s.base.records m ≡ o → Does s (answers o setting seen_now m)
    unfolding answers
    answering (Some error) r = Serves.refuses m error s.base.now new (refused_by s.base.now name setting.stp_of m error (child_of s.base said) r) refl refl
    answering None r = accepting (connection_of m.body) refl r

    -- a query is answered by rows, or refused
    is_there : (n id : ℕ) → is_query m.body ≡ true → answer_to name seen_now m ≡ None → connection_of m.body ≡ Some id → place_of id m.header.requester s.base.records ≡ Some n → ⊥
    is_there n id q e names at =
        true≢false
        (sym (ap (λ o. is_some (answer_by o name seen_now m)) names ∙ ap (λ o. is_some (option_and_then (λ k. answer_about name (shown_at k seen_now) m.body) o)) at ∙ queries_are_answered name (shown_at n seen_now) m.body ∙ q)
        ∙ ap is_some e)

    another : bytes_eq m.header.provider name ≡ false → m.header.provider ≡ name → ⊥
    another e is = true≢false (sym (same_bytes name) ∙ sym (ap (λ p. bytes_eq p name) is) ∙ e)

    telling : is_query m.body ≡ true → (b : Bool) (o : Option Body) → bytes_eq m.header.provider name ≡ b → answer_to name seen_now m ≡ o → Does s (sends seen_now (reply_by b o name m ∷ []))
    telling q true (Some body) p e = Serves.leaves m new (query_kind m.body q) refl (row_tells m.header body (tells_rows name seen_now m body e))
    telling q true None p e = Serves.refuses m ErrorName.Nonexistent s.base.now new (λ n id own names at. absurd (is_there n id q e names at)) refl refl
    telling q false o p e = Serves.refuses m ErrorName.WrongProvider s.base.now new (λ n id own names at. absurd (another p own)) refl refl

    -- a query about all that is below is answered, or its children are asked
    opening_query : is_query m.body ≡ true → (n : ℕ) (x : Sought) → AnswersNothing x.asked → (b : Bool) → Does s (opens_query b setting seen_now n m x)
    opening_query q n x asks true = Serves.leaves m new (query_kind m.body q) refl (requests_tell x.asked asks)
    opening_query q n x asks false = Serves.leaves m new (query_kind m.body q) refl (row_tells m.header (nested_reply name (record_at n s.base.records) (opened m n x)).body refl)

    asking_below : is_query m.body ≡ true → (n : ℕ) → Does s (asks_below setting seen_now n m)
    unfolding asks_below
    asking_below q n =
        let x : Sought = seek setting.agent s.base.next (children_at n s.children) in
        opening_query q n x (below_asks setting.agent s.base.next (children_at n s.children)) (list_any is_asked x.parts)

    unplaced : (n id : ℕ) → place_named m s.base.records ≡ None → connection_of m.body ≡ Some id → place_of id m.header.requester s.base.records ≡ Some n → ⊥
    unplaced n id e names at = none_some n (sym e ∙ ap (λ o. option_and_then (λ k. place_of k m.header.requester s.base.records) o) names ∙ at)
      where
        none_some : (n : ℕ) → None ≡ Some n → ⊥
        none_some n e = cc

    telling_below : is_query m.body ≡ true → (b : Bool) (o : Option ℕ) → bytes_eq m.header.provider name ≡ b → place_named m s.base.records ≡ o → Does s (asks_if_own b o setting seen_now m)
    telling_below q true (Some n) p e = asking_below q n
    telling_below q true None p e = Serves.refuses m ErrorName.Nonexistent s.base.now new (λ n id own names at. absurd (unplaced n id e names at)) refl refl
    telling_below q false o p e = Serves.refuses m ErrorName.WrongProvider s.base.now new (λ n id own names at. absurd (another p own)) refl refl

    answering_query : is_query m.body ≡ true → (b : Bool) → Does s (queries b setting seen_now m)
    answering_query q true = telling_below q (bytes_eq m.header.provider name) (place_named m s.base.records) refl refl
    answering_query q false = telling q (bytes_eq m.header.provider name) (answer_to name seen_now m) refl refl

    serving : (b : Bool) → is_query m.body ≡ b → Does s (serves b setting seen_now m)
    serving true q = answering_query q (is_recursive m.body)
    serving false q = answering (refusal s.base.now name setting.stp_of s.base.records m) refl

  ---- Any message

  sees_request : (m : Message) (s : AgentState) → is_request m.body ≡ true → sees m s ≡ record s { base = record s.base { seen = with_taken m.header s.base.seen } }
  unfolding saw
  sees_request m s req = ap (λ b. let z : AgentState = record s { base = with_retry (saw_if b m (retry_of s.base)) s.base } in z) req

  sees_other : (m : Message) (s : AgentState) → is_request m.body ≡ false → (sees m s).base.seen ≡ s.base.seen
  unfolding saw
  sees_other m s req = ap (λ b. (saw_if b m (retry_of s.base)).seen) req

  old_request : (m : Message) (s : AgentState) → is_request m.body ≡ true → is_seen s m ≡ is_taken m.header s.base.seen
  unfolding is_old
  old_request m s req = ap (λ b. if b then is_taken m.header s.base.seen else is_heard (identity m) s.base.heard) req

  heard_serve : (m : Message) (s s' : AgentState) → s'.base.records ≡ s.base.records → s'.base.seen ≡ s.base.seen → Does s (hears setting s' m)
  unfolding hears
  heard_serve m s s' e h =
      let p : Passed = hear_all setting.agent s'.base.now 0 m s'.base.next s'.base.records s'.children in
      let below : Heard = hear_below setting.agent.name s'.base.records m s'.queries in
      Serves.acts h
      (courses_beside setting.agent.name s.base.records p.records p.out below.out (below_tells setting.agent.name s'.base.records m s'.queries)
      (subst (λ z. TakeCourses setting.agent.name z p.records p.out) e (heard_courses setting.agent s'.base.now 0 m s'.base.next s'.base.records s'.children)))

  receiving : (m : Message) (s : AgentState) (a b : Bool) → input ≡ Input.Got m → is_request m.body ≡ a → is_seen s m ≡ b → Does s (receives a b setting s m)
  unfolding receives
  receiving m s true false got q o =
      subst (λ z. Does s (serves (is_query m.body) setting z m)) (sym (sees_request m s q)) (serving m s got q (sym (old_request m s q) ∙ o) (is_query m.body) refl)
  receiving m s false false got q o = heard_serve m s (sees m s) refl (sees_other m s q)
  receiving m s true true got q o = nothing s s refl refl
  receiving m s false true got q o = nothing s s refl refl

  ticks_serve : (s : AgentState) (now : ℕ) → Does s (ticks setting now s)
  unfolding ticks
  ticks_serve s now = Serves.acts refl (clocked_courses setting.agent now 0 s.dues s.base.waiting s.base.next s.base.records)

---- Any entry

step_serve : (setting : Setting) (input : Input) (second : ℕ) (said : List Message) (s : AgentState) →
    Serves setting.agent.name input (child_of s.base said) (step input second setting s).state.base.records (step input second setting s).state.base.seen (step input second setting s).out
unfolding step
step_serve setting (Input.Got m) second said s = receiving setting (Input.Got m) said m s (is_request m.body) (is_seen s m) refl refl refl
step_serve setting Input.Tick second said s = ticks_serve setting Input.Tick said s second
step_serve setting (Input.Acked i) second said s = nothing setting (Input.Acked i) said s s refl refl
step_serve setting (Input.Work n machine) second said s = nothing setting (Input.Work n machine) said s s refl refl
step_serve setting (Input.Force n) second said s = nothing setting (Input.Force n) said s s refl refl
step_serve setting (Input.Ask n ask) second said s = nothing setting (Input.Ask n ask) said s s refl refl

pub aggregator_serves : (setting : Setting) (e : Entry) (said : List Message) (s : AgentState) →
    Serves setting.agent.name e.input (child_of s.base said) (after setting s e).state.base.records (after setting s e).state.base.seen (after setting s e).out
unfolding after
aggregator_serves setting e said s = by_test (may_take s e)
  where
    by_test : (b : Bool) → Serves setting.agent.name e.input (child_of s.base said) (after_if b setting s e).state.base.records (after_if b setting s e).state.base.seen (after_if b setting s e).out
    by_test true = step_serve setting e.input e.second said s
    by_test false = nothing setting e.input said s s refl refl

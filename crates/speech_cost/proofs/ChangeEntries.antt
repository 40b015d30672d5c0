-- An entry makes an aggregator tell no more changes of the data plane than there are views that hear of one.
use Rattle.std.proofs.Common.{ℕ, ◌+◌, ◌≤◌, ◌≡◌, Bool, true, false, List, [], ◌∷◌, Option, Some, None, refl, sym, ap, subst, arith, bytes_eq, length, sum_by}
use Rattle.std.specs.List.{list_any}
use Rattle.std.proofs.lemmas.List.Sums.{sum_by-cons}
use Rattle.nsi_primitive.specs.Ids.{id_of}
use Rattle.nsi_primitive.specs.Messages.{is_request, is_query, connection_of}
use Rattle.nsi_primitive.specs.declared.entry.Entry.{Entry}
use Rattle.nsi_primitive.specs.declared.entry.Input.{Input}
use Rattle.nsi_primitive.specs.declared.kind.ErrorName.{ErrorName}
use Rattle.nsi_primitive.specs.declared.message.Body.{Body}
use Rattle.nsi_primitive.specs.declared.message.Message.{Message}
use Rattle.nsi_primitive.specs.declared.message.ReserveRequest.{ReserveRequest}
use Rattle.connection_record.specs.declared.record.Record.{Record}
use Rattle.connection_record.specs.Demand.{last}
use Rattle.connection_record.specs.Moves.{is_live}
use Rattle.connection_record.specs.Applied.{schedule_end}
use Rattle.connection_record.specs.Refusal.{refusal, points_of, place_of}
use Rattle.connection_record.specs.Replies.{Moved, addressed}
use Rattle.connection_record.specs.Speaking.{one, tally, is_asking, is_noting, is_answering}
use Rattle.connection_record.proofs.Saying.{tally_append}
use Rattle.child_connection.specs.Views.{ChildConnection}
use Rattle.agent_state.specs.declared.parent.Due.{Due}
use Rattle.agent_state.specs.Entries.{error_reply, is_recursive, query_reply}
use Rattle.agent_state.specs.State.{AgentState, AgentStepped, blank_agent, record_at, children_at}
use Rattle.agent_state.proofs.Querying.{replied_by}
use Rattle.aggregator_agent.specs.declared.agent.Agent.{Agent}
use Rattle.aggregator_agent.specs.Asking.{Turn}
use Rattle.aggregator_agent.specs.Below.{Sought, is_asked, seek_of, seek_one, seek, opened, nested_reply, Heard, hear_below}
use Rattle.aggregator_agent.specs.Clock.{is_late_of, tells_late, Told as Tell, tell_one, tell_all, ends, clocked, clock_then, clock_all, Clocked}
use Rattle.aggregator_agent.specs.Queries.{answer_to}
use Rattle.aggregator_agent.specs.Setting.{Setting}
use Rattle.aggregator_agent.specs.Steps.{is_seen, sees, children_for, request_at, with_new, opens_between, opens, request_to, accepts, answers, Passed, pass_then, hear_all, hears, opens_query, asks_below, asks_if_own, place_named, queries, receives, ticks, step, serves, may_take, after_if, after as aggregator_after}
use Rattle.aggregator_agent.specs.Turns.{answer_turn, spoken}
use Rattle.aggregator_agent.proofs.Queried.{tells_rows}
use Rattle.nsi_agent.specs.Homes.{Home, aggregates}
use Rattle.nsi_agent.specs.Steps.{after_as, after}
use Rattle.nsi_agent.specs.Told.{Told, goes_on}
use Rattle.agent_speech.proofs.Queried.{rows_answer}
use Rattle.speech_cost.specs.Changes.{is_change, says_change, hears_change, hearers_if, hearers, hearers_from}
use Rattle.speech_cost.specs.Laws.{EntriesPassChangesOn, ChangesArePassedOn}
use Rattle.speech_cost.proofs.Silent.{of_below, lives_if_silent, leaves_silent, below_silent}
use Rattle.speech_cost.proofs.Changes.{change_reply, changes_within, change_messages, addressed_changes, request_tells_none, answer_tells}

abbrev TellsNone : AgentStepped → Type 0
TellsNone x = tally says_change x.out ≡ 0

pub none_told : tally says_change [] ≡ 0
unfolding tally
none_told = refl

one_told : (m : Message) → is_change m.body ≡ false → tally says_change (m ∷ []) ≡ 0
unfolding tally
one_told m e = omega (arith, ap one e)

answer_changes : (body : Body) → is_answering body ≡ true → is_change body ≡ false
unfolding is_answering is_asking is_noting
answer_changes body e = grind (arith, e)

---- Children that are asked below

sought_none : (o : Option ℕ) (agent : Agent) (next : ℕ) (x : ChildConnection) → tally says_change (seek_of o agent next x).asked ≡ 0
unfolding tally
sought_none None agent next x = refl
sought_none (Some id) agent next x = refl

seek_none : (agent : Agent) (next : ℕ) (xs : List ChildConnection) → tally says_change (seek agent next xs).asked ≡ 0
unfolding seek
seek_none agent next [] = none_told
seek_none agent next (x ∷ xs) =
    let first : Sought = seek_one agent next x in
    omega (arith, tally_append says_change first.asked (seek agent first.next xs).asked, sought_none x.connection agent next x, seek_none agent first.next xs)

---- A request

module _ (setting : Setting) (s : AgentState) (m : Message) where
  request_none : (t : AgentState) (n : ℕ) → TellsNone (request_at setting t n m)
  unfolding request_at
  request_none t n = request_tells_none setting.agent t.base.now m (record_at n t.base.records) (children_for setting t n m) t.base.next

  abbrev t : AgentState
  t = sees m s

  opened_none : (waits : Bool) (n : ℕ) (x : Sought) → tally says_change x.asked ≡ 0 → TellsNone (opens_query waits setting t n m x)
  opened_none true n x e = e
  opened_none false n x e = one_told (nested_reply setting.agent.name (record_at n s.base.records) (opened m n x)) refl

  below_none : (n : ℕ) → TellsNone (asks_below setting t n m)
  unfolding asks_below
  below_none n =
      let x : Sought = seek setting.agent s.base.next (children_at n s.children) in
      opened_none (list_any is_asked x.parts) n x (seek_none setting.agent s.base.next (children_at n s.children))

  owned_none : (is_own : Bool) (o : Option ℕ) → TellsNone (asks_if_own is_own o setting t m)
  owned_none true (Some n) = below_none n
  owned_none true None = one_told (error_reply setting.agent.name m ErrorName.Nonexistent) refl
  owned_none false o = one_told (error_reply setting.agent.name m ErrorName.WrongProvider) refl

  reply_none : is_change (query_reply setting.agent.name m (answer_to setting.agent.name t m)).body ≡ false
  reply_none =
      replied_by (λ b. is_change b ≡ false) setting.agent.name m (answer_to setting.agent.name t m) (λ e plain. refl) (λ body e. answer_changes body (rows_answer body (tells_rows setting.agent.name t m body e)))

  query_none : (is_recursive : Bool) → TellsNone (queries is_recursive setting t m)
  query_none true = owned_none (bytes_eq m.header.provider setting.agent.name) (place_named m s.base.records)
  query_none false = one_told (query_reply setting.agent.name m (answer_to setting.agent.name t m)) reply_none

  between_none : (o : Option (ℕ × ℕ)) (q : ReserveRequest) → TellsNone (opens_between o setting t m q)
  between_none None q = none_told
  between_none (Some points) q = request_none (with_new setting t m q points) (length s.base.records)

  opens_none : (body : Body) → TellsNone (opens body setting t m)
  opens_none (Body.Reserve q) = between_none (points_of setting.stp_of q) q
  opens_none _ = none_told

  to_none : (o : Option ℕ) → TellsNone (request_to o setting t m)
  to_none None = none_told
  to_none (Some n) = request_none t n

  accepts_none : (o : Option ℕ) → TellsNone (accepts o setting t m)
  accepts_none None = opens_none m.body
  accepts_none (Some id) = to_none (place_of id m.header.requester s.base.records)

  answers_none : (o : Option ErrorName) → TellsNone (answers o setting t m)
  unfolding answers
  answers_none (Some e) = one_told (error_reply setting.agent.name m e) refl
  answers_none None = accepts_none (connection_of m.body)

  pub serves_none : (b : Bool) → TellsNone (serves b setting t m)
  serves_none true = query_none (is_recursive m.body)
  serves_none false = answers_none (refusal s.base.now setting.agent.name setting.stp_of s.base.records m)

---- All else that came

-- each connection tells no more changes than views of it hear of
all_tell : (agent : Agent) (now number : ℕ) (m : Message) (next : ℕ) (rs : List Record) (xss : List (List ChildConnection)) →
    tally says_change (hear_all agent now number m next rs xss).out ≤ sum_by (tally (hears_change m)) xss
unfolding hear_all pass_then
all_tell agent now number m next [] xss = omega (arith, none_told)
all_tell agent now number m next (r ∷ rs) [] = omega (arith, none_told)
all_tell agent now number m next (r ∷ rs) (xs ∷ xss) =
    let t : Turn = answer_turn agent now m r xs next in
    let rest : Passed = hear_all agent now (number + 1) m t.next rs xss in
    omega (
      arith,
      tally_append says_change (spoken agent t) rest.out,
      answer_tells agent now m r xs next,
      all_tell agent now (number + 1) m t.next rs xss,
      sum_by-cons (tally (hears_change m)) xs xss,
    )

pub hears_tell : (setting : Setting) (s : AgentState) (m : Message) → tally says_change (hears setting (sees m s) m).out ≤ sum_by (tally (hears_change m)) s.children
unfolding hears
hears_tell setting s m =
    let x : Passed = hear_all setting.agent s.base.now 0 m s.base.next s.base.records s.children in
    let y : Heard = hear_below setting.agent.name s.base.records m s.queries in
    omega (
      arith,
      tally_append says_change x.out y.out,
      all_tell setting.agent s.base.now 0 m s.base.next s.base.records s.children,
      change_messages y.out,
      below_silent setting.agent.name s.base.records m s.queries,
    )

receives_tell : (is_request is_old : Bool) (setting : Setting) (s : AgentState) (m : Message) → tally says_change (receives is_request is_old setting s m).out ≤ hearers_if is_old m s.children
unfolding receives
receives_tell true false setting s m = omega (arith, serves_none setting s m (is_query m.body))
receives_tell false false setting s m = hears_tell setting s m
receives_tell true true setting s m = omega (arith, none_told)
receives_tell false true setting s m = omega (arith, none_told)

---- Time

late_none : (delivery c now : ℕ) (r : Record) → tally change_reply (tells_late delivery c now r).out ≡ 0
unfolding tells_late tally
late_none delivery c now r = refl

abbrev IsNone : Tell → Type 0
IsNone t = tally change_reply t.out ≡ 0

one_none : (b : Bool) (agent : Agent) (now next : ℕ) (own : Record) (d : Due) (rest : Record → ℕ → Tell) → ((r : Record) (k : ℕ) → IsNone (rest r k)) → IsNone (tell_one b agent now next own d rest)
unfolding tell_one
one_none false agent now next own d rest h = h own next
one_none true agent now next own d rest h =
    let x : Moved = tells_late d.correlation (id_of agent.number next) now own in
    omega (arith, tally_append change_reply x.out (rest x.rec (next + 1)).out, late_none d.correlation (id_of agent.number next) now own, h x.rec (next + 1))

all_none : (ds : List Due) (agent : Agent) (now number : ℕ) (waiting : List Message) (own : Record) (next : ℕ) → IsNone (tell_all ds agent now number waiting own next)
unfolding tell_all tally
all_none [] agent now number waiting own next = refl
all_none (d ∷ ds) agent now number waiting own next =
    one_none (is_late_of number now waiting d) agent now next own d (λ r n. tell_all ds agent now number waiting r n) (λ r n. all_none ds agent now number waiting r n)

ends_none : (b : Bool) (now : ℕ) (r : Record) → tally of_below (ends b now r).out ≡ 0
unfolding ends
ends_none false now r = leaves_silent r
ends_none true now r = lives_if_silent (schedule_end (last r.committed) now) now r

clocked_none : (agent : Agent) (now number : ℕ) (ds : List Due) (waiting : List Message) (own : Record) (next : ℕ) → IsNone (clocked agent now number ds waiting own next)
unfolding clocked
clocked_none agent now number ds waiting own next =
    let x : Moved = ends (is_live own.lsm) now own in
    omega (
      arith,
      tally_append change_reply x.out (tell_all ds agent now number waiting x.rec next).out,
      changes_within x.out,
      ends_none (is_live own.lsm) now own,
      all_none ds agent now number waiting x.rec next,
    )

all_clocked : (agent : Agent) (now number : ℕ) (ds : List Due) (waiting : List Message) (next : ℕ) (rs : List Record) → tally says_change (clock_all agent now number ds waiting next rs).out ≡ 0
unfolding clock_all clock_then
all_clocked agent now number ds waiting next [] = none_told
all_clocked agent now number ds waiting next (r ∷ rs) =
    let t : Tell = clocked agent now number ds waiting r next in
    let rest : Clocked = clock_all agent now (number + 1) ds waiting t.next rs in
    omega (
      arith,
      tally_append says_change (addressed agent.name t.own.owner t.out) rest.out,
      addressed_changes agent.name t.own.owner t.out,
      clocked_none agent now number ds waiting r next,
      all_clocked agent now (number + 1) ds waiting t.next rs,
    )

pub ticks_none : (setting : Setting) (now : ℕ) (s : AgentState) → TellsNone (ticks setting now s)
unfolding ticks
ticks_none setting now s = all_clocked setting.agent now 0 s.dues s.base.waiting s.base.next s.base.records

---- One entry

step_tells : (i : Input) (second : ℕ) (setting : Setting) (s : AgentState) → tally says_change (step i second setting s).out ≤ hearers s i
unfolding step
step_tells (Input.Got m) second setting s = receives_tell (is_request m.body) (is_seen s m) setting s m
step_tells Input.Tick second setting s = omega (arith, ticks_none setting second s)
step_tells (Input.Acked i) second setting s = omega (arith, none_told)
step_tells (Input.Work n machine) second setting s = omega (arith, none_told)
step_tells (Input.Force n) second setting s = omega (arith, none_told)
step_tells (Input.Ask n ask) second setting s = omega (arith, none_told)

after_tells : (b : Bool) (setting : Setting) (s : AgentState) (e : Entry) → tally says_change (after_if b setting s e).out ≤ hearers s e.input
after_tells false setting s e = omega (arith, none_told)
after_tells true setting s e = step_tells e.input e.second setting s

pub entries_pass_changes_on : EntriesPassChangesOn
unfolding aggregator_after
entries_pass_changes_on setting s e = after_tells (may_take s e) setting s e

---- All entries

-- from a state on
goes_on_telling : (h : Home) (setting : Setting) (s : AgentState) (es : List Entry) → h.role ≡ aggregates setting → tally says_change (goes_on h s es).out ≤ hearers_from h s es
unfolding goes_on hearers_from after_as
goes_on_telling h setting s [] e = omega (arith, none_told)
goes_on_telling h setting s (x ∷ xs) e =
    let y : AgentStepped = after h s x in
    let rest : Told = goes_on h y.state xs in
    omega (arith, first e, goes_on_telling h setting y.state xs e, tally_append says_change y.out rest.out)
  where
    first : h.role ≡ aggregates setting → tally says_change (after h s x).out ≤ hearers s x.input
    first e = subst (λ role. tally says_change (after_as role s x).out ≤ hearers s x.input) (sym e) (entries_pass_changes_on setting s x)

pub changes_are_passed_on : ChangesArePassedOn
changes_are_passed_on h setting es e = goes_on_telling h setting blank_agent es e

-- A first reserve that an aggregator says is of a view that it has of that child: between the view's two points.
use Rattle.std.proofs.Common.{ℕ, ◌≡◌, ◌<◌, ◌+◌, ◌∙◌, ◌⊎◌, ◌&&◌, ◌==◌, inl, inr, Bool, true, false, List, [], ◌∷◌, ◌++◌, length, slice_get, Contains, Option, Some, None, option_to_list, is_none, bytes_eq, true≢false, refl, sym, ap, subst, arith, length-append, get_or-set_same}
use Rattle.std.specs.List.{list_any}
use Rattle.std.proofs.lemmas.List.Elements.{Contains-append_cases}
use Rattle.std.proofs.lemmas.List.Quantifiers.{position-Some}
use Rattle.std.proofs.lemmas.Option.{get_or_from_slice_get, slice_get_within}
use Rattle.nsi_primitive.specs.Ids.{id_of}
use Rattle.nsi_primitive.specs.Messages.{kind_of, connection_of, is_request, is_query}
use Rattle.nsi_primitive.specs.declared.entry.Entry.{Entry}
use Rattle.nsi_primitive.specs.declared.entry.Input.{Input}
use Rattle.nsi_primitive.specs.declared.kind.ErrorName.{ErrorName}
use Rattle.nsi_primitive.specs.declared.kind.Kind.{Kind}
use Rattle.nsi_primitive.specs.declared.message.Body.{Body}
use Rattle.nsi_primitive.specs.declared.message.Criteria.{Criteria}
use Rattle.nsi_primitive.specs.declared.message.Message.{Message}
use Rattle.nsi_primitive.specs.declared.message.ReserveRequest.{ReserveRequest}
use Rattle.nsi_primitive.specs.declared.message.Service.{Service}
use Rattle.nsi_primitive.specs.declared.state.Side.{Side}
use Rattle.record_index.proofs.Members.{nothing_in}
use Rattle.connection_record.specs.declared.record.Record.{Record}
use Rattle.connection_record.specs.Applied.{is_terminating}
use Rattle.message_retry.specs.Retry.{saw}
use Rattle.connection_record.specs.Refusal.{place_of, points_of, refusal}
use Rattle.connection_record.specs.Replies.{addressed}
use Rattle.connection_record.specs.Speaking.{tally, asks_for}
use Rattle.connection_record.proofs.Saying.{takes_speaks}
use Rattle.child_connection.specs.Views.{ChildConnection, open_request}
use Rattle.child_connection.specs.declared.state.Sent.{Sent}
use Rattle.child_connection.specs.Places.{IsSamePlace}
use Rattle.child_connection.specs.Hearing.{hear}
use Rattle.child_connection.specs.Asks.{to_child, request_about, reserve_for}
use Rattle.child_connection.proofs.Places.{asks_place}
use Rattle.agent_state.specs.declared.parent.Due.{Due}
use Rattle.agent_state.specs.declared.parent.OpenQuery.{OpenQuery}
use Rattle.agent_state.specs.Entries.{is_recursive, error_reply, query_reply}
use Rattle.agent_state.specs.State.{AgentState, AgentStepped, sends, blank_agent, no_record, record_at, children_at}
use Rattle.aggregator_agent.specs.declared.agent.Agent.{Agent}
use Rattle.aggregator_agent.specs.Asking.{Turn, asked_view, request_of, if_free, if_apart, service_for, reserve_if, request_if, may_abort, passed_on, pass_one, pass_each}
use Rattle.aggregator_agent.specs.Below.{Sought, is_asked, seek, opened, nested_reply, hear_below}
use Rattle.aggregator_agent.specs.Clock.{Told, clocked, clock_then, clock_all}
use Rattle.aggregator_agent.specs.Queries.{answer_to}
use Rattle.aggregator_agent.specs.Setting.{Setting}
use Rattle.aggregator_agent.specs.Settling.{settle}
use Rattle.aggregator_agent.specs.Steps.{sees, is_seen, children_for, request_at, with_new, opens_between, opens, request_to, accepts, answers, opens_query, asks_below, asks_if_own, place_named, queries, serves, Passed, pass_then, hear_all, hears, receives, ticks, step, after_if, after, may_take}
use Rattle.aggregator_agent.proofs.Queried.{reply_asks_nothing}
use Rattle.aggregator_agent.specs.Turns.{takes, tell_joined, pass_on, turn_by_request, request_turn, spoken, late_terminate, hear_one, hear_each, hold_ends, force_ends, heard_by, turn_by_answer, answer_turn}
use Rattle.run_growth.specs.Growth.{Stay, IsLaterView}
use Rattle.run_growth.proofs.Roles.{entries_grow}
use Rattle.agent_speech.specs.Laws.{IsEven}
use Rattle.agent_speech.proofs.Every.{blank_is_even, entries_keep_even}
use Rattle.nsi_agent.specs.Homes.{Role, aggregates, Home}
use Rattle.nsi_agent.specs.Steps.{after as any_after, after_as}
use Rattle.nsi_agent.specs.Told.{goes_on, told}
use Rattle.circuit_link.proofs.Aggregators.{request_from, answer_from, clocked_course}
use Rattle.circuit_link.proofs.Answering.{only_one}
use Rattle.circuit_link.proofs.Below.{all_asked_below, all_said_below}
use Rattle.circuit_pairs.proofs.Overseeing.{turn_asks}
use Rattle.circuit_pairs.proofs.Plain.{addressed_asks, course_asks}
use Rattle.circuit_fit.proofs.Passing.{request_some}
use Rattle.circuit_fit.proofs.Ending.{each_asked}
use Rattle.circuit_laws.proofs.Backing.{list_there, place_there}

---- What a child is asked

-- a first reserve has these points
pub record HasPoints (from to : List ℕ) (q : ReserveRequest) : Type 0 where
  pub source : q.source ≡ Some from
  pub dest : q.dest ≡ Some to

abbrev IsPointed : ChildConnection → Body → Type 0
IsPointed x b = (q : ReserveRequest) → b ≡ Body.Reserve q → q.connection ≡ None → HasPoints x.source x.dest q

same_reserve : (a b : ReserveRequest) → Some (Body.Reserve a) ≡ Some (Body.Reserve b) → a ≡ b
same_reserve a b e = cc

reserve_points : (o : Option Criteria) (s : Service) (x : ChildConnection) (b : Body) → reserve_if o s x ≡ Some b → IsPointed x b
unfolding reserve_if reserve_for
reserve_points None s x b e q is first = absurd (cc)
reserve_points (Some c) s x b e q is first = by (open_request Kind.Reserve x) (bytes_eq x.source x.dest) x.connection refl e
  where
    by : (o : Option Sent) (t : Bool) (known : Option ℕ) → x.connection ≡ known →
        if_free o (if_apart t (Some (Body.Reserve (reserve_for (service_for known s) (Some c.version) c.interval.start c.interval.end c.capacity x)))) ≡ Some b → HasPoints x.source x.dest q
    by (Some r) t known k f = absurd (cc)
    by None true known k f = absurd (cc)
    by None false (Some id) k f =
        let same : Some (Body.Reserve (reserve_for None (Some c.version) c.interval.start c.interval.end c.capacity x)) ≡ Some (Body.Reserve q) = f ∙ ap Some is in
        let known : x.connection ≡ q.connection = ap (λ (z : ReserveRequest). z.connection) (same_reserve (reserve_for None (Some c.version) c.interval.start c.interval.end c.capacity x) q same) in
        absurd (let z : Some id ≡ None = sym k ∙ (known ∙ first) in cc)
    by None false None k f =
        let r : ReserveRequest = reserve_for (Some s) (Some c.version) c.interval.start c.interval.end c.capacity x in
        let same : r ≡ q = same_reserve r q (f ∙ ap Some is) in
        record { source = sym (ap (λ (z : ReserveRequest). z.source) same); dest = sym (ap (λ (z : ReserveRequest). z.dest) same) }

about_kind : (t : Bool) (k : Kind) (x : ChildConnection) (b : Body) → ((id : ℕ) (q : ReserveRequest) → request_about k id ≡ Body.Reserve q → ⊥) → request_if t k x ≡ Some b → IsPointed x b
about_kind t k x b never e q is first = let w = request_some t k x b e in absurd (never w.2.0 q (sym w.2.2 ∙ is))

passed_points : (body : Body) (own : Record) (x : ChildConnection) (b : Body) → passed_on body own x ≡ Some b → IsPointed x b
unfolding passed_on request_about
passed_points (Body.Reserve r) own x b e = reserve_points own.pending own.service x b e
passed_points (Body.ReserveCommit id) own x b e = about_kind true Kind.ReserveCommit x b (λ i q f. cc) e
passed_points (Body.ReserveAbort id) own x b e = about_kind (may_abort x.phase) Kind.ReserveAbort x b (λ i q f. cc) e
passed_points (Body.Provision id) own x b e = about_kind true Kind.Provision x b (λ i q f. cc) e
passed_points (Body.Release id) own x b e = about_kind true Kind.Release x b (λ i q f. cc) e
passed_points (Body.Terminate id) own x b e = about_kind true Kind.Terminate x b (λ i q f. cc) e
passed_points _ own x b e = λ q is first. absurd (cc)

---- A turn

-- the reserve is of one of these views
pub record IsOfOne (ys : List ChildConnection) (m : Message) (q : ReserveRequest) : Type 0 where
  pub view : ChildConnection
  pub there : Contains ys view
  pub child : m.header.provider ≡ view.child
  pub points : HasPoints view.source view.dest q

-- each first reserve among these is
abbrev pub AreOfThem : List ChildConnection → List Message → Type 0
AreOfThem ys out = (m : Message) (q : ReserveRequest) → Contains out m → m.body ≡ Body.Reserve q → q.connection ≡ None → IsOfOne ys m q

same_place : (x : ChildConnection) → IsSamePlace x x
same_place x = record { child = refl; source = refl; dest = refl }

view_place : (o : Option Body) (k : Kind) (c : ℕ) (x : ChildConnection) → IsSamePlace x (asked_view o k c x)
unfolding asked_view
view_place None k c x = same_place x
view_place (Some b) k c x = asks_place k c x

asked_is : (o : Option Body) (parent : List ℕ) (c : ℕ) (x : ChildConnection) (m : Message) → Contains (option_to_list (request_of o parent c x)) m → (b : Body) × (o ≡ Some b) × (m ≡ to_child parent c x b)
asked_is None parent c x m i = absurd (nothing_in m i)
asked_is (Some b) parent c x m i = (b, refl, only_one (to_child parent c x b) m i)

at_view : (x y : ChildConnection) (q : ReserveRequest) → IsSamePlace x y → HasPoints x.source x.dest q → HasPoints y.source y.dest q
at_view x y q same p = record { source = p.source ∙ ap Some (sym same.source); dest = p.dest ∙ ap Some (sym same.dest) }

reserve_asks : (m : Message) (q : ReserveRequest) → m.body ≡ Body.Reserve q → is_request m.body ≡ true
reserve_asks m q e = ap is_request e

module _ (agent : Agent) (now : ℕ) (m : Message) (own : Record) (xs : List ChildConnection) (next : ℕ) where
  abbrev turn : Turn
  turn = request_turn agent now m own xs next

  turn_views : (turn.children ≡ (pass_each m agent (takes m now own).rec next xs).children) × (turn.asked ≡ (pass_each m agent (takes m now own).rec next xs).asked)
  unfolding request_turn turn_by_request tell_joined settle pass_on
  turn_views = (refl, refl)

  asked_points : AreOfThem turn.children turn.asked
  asked_points z q i is first =
      let r : Record = (takes m now own).rec in
      let (k, x, p, j, there) = each_asked (λ n x. pass_one m agent r n x) next xs z (subst (λ (ms : List Message). Contains ms z) turn_views.1 i) in
      let (b, o, t) = asked_is (passed_on m.body r x) agent.name (id_of agent.number k) x z j in
      let same : IsSamePlace x (pass_one m agent r k x).child = view_place (passed_on m.body r x) (kind_of m.body) (id_of agent.number k) x in
      record {
        view = (pass_one m agent r k x).child;
        there = subst (λ (zs : List ChildConnection). Contains zs (pass_one m agent r k x).child) (sym turn_views.0) there;
        child = ap (λ (z : Message). z.header.provider) t ∙ sym same.child;
        points = at_view x (pass_one m agent r k x).child q same (passed_points m.body r x b o q (sym (ap (λ (z : Message). z.body) t) ∙ is) first);
      }

  turn_quiet : (tally asks_for turn.replies ≡ 0) × (tally asks_for turn.notices ≡ 0)
  unfolding takes
  turn_quiet = turn_asks (takes m now own) turn (request_from agent now m own xs next) (takes_speaks Side.Aggregator m.body m.header.correlation now own).asks

  -- what a turn by a request says
  pub spoken_points : AreOfThem turn.children (spoken agent turn)
  unfolding spoken
  spoken_points z q i is first = first_part (Contains-append_cases (addressed agent.name turn.own.owner turn.replies) (turn.asked ++ addressed agent.name turn.own.owner turn.notices) z i)
    where
      second_part : Contains turn.asked z ⊎ Contains (addressed agent.name turn.own.owner turn.notices) z → IsOfOne turn.children z q
      second_part (inl j) = asked_points z q j is first
      second_part (inr j) = absurd (addressed_asks agent.name turn.own.owner turn.notices turn_quiet.1 z j (reserve_asks z q is))

      first_part : Contains (addressed agent.name turn.own.owner turn.replies) z ⊎ Contains (turn.asked ++ addressed agent.name turn.own.owner turn.notices) z → IsOfOne turn.children z q
      first_part (inl j) = absurd (addressed_asks agent.name turn.own.owner turn.replies turn_quiet.0 z j (reserve_asks z q is))
      first_part (inr j) = second_part (Contains-append_cases turn.asked (addressed agent.name turn.own.owner turn.notices) z j)

---- What reserves nothing

-- no reserve is among what is said
abbrev ReservesNothing : List Message → Type 0
ReservesNothing out = (m : Message) (q : ReserveRequest) → Contains out m → m.body ≡ Body.Reserve q → ⊥

silent : ReservesNothing []
silent z q i is = nothing_in z i

one_silent : (m : Message) → is_request m.body ≡ false → ReservesNothing (m ∷ [])
one_silent m quiet z q i is = true≢false (sym (reserve_asks z q is) ∙ (ap (λ (y : Message). is_request y.body) (only_one m z i) ∙ quiet))

both_silent : (xs ys : List Message) → ReservesNothing xs → ReservesNothing ys → ReservesNothing (xs ++ ys)
both_silent xs ys a b z q i is = elim (Contains-append_cases xs ys z i) [ inl j ↦ a z q j is | inr j ↦ b z q j is ]

-- nor do queries about what is below, or what answers them
below_silent : (agent : Agent) (next : ℕ) (xs : List ChildConnection) → ReservesNothing (seek agent next xs).asked
below_silent agent next xs z q i is = all_asked_below (λ (y : Message). (q : ReserveRequest) → y.body ≡ Body.Reserve q → ⊥) agent (λ c id x q e. absurd (cc)) next xs z i q is

rows_silent : (agent : List ℕ) (records : List Record) (m : Message) (qs : List OpenQuery) → ReservesNothing (hear_below agent records m qs).out
rows_silent agent records m qs z q i is = all_said_below (λ (y : Message). (q : ReserveRequest) → y.body ≡ Body.Reserve q → ⊥) agent (λ own o q e. absurd (cc)) records m qs z i q is

---- A message of a child

nothing_tallied : tally asks_for [] ≡ 0
unfolding tally
nothing_tallied = refl

module _ (agent : Agent) (now : ℕ) (m : Message) where
  answer_asked : (own : Record) (xs : List ChildConnection) (next : ℕ) → (answer_turn agent now m own xs next).asked ≡ (hear_each (is_terminating own.lsm) m agent next xs).asked
  unfolding answer_turn turn_by_answer tell_joined settle force_ends hold_ends heard_by
  answer_asked own xs next = refl

  -- a turn by it reserves nothing
  answer_none : (own : Record) (xs : List ChildConnection) (next : ℕ) (z : Message) (q : ReserveRequest) → Contains (answer_turn agent now m own xs next).asked z → z.body ≡ Body.Reserve q → ⊥
  unfolding request_about
  answer_none own xs next z q i is =
      let (k, x, p, j, there) = each_asked (λ n x. hear_one (is_terminating own.lsm) m agent n x) next xs z (subst (λ (ms : List Message). Contains ms z) (answer_asked own xs next) i) in
      let (b, o, t) = asked_is (late_terminate (is_terminating own.lsm) m x) agent.name (id_of agent.number k) (hear m x).view z j in
      let w = request_some (is_terminating own.lsm && is_none x.connection) Kind.Terminate (hear m x).view b o in
      other w.2.0 q (sym w.2.2 ∙ (sym (ap (λ (z : Message). z.body) t) ∙ is))
    where
      other : (id : ℕ) (q : ReserveRequest) → Body.Terminate id ≡ Body.Reserve q → ⊥
      other id q e = cc

  answer_spoken : (own : Record) (xs : List ChildConnection) (next : ℕ) (z : Message) (q : ReserveRequest) → Contains (spoken agent (answer_turn agent now m own xs next)) z → z.body ≡ Body.Reserve q → ⊥
  unfolding spoken
  answer_spoken own xs next z q i is =
      let t : Turn = answer_turn agent now m own xs next in
      let w = turn_asks (record { rec = own; out = [] }) t (answer_from agent now m own xs next) nothing_tallied in
      elim (Contains-append_cases (addressed agent.name t.own.owner t.replies) (t.asked ++ addressed agent.name t.own.owner t.notices) z i) [
        | inl j ↦ addressed_asks agent.name t.own.owner t.replies w.0 z j (reserve_asks z q is)
        | inr j ↦ elim (Contains-append_cases t.asked (addressed agent.name t.own.owner t.notices) z j) [
          | inl l ↦ answer_none own xs next z q l is
          | inr l ↦ addressed_asks agent.name t.own.owner t.notices w.1 z l (reserve_asks z q is)
        ]
      ]

  hear_none : (number next : ℕ) (rs : List Record) (css : List (List ChildConnection)) → ReservesNothing (hear_all agent now number m next rs css).out
  unfolding hear_all pass_then
  hear_none number next [] css z q i is = nothing_in z i
  hear_none number next (r ∷ rs) [] z q i is = nothing_in z i
  hear_none number next (r ∷ rs) (xs ∷ css) z q i is =
      let t : Turn = answer_turn agent now m r xs next in
      elim (Contains-append_cases (spoken agent t) (hear_all agent now (number + 1) m t.next rs css).out z i) [
        | inl j ↦ answer_spoken r xs next z q j is
        | inr j ↦ hear_none (number + 1) t.next rs css z q j is
      ]

---- Time

clock_none : (agent : Agent) (now number : ℕ) (ds : List Due) (waiting : List Message) (next : ℕ) (rs : List Record) → ReservesNothing (clock_all agent now number ds waiting next rs).out
unfolding clock_all clock_then
clock_none agent now number ds waiting next [] z q i is = nothing_in z i
clock_none agent now number ds waiting next (r ∷ rs) z q i is =
    let t : Told = clocked agent now number ds waiting r next in
    elim (Contains-append_cases (addressed agent.name t.own.owner t.out) (clock_all agent now (number + 1) ds waiting t.next rs).out z i) [
      | inl j ↦ addressed_asks agent.name t.own.owner t.out (course_asks r t.own t.out (clocked_course agent now number ds waiting r next)) z j (reserve_asks z q is)
      | inr j ↦ clock_none agent now (number + 1) ds waiting t.next rs z q j is
    ]

---- Any entry

-- each first reserve among what is said is of a view that the agent has then
abbrev pub AreOfViews : List (List ChildConnection) → List Message → Type 0
AreOfViews css out = (m : Message) (q : ReserveRequest) → Contains out m → m.body ≡ Body.Reserve q → q.connection ≡ None → (n : ℕ) × IsOfOne (children_at n css) m q

none_said : (css : List (List ChildConnection)) (out : List Message) → ReservesNothing out → AreOfViews css out
none_said css out quiet z q i is first = absurd (quiet z q i is)

module _ (setting : Setting) where
  abbrev Says : AgentStepped → Type 0
  Says x = AreOfViews x.state.children x.out

  at_says : (s : AgentState) (n : ℕ) (m : Message) → n < length s.children → Says (request_at setting s n m)
  unfolding request_at
  at_says s n m l z q i is first =
      let own : Record = record_at n s.base.records in
      let xs : List ChildConnection = children_for setting s n m in
      let t : Turn = request_turn setting.agent s.base.now m own xs s.base.next in
      (n, subst (λ (ys : List ChildConnection). IsOfOne ys z q) (sym (get_or-set_same s.children n t.children [] l)) (spoken_points setting.agent s.base.now m own xs s.base.next z q i is first))

  module _ (s : AgentState) (m : Message) (even : length s.children ≡ length s.base.records) where
    between_says : (q : ReserveRequest) (o : Option (ℕ × ℕ)) → Says (opens_between o setting s m q)
    between_says q None = none_said s.children [] silent
    between_says q (Some points) = at_says (with_new setting s m q points) (length s.base.records) m (omega (arith, even, length-append s.children (none ∷ [])))
      where
        none : List ChildConnection
        none = []

    opens_says : (body : Body) → Says (opens body setting s m)
    opens_says (Body.Reserve q) = between_says q (points_of setting.stp_of q)
    opens_says _ = none_said s.children [] silent

    to_says : (id : ℕ) (o : Option ℕ) → place_of id m.header.requester s.base.records ≡ o → Says (request_to o setting s m)
    to_says id None e = none_said s.children [] silent
    to_says id (Some n) e = at_says s n m (omega (arith, even, (position-Some (λ (r : Record). (id == r.id) && bytes_eq m.header.requester r.owner) s.base.records n no_record e).0))

    accepts_says : (o : Option ℕ) → Says (accepts o setting s m)
    accepts_says None = opens_says m.body
    accepts_says (Some id) = to_says id (place_of id m.header.requester s.base.records) refl

    refuses_says : (error : ErrorName) → Says (sends s (error_reply setting.agent.name m error ∷ []))
    refuses_says error = none_said s.children (error_reply setting.agent.name m error ∷ []) (one_silent (error_reply setting.agent.name m error) refl)

    answers_says : (o : Option ErrorName) → Says (answers o setting s m)
    unfolding answers
    answers_says (Some error) = refuses_says error
    answers_says None = accepts_says (connection_of m.body)

    seeks_says : (n : ℕ) (x : Sought) → ReservesNothing x.asked → (waits : Bool) → Says (opens_query waits setting s n m x)
    seeks_says n x quiet true = none_said s.children x.asked quiet
    seeks_says n x quiet false =
        let reply : Message = nested_reply setting.agent.name (record_at n s.base.records) (opened m n x) in
        none_said s.children (reply ∷ []) (one_silent reply refl)

    below_says : (n : ℕ) → Says (asks_below setting s n m)
    unfolding asks_below
    below_says n =
        let x : Sought = seek setting.agent s.base.next (children_at n s.children) in
        seeks_says n x (below_silent setting.agent s.base.next (children_at n s.children)) (list_any is_asked x.parts)

    own_says : (is_own : Bool) (o : Option ℕ) → Says (asks_if_own is_own o setting s m)
    own_says true (Some n) = below_says n
    own_says true None = refuses_says ErrorName.Nonexistent
    own_says false o = refuses_says ErrorName.WrongProvider

    queries_says : (is_recursive : Bool) → Says (queries is_recursive setting s m)
    queries_says true = own_says (bytes_eq m.header.provider setting.agent.name) (place_named m s.base.records)
    queries_says false =
        let reply : Message = query_reply setting.agent.name m (answer_to setting.agent.name s m) in
        none_said s.children (reply ∷ []) (one_silent reply (reply_asks_nothing setting.agent.name s m))

    serves_says : (is_query : Bool) → Says (serves is_query setting s m)
    serves_says true = queries_says (is_recursive m.body)
    serves_says false = answers_says (refusal s.base.now setting.agent.name setting.stp_of s.base.records m)

  receives_says : (s : AgentState) (m : Message) → length s.children ≡ length s.base.records → (a b : Bool) → Says (receives a b setting s m)
  unfolding receives hears saw
  receives_says s m even true false = serves_says (sees m s) m even (is_query m.body)
  receives_says s m even false false =
      let p : Passed = hear_all setting.agent (sees m s).base.now 0 m (sees m s).base.next s.base.records s.children in
      let below : List Message = (hear_below setting.agent.name s.base.records m s.queries).out in
      none_said p.children (p.out ++ below)
      (both_silent p.out below (hear_none setting.agent (sees m s).base.now m 0 (sees m s).base.next s.base.records s.children) (rows_silent setting.agent.name s.base.records m s.queries))
  receives_says s m even true true = none_said s.children [] silent
  receives_says s m even false true = none_said s.children [] silent

  step_says : (s : AgentState) → length s.children ≡ length s.base.records → (input : Input) (second : ℕ) → Says (step input second setting s)
  unfolding step ticks
  step_says s even (Input.Got m) second = receives_says s m even (is_request m.body) (is_seen s m)
  step_says s even Input.Tick second = none_said _ _ (clock_none setting.agent second 0 s.dues s.base.waiting s.base.next s.base.records)
  step_says s even (Input.Acked i) second = none_said s.children [] silent
  step_says s even (Input.Work n machine) second = none_said s.children [] silent
  step_says s even (Input.Force n) second = none_said s.children [] silent
  step_says s even (Input.Ask n ask) second = none_said s.children [] silent

  entry_says : (s : AgentState) (e : Entry) → length s.children ≡ length s.base.records → Says (after setting s e)
  unfolding after
  entry_says s e even = by_test (may_take s e)
    where
      by_test : (b : Bool) → Says (after_if b setting s e)
      by_test true = step_says s even e.input e.second
      by_test false = none_said s.children [] silent

---- Entries

-- a view stays between its points
still_of_view : (css css' : List (List ChildConnection)) (m : Message) (q : ReserveRequest) (n : ℕ) → Stay (Stay IsLaterView) css css' → IsOfOne (children_at n css) m q → IsOfOne (children_at n css') m q
still_of_view css css' m q n grown one =
    let here : slice_get (children_at n css) one.there.0 ≡ Some one.view = place_there (children_at n css) one.view one.there in
    let (zs, at, stays) = grown n (children_at n css) (list_there css n one.there.0 one.view here) in
    let (y, its, later) = stays one.there.0 one.view here in
    record {
      view = y;
      there = subst (λ (ys : List ChildConnection). Contains ys y) (sym (get_or_from_slice_get css' n zs [] at)) (one.there.0, slice_get_within zs one.there.0 y its, get_or_from_slice_get zs one.there.0 y y its);
      child = one.child ∙ sym later.place.child;
      points = at_view one.view y q later.place one.points;
    }

still_along : (h : Home) (es : List Entry) (s : AgentState) (m : Message) (q : ReserveRequest) (n : ℕ) → IsOfOne (children_at n s.children) m q → IsOfOne (children_at n (goes_on h s es).state.children) m q
unfolding goes_on
still_along h [] s m q n one = one
still_along h (e ∷ es) s m q n one = still_along h es (any_after h s e).state m q n (still_of_view s.children (any_after h s e).state.children m q n (entries_grow h s e).children one)

abbrev SaysPoints : Role → Type 0
SaysPoints role = (s : AgentState) (e : Entry) → IsEven role s → AreOfViews (after_as role s e).state.children (after_as role s e).out

aggregator_says : (setting : Setting) → SaysPoints (aggregates setting)
unfolding after_as
aggregator_says setting s e even = entry_says setting s e even

role_says : (role : Role) (setting : Setting) → role ≡ aggregates setting → SaysPoints role
role_says role setting e = subst SaysPoints (sym e) (aggregator_says setting)

points_from : (h : Home) (setting : Setting) → h.role ≡ aggregates setting → (es : List Entry) (s : AgentState) → IsEven h.role s → AreOfViews (goes_on h s es).state.children (goes_on h s es).out
unfolding goes_on
points_from h setting role [] s even = none_said s.children [] silent
points_from h setting role (e ∷ es) s even = λ z q i is first.
    let s' : AgentState = (any_after h s e).state in
    elim (Contains-append_cases (any_after h s e).out (goes_on h s' es).out z i) [
      | inl j ↦ (let w = role_says h.role setting role s e even z q j is first in (w.0, still_along h es s' z q w.0 w.1))
      | inr j ↦ points_from h setting role es s' (entries_keep_even h s e even) z q j is first
    ]

-- each first reserve that an aggregator has said is of a view that it has: of that child, between the view's two points
pub told_points : (h : Home) (setting : Setting) → h.role ≡ aggregates setting → (es : List Entry) → AreOfViews (told h es).state.children (told h es).out
told_points h setting role es = points_from h setting role es blank_agent (blank_is_even h)

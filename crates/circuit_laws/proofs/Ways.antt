-- The children of an aggregator's connection are the legs of the way between its two points.
use Rattle.std.proofs.Common.{ℕ, zero, suc, ◌≡◌, ◌∙◌, ◌+◌, ◌⊎◌, inl, inr, Bool, true, false, List, [], ◌∷◌, ◌++◌, map, length, length-append, slice_get, slice_set, bytes_eq, Option, Some, None, refl, sym, ap, subst, arith}
use Rattle.std.specs.List.{list_any}
use Rattle.std.proofs.lemmas.Option.{get_or_from_slice_get}
use Rattle.nsi_primitive.specs.Ids.{id_of}
use Rattle.nsi_primitive.specs.Messages.{kind_of, connection_of, is_request, is_query}
use Rattle.nsi_primitive.specs.declared.entry.Entry.{Entry}
use Rattle.nsi_primitive.specs.declared.entry.Input.{Input}
use Rattle.nsi_primitive.specs.declared.kind.ErrorName.{ErrorName}
use Rattle.nsi_primitive.specs.declared.kind.Kind.{Kind}
use Rattle.nsi_primitive.specs.declared.message.Body.{Body}
use Rattle.nsi_primitive.specs.declared.message.Message.{Message}
use Rattle.nsi_primitive.specs.declared.message.ReserveRequest.{ReserveRequest}
use Rattle.connection_record.specs.declared.record.Record.{Record}
use Rattle.connection_record.specs.Applied.{is_terminating}
use Rattle.connection_record.specs.Later.{IsLater}
use Rattle.connection_record.specs.Moves.{fresh, service_of}
use Rattle.connection_record.specs.Refusal.{refusal, place_of, points_of}
use Rattle.child_connection.specs.Asks.{asks}
use Rattle.child_connection.specs.Hearing.{hear}
use Rattle.child_connection.specs.Places.{IsSamePlace}
use Rattle.child_connection.specs.Views.{ChildConnection}
use Rattle.child_connection.proofs.Places.{asks_place, hear_place}
use Rattle.agent_state.specs.declared.parent.Leg.{Leg}
use Rattle.agent_state.specs.Entries.{is_recursive}
use Rattle.agent_state.specs.State.{AgentState, AgentStepped, no_record, record_at, children_at, name_or, blank_agent}
use Rattle.aggregator_agent.specs.declared.agent.Agent.{Agent}
use Rattle.aggregator_agent.specs.Asking.{Turn, Asked, asked_view, each, passed_on, pass_one, view_of, views_of, with_path}
use Rattle.aggregator_agent.specs.Below.{Sought, is_asked, seek}
use Rattle.aggregator_agent.specs.Setting.{Setting}
use Rattle.aggregator_agent.specs.Settling.{settle}
use Rattle.aggregator_agent.specs.Steps.{sees, is_seen, children_for, request_at, with_new, opens_between, opens, request_to, accepts, answers, pass_then, hear_all, hears, opens_query, asks_below, asks_if_own, place_named, queries, serves, receives, ticks, step, after_if, after, may_take}
use Rattle.aggregator_agent.specs.Turns.{tell_joined, pass_on, takes, turn_by_request, request_turn, late_terminate, hear_one, hold_ends, force_ends, heard_by, turn_by_answer, answer_turn}
use Rattle.nsi_agent.specs.Homes.{Role, aggregates, Home}
use Rattle.nsi_agent.specs.Steps.{after as any_after, after_as}
use Rattle.nsi_agent.specs.Told.{goes_on, told}
use Rattle.run_growth.proofs.Aggregators.{aggregator_grows}
use Rattle.run_growth.proofs.Turned.{request_later}
use Rattle.agent_speech.specs.Laws.{IsEven}
use Rattle.agent_speech.proofs.Every.{blank_is_even, entries_keep_even}
use Rattle.circuit_laws.specs.Backed.{leg_in}

abbrev pub Route : Type 0
Route = ℕ → ℕ → List Leg

-- a connection has no children yet, or those of the way between its points
abbrev pub IsOnItsWay : Route → Record → List ChildConnection → Type 0
IsOnItsWay route own children = (children ≡ []) ⊎ (map leg_in children ≡ route own.source own.dest)

-- so does each
abbrev pub AreOnTheirWays : Route → AgentState → Type 0
AreOnTheirWays route s = (n : ℕ) → IsOnItsWay route (record_at n s.base.records) (children_at n s.children)

---- A view stays at its leg

leg_made : (a b c d e f : List ℕ) → a ≡ b → c ≡ d → e ≡ f → (let x : Leg = record { child = a; source = c; dest = e } in x) ≡ record { child = b; source = d; dest = f }
leg_made a b c d e f p q r = rw (p, q, r) refl

same_leg : (x y : ChildConnection) → IsSamePlace x y → leg_in y ≡ leg_in x
same_leg x y p = leg_made y.child x.child y.source x.source y.dest x.dest p.child p.source p.dest

asked_leg : (o : Option Body) (k : Kind) (c : ℕ) (x : ChildConnection) → leg_in (asked_view o k c x) ≡ leg_in x
unfolding asked_view
asked_leg None k c x = refl
asked_leg (Some body) k c x = same_leg x (asks k c x) (asks_place k c x)

same_points : (route : Route) (a b c d : ℕ) → a ≡ b → c ≡ d → route a c ≡ route b d
same_points route a b c d p q = rw (p, q) refl

both_same : (a b : Leg) (xs ys : List Leg) → a ≡ b → xs ≡ ys → a ∷ xs ≡ b ∷ ys
both_same a b xs ys e f = rw (e, f) refl

each_legs : (does : ℕ → ChildConnection → Asked) → ((n : ℕ) (x : ChildConnection) → leg_in (does n x).child ≡ leg_in x) → (next : ℕ) (xs : List ChildConnection) → map leg_in (each does next xs).children ≡ map leg_in xs
unfolding each
each_legs does same next [] = refl
each_legs does same next (x ∷ xs) =
    both_same (leg_in (does next x).child) (leg_in x) (map leg_in (each does (does next x).next xs).children) (map leg_in xs) (same next x) (each_legs does same (does next x).next xs)

---- Turns

request_legs : (agent : Agent) (now : ℕ) (m : Message) (r : Record) (xs : List ChildConnection) (next : ℕ) → map leg_in (request_turn agent now m r xs next).children ≡ map leg_in xs
unfolding request_turn turn_by_request settle pass_on tell_joined
request_legs agent now m r xs next =
    each_legs (λ n x. pass_one m agent (takes m now r).rec n x) (λ n x. asked_leg (passed_on m.body (takes m now r).rec x) (kind_of m.body) (id_of agent.number n) x) next xs

heard_leg : (is_ending : Bool) (m : Message) (agent : Agent) (n : ℕ) (x : ChildConnection) → leg_in (hear_one is_ending m agent n x).child ≡ leg_in x
heard_leg is_ending m agent n x =
    asked_leg (late_terminate is_ending m x) Kind.Terminate (id_of agent.number n) (hear m x).view ∙ same_leg x (hear m x).view (hear_place m x)

answer_legs : (agent : Agent) (now : ℕ) (m : Message) (r : Record) (xs : List ChildConnection) (next : ℕ) → map leg_in (answer_turn agent now m r xs next).children ≡ map leg_in xs
unfolding answer_turn turn_by_answer settle force_ends hold_ends heard_by tell_joined
answer_legs agent now m r xs next = each_legs (λ n x. hear_one (is_terminating r.lsm) m agent n x) (λ n x. heard_leg (is_terminating r.lsm) m agent n x) next xs

---- All connections

-- the legs of a connection's children after an entry, or a part of one: the same, or those of the way between its points
abbrev GoOnTheirWays : Route → AgentState → AgentState → Type 0
GoOnTheirWays route s q =
    (n : ℕ) → (map leg_in (children_at n q.children) ≡ map leg_in (children_at n s.children)) ⊎ (map leg_in (children_at n q.children) ≡ route (record_at n q.base.records).source (record_at n q.base.records).dest)

heard_legs : (agent : Agent) (now number : ℕ) (m : Message) (next : ℕ) (rs : List Record) (css : List (List ChildConnection)) (n : ℕ) →
    map leg_in (children_at n (hear_all agent now number m next rs css).children) ≡ map leg_in (children_at n css)
unfolding hear_all pass_then
heard_legs agent now number m next [] css n = refl
heard_legs agent now number m next (r ∷ rs) [] n = refl
heard_legs agent now number m next (r ∷ rs) (xs ∷ css) zero = answer_legs agent now m r xs next
heard_legs agent now number m next (r ∷ rs) (xs ∷ css) (suc n) = heard_legs agent now (number + 1) m (answer_turn agent now m r xs next).next rs css n

-- one record and its children are put at a place
abbrev IsPut : (n k : ℕ) (rs : List Record) (css : List (List ChildConnection)) (r : Record) (xs : List ChildConnection) → Type 0
IsPut n k rs css r xs =
    (children_at k (slice_set css n xs) ≡ children_at k css) ⊎ ((k ≡ n) × (record_at k (slice_set rs n r) ≡ r) × (children_at k (slice_set css n xs) ≡ xs))

put_both : (rs : List Record) (css : List (List ChildConnection)) (n k : ℕ) (r : Record) (xs : List ChildConnection) → length css ≡ length rs → IsPut n k rs css r xs
put_both rs [] n k r xs e = inl refl
put_both [] (c ∷ css) n k r xs e = absurd (omega (arith, e))
put_both (q ∷ rs) (c ∷ css) zero zero r xs e = inr (refl, refl, refl)
put_both (q ∷ rs) (c ∷ css) zero (suc k) r xs e = inl refl
put_both (q ∷ rs) (c ∷ css) (suc n) zero r xs e = inl refl
put_both (q ∷ rs) (c ∷ css) (suc n) (suc k) r xs e = elim (put_both rs css n k r xs (omega (arith, e))) [ inl same ↦ inl same | inr put ↦ inr (ap suc put.0, put.1, put.2) ]

pushed_none : (css : List (List ChildConnection)) (n : ℕ) → children_at n (css ++ [] ∷ []) ≡ children_at n css
pushed_none [] zero = refl
pushed_none [] (suc n) = refl
pushed_none (c ∷ css) zero = refl
pushed_none (c ∷ css) (suc n) = pushed_none css n

viewed : (legs : List Leg) → map leg_in (map view_of legs) ≡ legs
viewed [] = refl
viewed (l ∷ ls) = both_same (leg_in (view_of l)) l (map leg_in (map view_of ls)) ls refl (viewed ls)

-- a reserve looks for children where there are none
path_legs : (body : Body) (xs : List ChildConnection) (legs : List Leg) → (map leg_in (with_path body xs legs) ≡ map leg_in xs) ⊎ (map leg_in (with_path body xs legs) ≡ legs)
unfolding with_path views_of
path_legs (Body.Reserve q) [] legs = inr (viewed legs)
path_legs (Body.Reserve q) (x ∷ xs) legs = inl refl
path_legs _ xs legs = inl refl

module _ (setting : Setting) where
  abbrev GoOn : AgentState → AgentStepped → Type 0
  GoOn s x = GoOnTheirWays setting.route s x.state

  asked_at : (s : AgentState) (n : ℕ) (m : Message) → length s.children ≡ length s.base.records → GoOn s (request_at setting s n m)
  unfolding request_at
  asked_at s n m even k = by_put (put_both s.base.records s.children n k t.own t.children even)
    where
      own : Record
      own = record_at n s.base.records

      legs : List Leg
      legs = setting.route own.source own.dest

      xs : List ChildConnection
      xs = children_for setting s n m

      t : Turn
      t = request_turn setting.agent s.base.now m own xs s.base.next

      later : IsLater own t.own
      later = request_later setting.agent s.base.now m own xs s.base.next

      legs_then : map leg_in t.children ≡ map leg_in xs
      legs_then = request_legs setting.agent s.base.now m own xs s.base.next

      Ends : Type 0
      Ends =
          (map leg_in (children_at k (slice_set s.children n t.children)) ≡ map leg_in (children_at k s.children))
          ⊎ (map leg_in (children_at k (slice_set s.children n t.children)) ≡ setting.route (record_at k (slice_set s.base.records n t.own)).source (record_at k (slice_set s.base.records n t.own)).dest)

      by_path : (k ≡ n) → record_at k (slice_set s.base.records n t.own) ≡ t.own → children_at k (slice_set s.children n t.children) ≡ t.children → (map leg_in xs ≡ map leg_in (children_at n s.children)) ⊎ (map leg_in xs ≡ legs) → Ends
      by_path here is its (inl e) = inl (ap (map leg_in) its ∙ (legs_then ∙ (e ∙ ap (λ z. map leg_in (children_at z s.children)) (sym here))))
      by_path here is its (inr e) =
          inr (ap (map leg_in) its ∙ (legs_then ∙ (e ∙ sym (ap (λ (r : Record). setting.route r.source r.dest) is ∙ same_points setting.route t.own.source own.source t.own.dest own.dest later.source later.dest))))

      by_put : IsPut n k s.base.records s.children t.own t.children → Ends
      by_put (inl same) = inl (ap (map leg_in) same)
      by_put (inr put) = by_path put.0 put.1 put.2 (path_legs m.body (children_at n s.children) legs)

  opened : (s : AgentState) (m : Message) (q : ReserveRequest) (o : Option (ℕ × ℕ)) → length s.children ≡ length s.base.records → GoOn s (opens_between o setting s m q)
  opened s m q None even n = inl refl
  opened s m q (Some points) even n = from_none (asked_at new (length s.base.records) m grown n)
    where
      new : AgentState
      new = with_new setting s m q points

      r : Record
      r = fresh (id_of setting.agent.number s.base.next) m.header.requester (service_of q (name_or q.source) (name_or q.dest)) points.0 points.1

      grown : length (s.children ++ [] ∷ []) ≡ length (s.base.records ++ r ∷ [])
      grown = omega (arith, even, length-append s.children ([] ∷ []), length-append s.base.records (r ∷ []))

      then : AgentState
      then = (request_at setting new (length s.base.records) m).state

      from_none : (map leg_in (children_at n then.children) ≡ map leg_in (children_at n new.children)) ⊎ (map leg_in (children_at n then.children) ≡ setting.route (record_at n then.base.records).source (record_at n then.base.records).dest) →
          (map leg_in (children_at n then.children) ≡ map leg_in (children_at n s.children)) ⊎ (map leg_in (children_at n then.children) ≡ setting.route (record_at n then.base.records).source (record_at n then.base.records).dest)
      from_none (inl e) = inl (e ∙ ap (map leg_in) (pushed_none s.children n))
      from_none (inr e) = inr e

  opens_on : (s : AgentState) (m : Message) (body : Body) → length s.children ≡ length s.base.records → GoOn s (opens body setting s m)
  opens_on s m (Body.Reserve q) even n = opened s m q (points_of setting.stp_of q) even n
  opens_on s m _ even n = inl refl

  asked_of : (s : AgentState) (m : Message) (o : Option ℕ) → length s.children ≡ length s.base.records → GoOn s (request_to o setting s m)
  asked_of s m None even k = inl refl
  asked_of s m (Some n) even k = asked_at s n m even k

  accepted : (s : AgentState) (m : Message) (o : Option ℕ) → length s.children ≡ length s.base.records → GoOn s (accepts o setting s m)
  accepted s m None even = opens_on s m m.body even
  accepted s m (Some id) even = asked_of s m (place_of id m.header.requester s.base.records) even

  answered : (s : AgentState) (m : Message) (o : Option ErrorName) → length s.children ≡ length s.base.records → GoOn s (answers o setting s m)
  unfolding answers
  answered s m (Some error) even n = inl refl
  answered s m None even n = accepted s m (connection_of m.body) even n

  -- a query changes no child
  query_opened : (waits : Bool) (s : AgentState) (n : ℕ) (m : Message) (x : Sought) → GoOn s (opens_query waits setting s n m x)
  query_opened true s n m x k = inl refl
  query_opened false s n m x k = inl refl

  asked_below : (s : AgentState) (n : ℕ) (m : Message) → GoOn s (asks_below setting s n m)
  unfolding asks_below
  asked_below s n m k =
      let x : Sought = seek setting.agent s.base.next (children_at n s.children) in
      query_opened (list_any is_asked x.parts) s n m x k

  asked_if_own : (is_own : Bool) (o : Option ℕ) (s : AgentState) (m : Message) → GoOn s (asks_if_own is_own o setting s m)
  asked_if_own true (Some n) s m k = asked_below s n m k
  asked_if_own true None s m k = inl refl
  asked_if_own false o s m k = inl refl

  queried : (is_recursive : Bool) (s : AgentState) (m : Message) → GoOn s (queries is_recursive setting s m)
  queried true s m k = asked_if_own (bytes_eq m.header.provider setting.agent.name) (place_named m s.base.records) s m k
  queried false s m k = inl refl

  served : (is_query : Bool) (s : AgentState) (m : Message) → length s.children ≡ length s.base.records → GoOn s (serves is_query setting s m)
  served true s m even n = queried (is_recursive m.body) s m n
  served false s m even n = answered s m (refusal s.base.now setting.agent.name setting.stp_of s.base.records m) even n

  received : (asks is_old : Bool) (s : AgentState) (m : Message) → length s.children ≡ length s.base.records → GoOn s (receives asks is_old setting s m)
  unfolding receives hears
  received true false s m even n = served (is_query m.body) (sees m s) m even n
  received false false s m even n = inl (heard_legs setting.agent s.base.now 0 m s.base.next s.base.records s.children n)
  received true true s m even n = inl refl
  received false true s m even n = inl refl

  stepped : (input : Input) (second : ℕ) (s : AgentState) → length s.children ≡ length s.base.records → GoOn s (step input second setting s)
  unfolding step ticks
  stepped (Input.Got m) second s even k = received (is_request m.body) (is_seen s m) s m even k
  stepped Input.Tick second s even k = inl refl
  stepped (Input.Acked i) second s even k = inl refl
  stepped (Input.Work n machine) second s even k = inl refl
  stepped (Input.Force n) second s even k = inl refl
  stepped (Input.Ask n a) second s even k = inl refl

  gone_on : (s : AgentState) (e : Entry) → length s.children ≡ length s.base.records → GoOn s (after setting s e)
  unfolding after
  gone_on s e even = by_may (may_take s e)
    where
      by_may : (b : Bool) → GoOn s (after_if b setting s e)
      by_may false n = inl refl
      by_may true n = stepped e.input e.second s even n

  ---- An entry

  no_legs : (xs : List ChildConnection) → map leg_in xs ≡ [] → xs ≡ []
  no_legs [] e = refl
  no_legs (x ∷ xs) e = absurd (cc)

  -- beyond the records there are no children
  beyond : (rs : List Record) (css : List (List ChildConnection)) (n : ℕ) → length css ≡ length rs → slice_get rs n ≡ None → children_at n css ≡ []
  beyond rs [] n e g = refl
  beyond [] (c ∷ css) n e g = absurd (omega (arith, e))
  beyond (r ∷ rs) (c ∷ css) zero e g = absurd (cc)
  beyond (r ∷ rs) (c ∷ css) (suc n) e g = beyond rs css n (omega (arith, e)) g

  entries_keep_ways : (s : AgentState) (e : Entry) → length s.children ≡ length s.base.records → AreOnTheirWays setting.route s → AreOnTheirWays setting.route (after setting s e).state
  entries_keep_ways s e even ways n = by_legs (gone_on s e even n) (ways n)
    where
      q : AgentState
      q = (after setting s e).state

      none : children_at n s.children ≡ [] → map leg_in (children_at n q.children) ≡ map leg_in (children_at n s.children) → children_at n q.children ≡ []
      none e same = no_legs (children_at n q.children) (same ∙ ap (map leg_in) e)

      by_record : (o : Option Record) → slice_get s.base.records n ≡ o → map leg_in (children_at n q.children) ≡ map leg_in (children_at n s.children) →
          map leg_in (children_at n s.children) ≡ setting.route (record_at n s.base.records).source (record_at n s.base.records).dest → IsOnItsWay setting.route (record_at n q.base.records) (children_at n q.children)
      by_record None there same way = inl (none (beyond s.base.records s.children n even there) same)
      by_record (Some r) there same way =
          let (next, at, later) = (aggregator_grows setting s e).records n r there in
          inr (same ∙ (way ∙ (ap (λ (z : Record). setting.route z.source z.dest) (get_or_from_slice_get s.base.records n r no_record there)
          ∙ (sym (same_points setting.route next.source r.source next.dest r.dest later.source later.dest) ∙ sym (ap (λ (z : Record). setting.route z.source z.dest) (get_or_from_slice_get q.base.records n next no_record at))))))

      by_legs : (map leg_in (children_at n q.children) ≡ map leg_in (children_at n s.children)) ⊎ (map leg_in (children_at n q.children) ≡ setting.route (record_at n q.base.records).source (record_at n q.base.records).dest) →
          IsOnItsWay setting.route (record_at n s.base.records) (children_at n s.children) → IsOnItsWay setting.route (record_at n q.base.records) (children_at n q.children)
      by_legs (inr way) before = inr way
      by_legs (inl same) (inl e) = inl (none e same)
      by_legs (inl same) (inr way) = by_record (slice_get s.base.records n) refl same way

---- Entries

abbrev KeepsWays : Role → Route → Type 0
KeepsWays role route = (s : AgentState) (e : Entry) → IsEven role s → AreOnTheirWays route s → AreOnTheirWays route (after_as role s e).state

aggregator_keeps : (setting : Setting) → KeepsWays (aggregates setting) setting.route
unfolding after_as
aggregator_keeps setting s e even ways = entries_keep_ways setting s e even ways

keeps : (role : Role) (setting : Setting) → role ≡ aggregates setting → KeepsWays role setting.route
keeps role setting e = subst (λ (r : Role). KeepsWays r setting.route) (sym e) (aggregator_keeps setting)

ways_from : (h : Home) (setting : Setting) → h.role ≡ aggregates setting → (es : List Entry) (s : AgentState) → IsEven h.role s → AreOnTheirWays setting.route s → AreOnTheirWays setting.route (goes_on h s es).state
unfolding goes_on
ways_from h setting role [] s even ways = ways
ways_from h setting role (e ∷ es) s even ways =
    ways_from h setting role es (any_after h s e).state (entries_keep_even h s e even) (keeps h.role setting role s e even ways)

-- whatever entries an aggregator has taken
pub ways_told : (h : Home) (setting : Setting) → h.role ≡ aggregates setting → (es : List Entry) → AreOnTheirWays setting.route (told h es).state
ways_told h setting role es = ways_from h setting role es blank_agent (blank_is_even h) (λ n. inl refl)

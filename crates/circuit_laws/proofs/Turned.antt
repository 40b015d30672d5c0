-- What becomes of each connection of an aggregator in an entry: nothing, or its views hear a message, or it takes a request.
use Rattle.std.proofs.Common.{ℕ, zero, suc, ◌≡◌, ◌∙◌, ◌<◌, ◌+◌, ◌⊎◌, inl, inr, Bool, true, false, List, [], ◌∷◌, ◌++◌, length, length-append, get_or, get_or-set_same, get_or-set_other, Contains, Option, Some, None, refl, sym, ap, subst, arith, bytes_eq}
use Rattle.std.specs.List.{list_any}
use Rattle.std.proofs.lemmas.Bool.{cases_eq}
use Rattle.std.proofs.lemmas.List.Elements.{Contains-append_left, Contains-append_right}
use Rattle.nsi_primitive.specs.Ids.{id_of}
use Rattle.nsi_primitive.specs.Messages.{connection_of, is_request, is_query}
use Rattle.nsi_primitive.specs.declared.entry.Entry.{Entry}
use Rattle.nsi_primitive.specs.declared.entry.Input.{Input}
use Rattle.nsi_primitive.specs.declared.kind.ErrorName.{ErrorName}
use Rattle.nsi_primitive.specs.declared.message.Body.{Body}
use Rattle.nsi_primitive.specs.declared.message.Message.{Message}
use Rattle.nsi_primitive.specs.declared.message.ReserveRequest.{ReserveRequest}
use Rattle.message_retry.specs.Retry.{saw}
use Rattle.record_index.proofs.Members.{nothing_in}
use Rattle.connection_record.specs.declared.record.Record.{Record}
use Rattle.connection_record.specs.Moves.{fresh, service_of, is_live}
use Rattle.connection_record.specs.Refusal.{record_refusal, refusal, points_of}
use Rattle.child_connection.specs.Views.{ChildConnection}
use Rattle.agent_state.specs.declared.parent.Due.{Due}
use Rattle.agent_state.specs.declared.parent.Leg.{Leg}
use Rattle.agent_state.specs.Entries.{is_recursive}
use Rattle.agent_state.specs.State.{AgentState, AgentStepped, no_record, record_at, children_at, name_or, stays}
use Rattle.aggregator_agent.specs.declared.agent.Agent.{Agent}
use Rattle.aggregator_agent.specs.Asking.{Turn, with_path}
use Rattle.aggregator_agent.specs.Below.{Sought, is_asked, seek}
use Rattle.aggregator_agent.specs.Clock.{Told, tells_late, tell_one, tell_all, is_late_of, ends, clocked, clock_then, clock_all}
use Rattle.aggregator_agent.specs.Setting.{Setting}
use Rattle.aggregator_agent.specs.Steps.{sees, is_seen, children_for, request_at, with_new, opens_between, opens, request_to, accepts, answers, Passed, pass_then, hear_all, hears, opens_query, asks_below, asks_if_own, place_named, queries, receives, ticks, step, after_if, after, may_take, serves}
use Rattle.aggregator_agent.specs.Turns.{request_turn, answer_turn, spoken}
use Rattle.circuit_link.proofs.Opening.{last_here, last_there}
use Rattle.circuit_link.proofs.Requests.{found_by}
use Rattle.circuit_fit.proofs.Owning.{IsAsBefore, as_itself, as_then, lives_if_as}
use Rattle.circuit_fit.proofs.Turning.{spoken_asked}

---- One connection

-- a connection's record, its views and what it asked of their children are those of a turn
pub record IsTurn (t : Turn) (r : Record) (xs : List ChildConnection) (ms : List Message) : Type 0 where
  pub own : r ≡ t.own
  pub views : xs ≡ t.children
  pub asked : ms ≡ t.asked

turn_itself : (t : Turn) → IsTurn t t.own t.children t.asked
turn_itself t = record { own = refl; views = refl; asked = refl }

-- Its reservation and its views rest; or its views hear a message; or it takes a request, and a reserve looks for children where there are none; or a
-- first reserve opens it.
pub data Turned (agent : Agent) (input : Input) (own : Record) (xs : List ChildConnection) (own' : Record) (ys : List ChildConnection) (asked : List Message) : Type 0 where
  by_rest : IsAsBefore own own' → ys ≡ xs → asked ≡ [] → Turned agent input own xs own' ys asked
  by_answer : (m : Message) (now next : ℕ) → input ≡ Input.Got m → IsTurn (answer_turn agent now m own xs next) own' ys asked → Turned agent input own xs own' ys asked
  by_request : (m : Message) (now next : ℕ) (legs : List Leg) → input ≡ Input.Got m → record_refusal now m.body own ≡ None →
      IsTurn (request_turn agent now m own (with_path m.body xs legs) next) own' ys asked → Turned agent input own xs own' ys asked
  by_opening : (m : Message) (q : ReserveRequest) (now next id source dest : ℕ) (legs : List Leg) → input ≡ Input.Got m → m.body ≡ Body.Reserve q → own ≡ no_record → xs ≡ [] →
      IsTurn (request_turn agent now m (fresh id m.header.requester (service_of q (name_or q.source) (name_or q.dest)) source dest) (with_path m.body [] legs) next) own' ys asked → Turned agent input own xs own' ys asked

---- All connections

-- what became of each, and that what it asked was said
pub record AreTurned (agent : Agent) (input : Input) (rs : List Record) (css : List (List ChildConnection)) (rs' : List Record) (css' : List (List ChildConnection)) (out : List Message) : Type 0 where
  pub more : ℕ → List Message
  pub each : (n : ℕ) → Turned agent input (record_at n rs) (children_at n css) (record_at n rs') (children_at n css') (more n)
  pub said : (n : ℕ) (m : Message) → Contains (more n) m → Contains out m

beyond : {X : Type 0} (xs : List X) (d : X) (n : ℕ) → (n < length xs → ⊥) → get_or xs n d ≡ d
beyond [] d n f = refl
beyond (x ∷ xs) d zero f = absurd (f (omega arith))
beyond (x ∷ xs) d (suc n) f = beyond xs d n (λ l. f (omega (arith, l)))

module _ (agent : Agent) (input : Input) where
  rest_turned : (rs rs' : List Record) (css css' : List (List ChildConnection)) (out : List Message) → ((n : ℕ) → IsAsBefore (record_at n rs) (record_at n rs')) → css' ≡ css → AreTurned agent input rs css rs' css' out
  rest_turned rs rs' css css' out a e = record { more = λ n. []; each = λ n. Turned.by_rest (a n) (ap (children_at n) e) refl; said = λ n m i. absurd (nothing_in m i) }

  beside_turned : (rs rs' : List Record) (css css' : List (List ChildConnection)) (out more : List Message) → AreTurned agent input rs css rs' css' out → AreTurned agent input rs css rs' css' (out ++ more)
  beside_turned rs rs' css css' out more t = record { more = t.more; each = t.each; said = λ n m i. Contains-append_left out more m (t.said n m i) }

  -- the first of all, and those behind it
  more_turned : (r r' : Record) (xs xs' : List ChildConnection) (mine front : List Message) (rs rs' : List Record) (css css' : List (List ChildConnection)) (out : List Message) →
      Turned agent input r xs r' xs' mine → ((m : Message) → Contains mine m → Contains front m) → AreTurned agent input rs css rs' css' out → AreTurned agent input (r ∷ rs) (xs ∷ css) (r' ∷ rs') (xs' ∷ css') (front ++ out)
  more_turned r r' xs xs' mine front rs rs' css css' out turn said rest = record { more = more; each = each; said = says }
    where
      more : ℕ → List Message
      more zero = mine
      more (suc n) = rest.more n

      each : (n : ℕ) → Turned agent input (record_at n (r ∷ rs)) (children_at n (xs ∷ css)) (record_at n (r' ∷ rs')) (children_at n (xs' ∷ css')) (more n)
      each zero = turn
      each (suc n) = rest.each n

      says : (n : ℕ) (m : Message) → Contains (more n) m → Contains (front ++ out) m
      says zero m i = Contains-append_left front out m (said m i)
      says (suc n) m i = Contains-append_right front out m (rest.said n m i)

  -- one connection takes a turn, and the others rest
  placed_turned : (rs rs' : List Record) (css css' : List (List ChildConnection)) (n : ℕ) (mine front : List Message) → ((k : ℕ) → (k ≡ n → ⊥) → (record_at k rs' ≡ record_at k rs) × (children_at k css' ≡ children_at k css)) →
      Turned agent input (record_at n rs) (children_at n css) (record_at n rs') (children_at n css') mine → ((m : Message) → Contains mine m → Contains front m) → AreTurned agent input rs css rs' css' front
  placed_turned rs rs' css css' n mine front others turn said =
      record { more = λ k. more k (cases_eq k n); each = λ k. each k (cases_eq k n); said = λ k. says k (cases_eq k n) }
    where
      more : (k : ℕ) → (k ≡ n) ⊎ (k ≡ n → ⊥) → List Message
      more k (inl e) = mine
      more k (inr e) = []

      each : (k : ℕ) (w : (k ≡ n) ⊎ (k ≡ n → ⊥)) → Turned agent input (record_at k rs) (children_at k css) (record_at k rs') (children_at k css') (more k w)
      each k (inl e) = subst (λ j. Turned agent input (record_at j rs) (children_at j css) (record_at j rs') (children_at j css') mine) (sym e) turn
      each k (inr e) =
          let w = others k e in
          Turned.by_rest (subst (IsAsBefore (record_at k rs)) (sym w.0) (as_itself (record_at k rs))) w.1 refl

      says : (k : ℕ) (w : (k ≡ n) ⊎ (k ≡ n → ⊥)) (m : Message) → Contains (more k w) m → Contains front m
      says k (inl e) m i = said m i
      says k (inr e) m i = absurd (nothing_in m i)

---- A message of a child

heard_turned : (agent : Agent) (now : ℕ) (m : Message) (number next : ℕ) (rs : List Record) (css : List (List ChildConnection)) →
    AreTurned agent (Input.Got m) rs css (hear_all agent now number m next rs css).records (hear_all agent now number m next rs css).children (hear_all agent now number m next rs css).out
unfolding hear_all pass_then
heard_turned agent now m number next [] css = rest_turned agent (Input.Got m) [] [] css css [] (λ n. as_itself (record_at n [])) refl
heard_turned agent now m number next (r ∷ rs) [] = rest_turned agent (Input.Got m) (r ∷ rs) (r ∷ rs) [] [] [] (λ n. as_itself (record_at n (r ∷ rs))) refl
heard_turned agent now m number next (r ∷ rs) (xs ∷ css) =
    let t : Turn = answer_turn agent now m r xs next in
    more_turned agent (Input.Got m) r t.own xs t.children t.asked (spoken agent t) rs _ css _ _ (Turned.by_answer m now next refl (turn_itself t)) (spoken_asked agent t) (heard_turned agent now m (number + 1) t.next rs css)

---- Time

late_as : (d c now : ℕ) (own : Record) → IsAsBefore own (tells_late d c now own).rec
unfolding tells_late
late_as d c now own = record { committed = refl; rsm = refl; pending = refl; mixed = refl; lives = λ h. h }

one_as : (b : Bool) (agent : Agent) (now next : ℕ) (own : Record) (d : Due) (rest : Record → ℕ → Told) → ((r : Record) (k : ℕ) → IsAsBefore r (rest r k).own) → IsAsBefore own (tell_one b agent now next own d rest).own
unfolding tell_one
one_as false agent now next own d rest h = h own next
one_as true agent now next own d rest h =
    let q : Record = (tells_late d.correlation _ now own).rec in
    as_then own q (rest q (next + 1)).own (late_as d.correlation _ now own) (h q (next + 1))

all_as : (ds : List Due) (agent : Agent) (now number : ℕ) (waiting : List Message) (own : Record) (next : ℕ) → IsAsBefore own (tell_all ds agent now number waiting own next).own
unfolding tell_all
all_as [] agent now number waiting own next = as_itself own
all_as (d ∷ ds) agent now number waiting own next =
    one_as (is_late_of number now waiting d) agent now next own d (λ r k. tell_all ds agent now number waiting r k) (λ r k. all_as ds agent now number waiting r k)

ends_as : (b : Bool) (now : ℕ) (own : Record) → IsAsBefore own (ends b now own).rec
unfolding ends
ends_as true now own = lives_if_as _ now own
ends_as false now own = as_itself own

clocked_as : (agent : Agent) (now number : ℕ) (ds : List Due) (waiting : List Message) (own : Record) (next : ℕ) → IsAsBefore own (clocked agent now number ds waiting own next).own
unfolding clocked
clocked_as agent now number ds waiting own next =
    let q : Record = (ends (is_live own.lsm) now own).rec in
    as_then own q (tell_all ds agent now number waiting q next).own (ends_as (is_live own.lsm) now own) (all_as ds agent now number waiting q next)

clock_as : (agent : Agent) (now number : ℕ) (ds : List Due) (waiting : List Message) (next : ℕ) (rs : List Record) (n : ℕ) → IsAsBefore (record_at n rs) (record_at n (clock_all agent now number ds waiting next rs).records)
unfolding clock_all clock_then
clock_as agent now number ds waiting next [] n = as_itself (record_at n [])
clock_as agent now number ds waiting next (r ∷ rs) zero = clocked_as agent now number ds waiting r next
clock_as agent now number ds waiting next (r ∷ rs) (suc n) = clock_as agent now (number + 1) ds waiting (clocked agent now number ds waiting r next).next rs n

---- A request

module _ (setting : Setting) (s : AgentState) (m : Message) (even : length s.children ≡ length s.base.records) where
  abbrev Does : AgentStepped → Type 0
  Does x = AreTurned setting.agent (Input.Got m) s.base.records s.children x.state.base.records x.state.children x.out

  still : (out : List Message) → AreTurned setting.agent (Input.Got m) s.base.records s.children s.base.records s.children out
  still out = rest_turned setting.agent (Input.Got m) s.base.records s.base.records s.children s.children out (λ n. as_itself (record_at n s.base.records)) refl

  at_turned : (n : ℕ) → n < length s.base.records → record_refusal s.base.now m.body (record_at n s.base.records) ≡ None → Does (request_at setting s n m)
  unfolding request_at
  at_turned n l fine =
      placed_turned setting.agent (Input.Got m) s.base.records _ s.children _ n t.asked (spoken setting.agent t)
      (λ k a. (get_or-set_other s.base.records n k t.own no_record a, get_or-set_other s.children n k t.children [] a))
      (Turned.by_request m s.base.now s.base.next legs refl fine
      (record { own = get_or-set_same s.base.records n t.own no_record l; views = get_or-set_same s.children n t.children [] (omega (arith, l, even)); asked = refl }))
      (spoken_asked setting.agent t)
    where
      own : Record
      own = record_at n s.base.records

      legs : List Leg
      legs = setting.route own.source own.dest

      t : Turn
      t = request_turn setting.agent s.base.now m own (children_for setting s n m) s.base.next

  opened : (q : ReserveRequest) (points : ℕ × ℕ) → m.body ≡ Body.Reserve q → Does (request_at setting (with_new setting s m q points) (length s.base.records) m)
  unfolding request_at
  opened q points e =
      placed_turned setting.agent (Input.Got m) s.base.records _ s.children _ n t.asked (spoken setting.agent t)
      (λ k a. (
        get_or-set_other (s.base.records ++ new ∷ []) n k t.own no_record a ∙ last_there s.base.records new no_record k a,
        get_or-set_other (s.children ++ none ∷ []) n k t.children [] a ∙ last_there s.children none [] k (λ w. a (w ∙ even)),
      ))
      (Turned.by_opening m q s.base.now w.base.next (id_of setting.agent.number s.base.next) points.0 points.1 legs refl e (beyond s.base.records no_record n (λ l. omega (arith, l))) (beyond s.children [] n (λ l. omega (arith, l, even)))
      (record {
        own = get_or-set_same (s.base.records ++ new ∷ []) n t.own no_record (omega (arith, length-append s.base.records (new ∷ []))) ∙ ap (λ (z : Turn). z.own) same;
        views = get_or-set_same (s.children ++ none ∷ []) n t.children [] (omega (arith, length-append s.children (none ∷ []), even)) ∙ ap (λ (z : Turn). z.children) same;
        asked = ap (λ (z : Turn). z.asked) same;
      }))
      (spoken_asked setting.agent t)
    where
      n : ℕ
      n = length s.base.records

      w : AgentState
      w = with_new setting s m q points

      new : Record
      new = fresh (id_of setting.agent.number s.base.next) m.header.requester (service_of q (name_or q.source) (name_or q.dest)) points.0 points.1

      none : List ChildConnection
      none = []

      own : Record
      own = record_at n (s.base.records ++ new ∷ [])

      legs : List Leg
      legs = setting.route own.source own.dest

      t : Turn
      t = request_turn setting.agent s.base.now m own (children_for setting w n m) w.base.next

      no_views : children_at n (s.children ++ none ∷ []) ≡ none
      no_views = ap (λ k. get_or (s.children ++ none ∷ []) k []) (sym even) ∙ last_here s.children none []

      same : t ≡ request_turn setting.agent s.base.now m new (with_path m.body none legs) w.base.next
      same =
          ap (λ (r : Record). request_turn setting.agent s.base.now m r (children_for setting w n m) w.base.next) (last_here s.base.records new no_record)
          ∙ ap (λ (zs : List ChildConnection). request_turn setting.agent s.base.now m new (with_path m.body zs legs) w.base.next) no_views

  between : (q : ReserveRequest) (o : Option (ℕ × ℕ)) → m.body ≡ Body.Reserve q → Does (opens_between o setting s m q)
  between q None e = still []
  between q (Some points) e = opened q points e

  opening : (body : Body) → m.body ≡ body → Does (opens body setting s m)
  opening (Body.Reserve q) e = between q (points_of setting.stp_of q) e
  opening _ e = still []

  accepting : (o : Option ℕ) → connection_of m.body ≡ o → refusal s.base.now setting.agent.name setting.stp_of s.base.records m ≡ None → Does (accepts o setting s m)
  accepting None e r = opening m.body refl
  accepting (Some id) e r =
      let f = found_by s.base.now setting.agent.name setting.stp_of m id (record { records = s.base.records; seen = []; said = [] }) e r in
      subst (λ o. Does (request_to o setting s m)) (sym f.found) (at_turned f.place f.about.within f.about.unrefused)

  answering : (o : Option ErrorName) → refusal s.base.now setting.agent.name setting.stp_of s.base.records m ≡ o → Does (answers o setting s m)
  unfolding answers
  answering (Some error) r = still _
  answering None r = accepting (connection_of m.body) refl r

  opening_query : (n : ℕ) (x : Sought) (b : Bool) → Does (opens_query b setting s n m x)
  opening_query n x true = still _
  opening_query n x false = still _

  asking_below : (n : ℕ) → Does (asks_below setting s n m)
  unfolding asks_below
  asking_below n =
      let x : Sought = seek setting.agent s.base.next (children_at n s.children) in
      opening_query n x (list_any is_asked x.parts)

  telling_below : (b : Bool) (o : Option ℕ) → Does (asks_if_own b o setting s m)
  telling_below true (Some n) = asking_below n
  telling_below true None = still _
  telling_below false o = still _

  querying : (b : Bool) → Does (queries b setting s m)
  querying true = telling_below (bytes_eq m.header.provider setting.agent.name) (place_named m s.base.records)
  querying false = still _

  serving : (b : Bool) → Does (serves b setting s m)
  serving true = querying (is_recursive m.body)
  serving false = answering (refusal s.base.now setting.agent.name setting.stp_of s.base.records m) refl

---- Any entry

module _ (setting : Setting) (s : AgentState) (even : length s.children ≡ length s.base.records) where
  abbrev pub Entered : Input → AgentStepped → Type 0
  Entered input x = AreTurned setting.agent input s.base.records s.children x.state.base.records x.state.children x.out

  resting : (input : Input) → Entered input (stays s)
  resting input = rest_turned setting.agent input s.base.records s.base.records s.children s.children [] (λ n. as_itself (record_at n s.base.records)) refl

  hearing : (m : Message) → Entered (Input.Got m) (hears setting (sees m s) m)
  unfolding hears saw
  hearing m =
      let p : Passed = hear_all setting.agent (sees m s).base.now 0 m (sees m s).base.next s.base.records s.children in
      beside_turned setting.agent (Input.Got m) s.base.records p.records s.children p.children p.out _ (heard_turned setting.agent (sees m s).base.now m 0 (sees m s).base.next s.base.records s.children)

  receiving : (m : Message) (a b : Bool) → Entered (Input.Got m) (receives a b setting s m)
  unfolding receives saw
  receiving m true false = serving setting (sees m s) m even (is_query m.body)
  receiving m false false = hearing m
  receiving m true true = resting (Input.Got m)
  receiving m false true = resting (Input.Got m)

  ticking : (now : ℕ) → Entered Input.Tick (ticks setting now s)
  unfolding ticks
  ticking now = rest_turned setting.agent Input.Tick s.base.records _ s.children s.children _ (λ n. clock_as setting.agent now 0 s.dues s.base.waiting s.base.next s.base.records n) refl

  stepping : (input : Input) (second : ℕ) → Entered input (step input second setting s)
  unfolding step
  stepping (Input.Got m) second = receiving m (is_request m.body) (is_seen s m)
  stepping Input.Tick second = ticking second
  stepping (Input.Acked i) second = rest_turned setting.agent (Input.Acked i) s.base.records _ s.children _ [] (λ n. as_itself (record_at n s.base.records)) refl
  stepping (Input.Work n machine) second = resting (Input.Work n machine)
  stepping (Input.Force n) second = resting (Input.Force n)
  stepping (Input.Ask n ask) second = resting (Input.Ask n ask)

  pub entered : (e : Entry) → Entered e.input (after setting s e)
  unfolding after
  entered e = by_test (may_take s e)
    where
      by_test : (b : Bool) → Entered e.input (after_if b setting s e)
      by_test true = stepping e.input e.second
      by_test false = resting e.input

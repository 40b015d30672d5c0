-- Each entry of an aggregator keeps its connections fit, and asks to terminate for connections alone that don't live.
use Rattle.std.proofs.Common.{ℕ, zero, suc, ◌≡◌, ◌∙◌, ◌<◌, ◌+◌, Bool, true, false, List, [], ◌∷◌, ◌++◌, ◌⊎◌, inl, inr, map, length, get_or, length-append, get_or-set_same, get_or-set_other, Contains, Option, Some, None, refl, sym, ap, subst, arith, bytes_eq}
use Rattle.std.specs.List.{All, list_any}
use Rattle.std.proofs.lemmas.Bool.{cases_eq}
use Rattle.std.proofs.lemmas.List.Elements.{All-nil, All-map, Contains-append_left, Contains-append_right, Contains-append_cases}
use Rattle.nsi_primitive.specs.Ids.{id_of}
use Rattle.nsi_primitive.specs.Messages.{connection_of, is_request, is_query}
use Rattle.nsi_primitive.specs.declared.entry.Entry.{Entry}
use Rattle.nsi_primitive.specs.declared.entry.Input.{Input}
use Rattle.nsi_primitive.specs.declared.kind.ErrorName.{ErrorName}
use Rattle.nsi_primitive.specs.declared.message.Body.{Body}
use Rattle.nsi_primitive.specs.declared.message.Message.{Message}
use Rattle.nsi_primitive.specs.declared.message.ReserveRequest.{ReserveRequest}
use Rattle.nsi_primitive.specs.declared.message.Service.{Service}
use Rattle.nsi_primitive.specs.declared.state.Rsm.{Rsm}
use Rattle.message_retry.specs.Retry.{saw}
use Rattle.record_index.proofs.Members.{nothing_in}
use Rattle.connection_record.specs.declared.record.Record.{Record}
use Rattle.connection_record.specs.Demand.{holds_pending}
use Rattle.connection_record.specs.Moves.{asked_criteria, fresh, service_of, is_live}
use Rattle.connection_record.specs.Refusal.{record_refusal, refusal, points_of}
use Rattle.connection_record.specs.Replies.{addressed}
use Rattle.connection_record.specs.Speaking.{tally, asks_for}
use Rattle.connection_record.proofs.Unrefused.{unrefused_fits, reserve_row}
use Rattle.child_connection.specs.Views.{ChildConnection}
use Rattle.agent_state.specs.declared.parent.Due.{Due}
use Rattle.agent_state.specs.declared.parent.Leg.{Leg}
use Rattle.agent_state.specs.declared.parent.OpenQuery.{OpenQuery}
use Rattle.agent_state.specs.Entries.{is_recursive, error_reply, query_reply}
use Rattle.agent_state.specs.State.{AgentState, AgentStepped, no_record, record_at, children_at, name_or, stays, sends}
use Rattle.aggregator_agent.specs.declared.agent.Agent.{Agent}
use Rattle.aggregator_agent.specs.Asking.{Turn, with_path, view_of, views_of}
use Rattle.aggregator_agent.specs.Below.{is_asked, nested_reply, Sought, seek, opened as query_opened, hear_below}
use Rattle.aggregator_agent.specs.Clock.{Told, tells_late, tell_one, tell_all, is_late_of, ends, clocked, clock_then, clock_all}
use Rattle.aggregator_agent.specs.Setting.{Setting}
use Rattle.aggregator_agent.specs.Settling.{is_held}
use Rattle.aggregator_agent.specs.Steps.{sees, is_seen, children_for, request_at, with_new, opens_between, opens, request_to, accepts, answers, Passed, pass_then, hear_all, hears, opens_query, asks_below, asks_if_own, place_named, queries, receives, ticks, acknowledged, step, after_if, after, may_take, serves}
use Rattle.aggregator_agent.specs.Turns.{takes, request_turn, answer_turn, spoken}
use Rattle.circuit_link.proofs.Aggregators.{request_from, answer_from, clocked_course}
use Rattle.circuit_link.proofs.Answering.{only_one}
use Rattle.circuit_link.proofs.Below.{all_asked_below, all_said_below}
use Rattle.circuit_link.proofs.Opening.{last_here, last_there}
use Rattle.circuit_link.proofs.Requests.{found_by, first_by, reserve_unnamed}
use Rattle.circuit_pairs.proofs.Overseeing.{turn_asks}
use Rattle.circuit_pairs.proofs.Plain.{addressed_asks, course_asks}
use Rattle.connection_record.proofs.Saying.{takes_speaks}
use Rattle.nsi_primitive.specs.declared.state.Side.{Side}
use Rattle.circuit_fit.specs.Fits.{pending_of, IsFitting, IsHonest, IsKnown, Fits, IsEnding, AllEnd}
use Rattle.circuit_fit.proofs.Owning.{IsAsBefore, as_itself, as_then, lives_if_as}
use Rattle.circuit_fit.proofs.Turning.{taken_fits, first_fits, spoken_asked}
use Rattle.circuit_fit.specs.Laws.{EntriesKeepTheFit, EntriesKeepTheEnded}
use Rattle.circuit_fit.proofs.Ending.{dead_then, IsTurned, Anything, rests_turned, answer_turned, request_turned}
use Rattle.aggregator_agent.specs.Queries.{answer_to}
use Rattle.aggregator_agent.proofs.Queried.{reply_asks_nothing}
use Rattle.std.proofs.lemmas.Bool.{false≢true}

---- Lists side by side

beyond : {X : Type 0} (xs : List X) (d : X) (n : ℕ) → (n < length xs → ⊥) → get_or xs n d ≡ d
beyond [] d n f = refl
beyond (x ∷ xs) d zero f = absurd (f (omega arith))
beyond (x ∷ xs) d (suc n) f = beyond xs d n (λ l. f (omega (arith, l)))

-- only requests to children ask to terminate
terminate_asks : (m : Message) (id : ℕ) → m.body ≡ Body.Terminate id → is_request m.body ≡ true
terminate_asks m id e = ap is_request e

-- what became of the connections in an entry: each took a turn, or rested; what was asked is said, and nobody else asks to terminate
pub record HasTurned (parent : List ℕ) (honest : ℕ → List Message → Type 0) (rs : List Record) (css : List (List ChildConnection)) (rs' : List Record) (css' : List (List ChildConnection)) (out : List Message) : Type 0 where
  pub more : ℕ → List Message
  pub each : (n : ℕ) → IsTurned parent (honest n) (record_at n rs) (children_at n css) (record_at n rs') (children_at n css') (more n)
  pub said : (n : ℕ) (m : Message) → Contains (more n) m → Contains out m
  pub only : (m : Message) (id : ℕ) → Contains out m → m.body ≡ Body.Terminate id → (n : ℕ) × Contains (more n) m

-- nothing that is said asks to terminate
abbrev EndsNothing : List Message → Type 0
EndsNothing out = (m : Message) (id : ℕ) → Contains out m → m.body ≡ Body.Terminate id → ⊥

none_ends : EndsNothing []
none_ends m id i e = nothing_in m i

one_ends : (m : Message) → is_request m.body ≡ false → EndsNothing (m ∷ [])
one_ends m q z id i e = false≢true (sym q ∙ ap (λ (y : Message). is_request y.body) (sym (only_one m z i)) ∙ terminate_asks z id e)

both_end : (xs ys : List Message) → EndsNothing xs → EndsNothing ys → EndsNothing (xs ++ ys)
both_end xs ys a b m id i e = elim (Contains-append_cases xs ys m i) [ inl j ↦ a m id j e | inr j ↦ b m id j e ]

-- neither do queries about what is below, nor what answers them
below_ends : (agent : Agent) (next : ℕ) (xs : List ChildConnection) → EndsNothing (seek agent next xs).asked
below_ends agent next xs m id i e = all_asked_below (λ z. (id : ℕ) → z.body ≡ Body.Terminate id → ⊥) agent (λ c k x n w. absurd (cc)) next xs m i id e

answers_end : (agent : List ℕ) (records : List Record) (a : Message) (qs : List OpenQuery) → EndsNothing (hear_below agent records a qs).out
answers_end agent records a qs m id i e = all_said_below (λ z. (id : ℕ) → z.body ≡ Body.Terminate id → ⊥) agent (λ own q n w. absurd (cc)) records a qs m i id e

-- all rest, and nothing that is said asks to terminate
rest_turned : (parent : List ℕ) (honest : ℕ → List Message → Type 0) (rs rs' : List Record) (css css' : List (List ChildConnection)) (out : List Message) → ((n : ℕ) → IsAsBefore (record_at n rs) (record_at n rs')) → css' ≡ css →
    EndsNothing out → HasTurned parent honest rs css rs' css' out
rest_turned parent honest rs rs' css css' out a e quiet =
    record {
      more = λ n. [];
      each = λ n.
          subst (λ zs. IsTurned parent (honest n) (record_at n rs) (children_at n css) (record_at n rs') (children_at n zs) []) (sym e)
          (rests_turned parent (honest n) (record_at n rs) (record_at n rs') (children_at n css) (a n));
      said = λ n m i. absurd (nothing_in m i);
      only = λ m id i e. absurd (quiet m id i e);
    }

-- what asks nobody to terminate is said behind
beside_turned : (parent : List ℕ) (honest : ℕ → List Message → Type 0) (rs rs' : List Record) (css css' : List (List ChildConnection)) (out more : List Message) → EndsNothing more → HasTurned parent honest rs css rs' css' out →
    HasTurned parent honest rs css rs' css' (out ++ more)
beside_turned parent honest rs rs' css css' out more none t =
    record { more = t.more; each = t.each; said = λ n m i. Contains-append_left out more m (t.said n m i); only = λ m id i e. only m id e (Contains-append_cases out more m i) }
  where
    only : (m : Message) (id : ℕ) → m.body ≡ Body.Terminate id → Contains out m ⊎ Contains more m → (n : ℕ) × Contains (t.more n) m
    only m id e (inl i) = t.only m id i e
    only m id e (inr i) = absurd (none m id i e)

-- the first of all, and those behind it
more_turned : (parent : List ℕ) (honest : ℕ → List Message → Type 0) (r r' : Record) (xs xs' : List ChildConnection) (mine front : List Message) (rs rs' : List Record) (css css' : List (List ChildConnection)) (out : List Message) →
    IsTurned parent (honest 0) r xs r' xs' mine → ((m : Message) → Contains mine m → Contains front m) → ((m : Message) (id : ℕ) → Contains front m → m.body ≡ Body.Terminate id → Contains mine m) →
    HasTurned parent (λ n. honest (suc n)) rs css rs' css' out → HasTurned parent honest (r ∷ rs) (xs ∷ css) (r' ∷ rs') (xs' ∷ css') (front ++ out)
more_turned parent honest r r' xs xs' mine front rs rs' css css' out turn said only rest =
    record { more = more; each = each; said = says; only = λ m id i e. onlies m id e (Contains-append_cases front out m i) }
  where
    more : ℕ → List Message
    more zero = mine
    more (suc n) = rest.more n

    each : (n : ℕ) → IsTurned parent (honest n) (record_at n (r ∷ rs)) (children_at n (xs ∷ css)) (record_at n (r' ∷ rs')) (children_at n (xs' ∷ css')) (more n)
    each zero = turn
    each (suc n) = rest.each n

    says : (n : ℕ) (m : Message) → Contains (more n) m → Contains (front ++ out) m
    says zero m i = Contains-append_left front out m (said m i)
    says (suc n) m i = Contains-append_right front out m (rest.said n m i)

    onlies : (m : Message) (id : ℕ) → m.body ≡ Body.Terminate id → Contains front m ⊎ Contains out m → (n : ℕ) × Contains (more n) m
    onlies m id e (inl i) = (zero, only m id i e)
    onlies m id e (inr i) = let w = rest.only m id i e in (suc w.0, w.1)

---- A turn says to children what it asks of them

spoken_only : (agent : Agent) (t : Turn) → tally asks_for t.replies ≡ 0 → tally asks_for t.notices ≡ 0 → (m : Message) (id : ℕ) → Contains (spoken agent t) m → m.body ≡ Body.Terminate id → Contains t.asked m
unfolding spoken
spoken_only agent t a b m id i e = first (Contains-append_cases (addressed agent.name t.own.owner t.replies) (t.asked ++ addressed agent.name t.own.owner t.notices) m i)
  where
    second : Contains t.asked m ⊎ Contains (addressed agent.name t.own.owner t.notices) m → Contains t.asked m
    second (inl j) = j
    second (inr j) = absurd (addressed_asks agent.name t.own.owner t.notices b m j (terminate_asks m id e))

    first : Contains (addressed agent.name t.own.owner t.replies) m ⊎ Contains (t.asked ++ addressed agent.name t.own.owner t.notices) m → Contains t.asked m
    first (inl j) = absurd (addressed_asks agent.name t.own.owner t.replies a m j (terminate_asks m id e))
    first (inr j) = second (Contains-append_cases t.asked (addressed agent.name t.own.owner t.notices) m j)

nothing_tallied : tally asks_for [] ≡ 0
unfolding tally
nothing_tallied = refl

---- A message of a child

module _ (agent : Agent) (now : ℕ) (m : Message) where
  -- what comes is honest to a connection
  abbrev pub Honest : Record → List ChildConnection → List Message → Type 0
  Honest own xs asked = All (λ x. m.header.provider ≡ x.child → IsHonest agent.name asked (is_live own.lsm) m.body m.header.correlation x) xs

  heard_turned : (number next : ℕ) (rs : List Record) (css : List (List ChildConnection)) →
      HasTurned agent.name (λ n. Honest (record_at n rs) (children_at n css)) rs css (hear_all agent now number m next rs css).records (hear_all agent now number m next rs css).children (hear_all agent now number m next rs css).out
  unfolding hear_all pass_then
  heard_turned number next [] css = rest_turned agent.name _ [] [] css css [] (λ n. as_itself (record_at n [])) refl none_ends
  heard_turned number next (r ∷ rs) [] = rest_turned agent.name _ (r ∷ rs) (r ∷ rs) [] [] [] (λ n. as_itself (record_at n (r ∷ rs))) refl none_ends
  heard_turned number next (r ∷ rs) (xs ∷ css) =
      let t : Turn = answer_turn agent now m r xs next in
      let w = turn_asks (record { rec = r; out = [] }) t (answer_from agent now m r xs next) nothing_tallied in
      more_turned agent.name (λ n. Honest (record_at n (r ∷ rs)) (children_at n (xs ∷ css))) r t.own xs t.children t.asked (spoken agent t) rs _ css _ _
      (answer_turned agent now m r xs next) (spoken_asked agent t) (spoken_only agent t w.0 w.1) (heard_turned (number + 1) t.next rs css)

---- Time

late_as : (d c now : ℕ) (own : Record) → IsAsBefore own (tells_late d c now own).rec
unfolding tells_late
late_as d c now own = record { committed = refl; rsm = refl; pending = refl; mixed = refl; lives = λ h. h }

one_as : (b : Bool) (agent : Agent) (now next : ℕ) (own : Record) (d : Due) (rest : Record → ℕ → Told) → ((r : Record) (k : ℕ) → IsAsBefore r (rest r k).own) → IsAsBefore own (tell_one b agent now next own d rest).own
unfolding tell_one
one_as false agent now next own d rest h = h own next
one_as true agent now next own d rest h =
    let q : Record = (tells_late d.correlation _ now own).rec in
    as_then own q (rest q (next + 1)).own (late_as d.correlation _ now own) (h q (next + 1))

all_as : (ds : List Due) (agent : Agent) (now number : ℕ) (waiting : List Message) (own : Record) (next : ℕ) → IsAsBefore own (tell_all ds agent now number waiting own next).own
unfolding tell_all
all_as [] agent now number waiting own next = as_itself own
all_as (d ∷ ds) agent now number waiting own next =
    one_as (is_late_of number now waiting d) agent now next own d (λ r k. tell_all ds agent now number waiting r k) (λ r k. all_as ds agent now number waiting r k)

ends_as : (b : Bool) (now : ℕ) (own : Record) → IsAsBefore own (ends b now own).rec
unfolding ends
ends_as true now own = lives_if_as _ now own
ends_as false now own = as_itself own

clocked_as : (agent : Agent) (now number : ℕ) (ds : List Due) (waiting : List Message) (own : Record) (next : ℕ) → IsAsBefore own (clocked agent now number ds waiting own next).own
unfolding clocked
clocked_as agent now number ds waiting own next =
    let q : Record = (ends (is_live own.lsm) now own).rec in
    as_then own q (tell_all ds agent now number waiting q next).own (ends_as (is_live own.lsm) now own) (all_as ds agent now number waiting q next)

clock_as : (agent : Agent) (now number : ℕ) (ds : List Due) (waiting : List Message) (next : ℕ) (rs : List Record) (n : ℕ) → IsAsBefore (record_at n rs) (record_at n (clock_all agent now number ds waiting next rs).records)
unfolding clock_all clock_then
clock_as agent now number ds waiting next [] n = as_itself (record_at n [])
clock_as agent now number ds waiting next (r ∷ rs) zero = clocked_as agent now number ds waiting r next
clock_as agent now number ds waiting next (r ∷ rs) (suc n) = clock_as agent now (number + 1) ds waiting (clocked agent now number ds waiting r next).next rs n

clock_ends : (agent : Agent) (now number : ℕ) (ds : List Due) (waiting : List Message) (next : ℕ) (rs : List Record) → EndsNothing (clock_all agent now number ds waiting next rs).out
unfolding clock_all clock_then
clock_ends agent now number ds waiting next [] = none_ends
clock_ends agent now number ds waiting next (r ∷ rs) =
    let t : Told = clocked agent now number ds waiting r next in
    both_end (addressed agent.name t.own.owner t.out) (clock_all agent now (number + 1) ds waiting t.next rs).out
    (λ z id j e. addressed_asks agent.name t.own.owner t.out (course_asks r t.own t.out (clocked_course agent now number ds waiting r next)) z j (terminate_asks z id e))
    (clock_ends agent now (number + 1) ds waiting t.next rs)

---- A request

fresh_lives : (id : ℕ) (owner : List ℕ) (s : Service) (source dest : ℕ) → is_live (fresh id owner s source dest).lsm ≡ true
unfolding is_live
fresh_lives id owner s source dest = refl

-- under weaker premises on what comes
turned_if : (parent : List ℕ) (honest other : List Message → Type 0) (r r' : Record) (xs ys : List ChildConnection) (more : List Message) → ((asked : List Message) → other asked → honest asked) → IsTurned parent honest r xs r' ys more → IsTurned parent other r xs r' ys more
turned_if parent honest other r r' xs ys more f t =
    record { fits = λ asked all m s h g. t.fits asked all m s (f asked h) g; dead = t.dead; views = λ asked h x id i e. t.views asked (f asked h) x id i e; ends = t.ends }

weaker_turned : (parent : List ℕ) (honest other : ℕ → List Message → Type 0) (rs rs' : List Record) (css css' : List (List ChildConnection)) (out : List Message) → ((n : ℕ) (asked : List Message) → other n asked → honest n asked) →
    HasTurned parent honest rs css rs' css' out → HasTurned parent other rs css rs' css' out
weaker_turned parent honest other rs rs' css css' out f t =
    record {
      more = t.more;
      each = λ n. turned_if parent (honest n) (other n) (record_at n rs) (record_at n rs') (children_at n css) (children_at n css') (t.more n) (f n) (t.each n);
      said = t.said;
      only = t.only;
    }

-- one connection takes a turn, and the others rest
placed_turned : (parent : List ℕ) (rs rs' : List Record) (css css' : List (List ChildConnection)) (n : ℕ) (own : Record) (ys : List ChildConnection) (mine front : List Message) → record_at n rs' ≡ own → children_at n css' ≡ ys →
    ((k : ℕ) → (k ≡ n → ⊥) → (record_at k rs' ≡ record_at k rs) × (children_at k css' ≡ children_at k css)) → IsTurned parent Anything (record_at n rs) (children_at n css) own ys mine →
    ((m : Message) → Contains mine m → Contains front m) → ((m : Message) (id : ℕ) → Contains front m → m.body ≡ Body.Terminate id → Contains mine m) → HasTurned parent (λ n. Anything) rs css rs' css' front
placed_turned parent rs rs' css css' n own ys mine front here there others turn said only =
    record { more = λ k. more k (cases_eq k n); each = λ k. each k (cases_eq k n); said = λ k. says k (cases_eq k n); only = λ m id i e. (n, its (cases_eq n n) m (only m id i e)) }
  where
    more : (k : ℕ) → (k ≡ n) ⊎ (k ≡ n → ⊥) → List Message
    more k (inl e) = mine
    more k (inr e) = []

    each : (k : ℕ) (w : (k ≡ n) ⊎ (k ≡ n → ⊥)) → IsTurned parent Anything (record_at k rs) (children_at k css) (record_at k rs') (children_at k css') (more k w)
    each k (inl e) =
        subst (λ j. IsTurned parent Anything (record_at j rs) (children_at j css) (record_at j rs') (children_at j css') mine) (sym e)
        (subst (λ r. IsTurned parent Anything (record_at n rs) (children_at n css) r (children_at n css') mine) (sym here)
        (subst (λ zs. IsTurned parent Anything (record_at n rs) (children_at n css) own zs mine) (sym there) turn))
    each k (inr e) =
        subst (λ r. IsTurned parent Anything (record_at k rs) (children_at k css) r (children_at k css') []) (sym (others k e).0)
        (subst (λ zs. IsTurned parent Anything (record_at k rs) (children_at k css) (record_at k rs) zs []) (sym (others k e).1)
        (rests_turned parent Anything (record_at k rs) (record_at k rs) (children_at k css) (as_itself (record_at k rs))))

    says : (k : ℕ) (w : (k ≡ n) ⊎ (k ≡ n → ⊥)) (m : Message) → Contains (more k w) m → Contains front m
    says k (inl e) m i = said m i
    says k (inr e) m i = absurd (nothing_in m i)

    its : (w : (n ≡ n) ⊎ (n ≡ n → ⊥)) (m : Message) → Contains mine m → Contains (more n w) m
    its (inl e) m i = i
    its (inr e) m i = absurd (e refl)

new_known : (leg : Leg) → IsKnown (view_of leg)
unfolding is_held
new_known leg h = absurd (cc)

new_fits : (parent : List ℕ) (asked : List Message) (v : Option ℕ) (leg : Leg) → IsFitting parent asked Rsm.ReserveStart v (view_of leg)
unfolding is_held
new_fits parent asked v leg = record { rests = λ _. refl; waits = λ q e. absurd (cc) }

-- a reserve looks for children where there are none
path_fits : (parent : List ℕ) (asked : List Message) (own : Record) (xs : List ChildConnection) (body : Body) (legs : List Leg) → ((q : ReserveRequest) → body ≡ Body.Reserve q → own.rsm ≡ Rsm.ReserveStart) → Fits parent asked own xs → Fits parent asked own (with_path body xs legs)
unfolding with_path views_of
path_fits parent asked own [] (Body.Reserve q) legs start f =
    record {
      committed = λ v i. absurd ((f.committed v i).some refl);
      known = All-map IsKnown view_of legs (λ k d l. new_known (get_or legs k d));
      mixed = f.mixed;
      some = λ h. absurd (let w = sym (ap holds_pending (start q refl)) ∙ h in cc);
      fits = λ _ _.
          subst (λ k. All (IsFitting parent asked k (pending_of own)) (map view_of legs)) (sym (start q refl))
          (All-map (IsFitting parent asked Rsm.ReserveStart (pending_of own)) view_of legs (λ k d l. new_fits parent asked (pending_of own) (get_or legs k d)));
    }
path_fits parent asked own (x ∷ xs) (Body.Reserve q) legs start f = f
path_fits parent asked own xs _ legs start f = f

path_keeps : (body : Body) (xs : List ChildConnection) (legs : List Leg) (x : ChildConnection) → Contains xs x → Contains (with_path body xs legs) x
unfolding with_path
path_keeps (Body.Reserve q) [] legs x i = absurd (nothing_in x i)
path_keeps (Body.Reserve q) (y ∷ ys) legs x i = i
path_keeps _ xs legs x i = i

-- a connection that begins with more children
path_turned : (parent : List ℕ) (own own' : Record) (xs zs ys : List ChildConnection) (more : List Message) → ((asked : List Message) → Fits parent asked own xs → Fits parent asked own zs) → ((x : ChildConnection) → Contains xs x → Contains zs x) →
    IsTurned parent Anything own zs own' ys more → IsTurned parent Anything own xs own' ys more
path_turned parent own own' xs zs ys more f g t =
    record { fits = λ asked all m s h w. t.fits asked all m s h (f asked w); dead = t.dead; views = λ asked h x id i e. t.views asked h x id (g x i) e; ends = t.ends }

-- a record as it is made, without children
pub fresh_fits : (parent : List ℕ) (asked : List Message) (id : ℕ) (owner : List ℕ) (s : Service) (source dest : ℕ) → Fits parent asked (fresh id owner s source dest) []
fresh_fits parent asked id owner s source dest =
    record { committed = λ v i. absurd (nothing_in v i); known = All-nil IsKnown; mixed = λ h. refl; some = λ h. absurd (cc); fits = λ _ _. All-nil (IsFitting parent asked Rsm.ReserveStart None) }

opened_turned : (parent : List ℕ) (id : ℕ) (owner : List ℕ) (s : Service) (source dest : ℕ) (own : Record) (ys : List ChildConnection) (more : List Message) → IsTurned parent Anything (fresh id owner s source dest) [] own ys more →
    IsTurned parent Anything no_record [] own ys more
unfolding is_live
opened_turned parent id owner s source dest own ys more t =
    record {
      fits = λ asked all m w h _. t.fits asked all m w h (fresh_fits parent asked id owner s source dest);
      dead = λ _. refl;
      views = λ asked h x i j e. absurd (nothing_in x j);
      ends = t.ends;
    }

module _ (setting : Setting) (s : AgentState) (even : length s.children ≡ length s.base.records) where
  abbrev agent : Agent
  agent = setting.agent

  abbrev Does : AgentStepped → Type 0
  Does x = HasTurned setting.agent.name (λ n. Anything) s.base.records s.children x.state.base.records x.state.children x.out

  rests : (out : List Message) → EndsNothing out → HasTurned setting.agent.name (λ n. Anything) s.base.records s.children s.base.records s.children out
  rests out quiet = rest_turned setting.agent.name (λ n. Anything) s.base.records s.base.records s.children s.children out (λ n. as_itself (record_at n s.base.records)) refl quiet

  module _ (s' : AgentState) (same : s'.children ≡ s.children) (rows : s'.base.records ≡ s.base.records) (m : Message) where
    -- the turn of a connection in a state that differs in what was taken alone
    at_turned : (n : ℕ) → n < length s'.base.records → record_refusal s'.base.now m.body (record_at n s'.base.records) ≡ None →
        HasTurned setting.agent.name (λ n. Anything) s'.base.records s'.children (request_at setting s' n m).state.base.records (request_at setting s' n m).state.children (request_at setting s' n m).out
    unfolding request_at takes
    at_turned n l fine =
        placed_turned setting.agent.name s'.base.records _ s'.children _ n t.own t.children t.asked (spoken setting.agent t) (get_or-set_same s'.base.records n t.own no_record l) (get_or-set_same s'.children n t.children [] within)
        (λ k a. (get_or-set_other s'.base.records n k t.own no_record a, get_or-set_other s'.children n k t.children [] a))
        (path_turned setting.agent.name own t.own (children_at n s'.children) xs t.children t.asked (λ asked f. path_fits setting.agent.name asked own (children_at n s'.children) m.body legs start f)
        (λ x i. path_keeps m.body (children_at n s'.children) legs x i)
        (request_turned setting.agent s'.base.now m own xs s'.base.next (λ asked all more f said. taken_fits setting.agent s'.base.now m own xs s'.base.next asked all more f fine said)))
        (spoken_asked setting.agent t) (spoken_only setting.agent t quiet.0 quiet.1)
      where
        own : Record
        own = record_at n s'.base.records

        legs : List Leg
        legs = setting.route own.source own.dest

        xs : List ChildConnection
        xs = children_for setting s' n m

        t : Turn
        t = request_turn setting.agent s'.base.now m own xs s'.base.next

        within : n < length s'.children
        within = omega (arith, l, ap length same, ap length rows, even)

        start : (q : ReserveRequest) → m.body ≡ Body.Reserve q → own.rsm ≡ Rsm.ReserveStart
        start q e = reserve_row q own (unrefused_fits s'.base.now (Body.Reserve q) own (sym (ap (λ b. record_refusal s'.base.now b own) e) ∙ fine)).row

        quiet : (tally asks_for t.replies ≡ 0) × (tally asks_for t.notices ≡ 0)
        quiet = turn_asks (takes m s'.base.now own) t (request_from setting.agent s'.base.now m own xs s'.base.next) (takes_speaks Side.Aggregator m.body m.header.correlation s'.base.now own).asks

    opened : (q : ReserveRequest) (points : ℕ × ℕ) → m.body ≡ Body.Reserve q → (asked_criteria s'.base.now q [] ≡ None → ⊥) →
        (let w : AgentState = with_new setting s' m q points in
        let x : AgentStepped = request_at setting w (length s'.base.records) m in
        HasTurned setting.agent.name (λ n. Anything) s'.base.records s'.children x.state.base.records x.state.children x.out)
    unfolding request_at takes
    opened q points e asks =
        placed_turned setting.agent.name s'.base.records _ s'.children _ n t.own t.children t.asked (spoken setting.agent t)
        (get_or-set_same (s'.base.records ++ new ∷ []) n t.own no_record (omega (arith, length-append s'.base.records (new ∷ [])))) (get_or-set_same (s'.children ++ none ∷ []) n t.children [] (omega (arith, length-append s'.children (none ∷ []), ap length same, ap length rows, even)))
        (λ k a. (
          get_or-set_other (s'.base.records ++ new ∷ []) n k t.own no_record a ∙ last_there s'.base.records new no_record k a,
          get_or-set_other (s'.children ++ none ∷ []) n k t.children [] a ∙ last_there s'.children none [] k (λ w. a (w ∙ sided)),
        ))
        (subst (λ r. IsTurned setting.agent.name Anything r (children_at n s'.children) t.own t.children t.asked) (sym (beyond s'.base.records no_record n (λ l. omega (arith, l))))
        (subst (λ zs. IsTurned setting.agent.name Anything no_record zs t.own t.children t.asked) (sym (beyond s'.children [] n (λ l. omega (arith, l, sided))))
        (opened_turned setting.agent.name _ _ _ _ _ t.own t.children t.asked
        (path_turned setting.agent.name new t.own none xs t.children t.asked
        (λ asked f. subst (λ zs. Fits setting.agent.name asked new zs) (sym path_is) (path_fits setting.agent.name asked new none m.body legs (λ _ _. refl) f)) (λ x i. absurd (nothing_in x i))
        (subst (λ r. IsTurned setting.agent.name Anything r xs t.own t.children t.asked) own_is
        (request_turned setting.agent s'.base.now m own xs w.base.next
        (λ asked all more f said.
        first_fits setting.agent s'.base.now m own xs w.base.next asked all more f q e (ap (λ (r : Record). r.rsm) own_is) (ap (λ (r : Record). is_live r.lsm) own_is ∙ lives_new) (ap (λ (r : Record). r.mixed) own_is)
        (λ g. asks (sym (ap (λ (r : Record). asked_criteria s'.base.now q r.committed) own_is) ∙ g)) said)))))))
        (spoken_asked setting.agent t) (spoken_only setting.agent t quiet.0 quiet.1)
      where
        n : ℕ
        n = length s'.base.records

        w : AgentState
        w = with_new setting s' m q points

        new : Record
        new = fresh (id_of setting.agent.number s'.base.next) m.header.requester (service_of q (name_or q.source) (name_or q.dest)) points.0 points.1

        none : List ChildConnection
        none = []

        own : Record
        own = record_at n (s'.base.records ++ new ∷ [])

        own_is : own ≡ new
        own_is = last_here s'.base.records new no_record

        sided : length s'.children ≡ n
        sided = omega (arith, ap length same, ap length rows, even)

        legs : List Leg
        legs = setting.route own.source own.dest

        xs : List ChildConnection
        xs = children_for setting w n m

        path_is : xs ≡ with_path m.body none legs
        path_is = ap (λ zs. with_path m.body zs legs) (ap (λ k. get_or (s'.children ++ none ∷ []) k []) (sym sided) ∙ last_here s'.children none [])

        lives_new : is_live new.lsm ≡ true
        lives_new = fresh_lives (id_of setting.agent.number s'.base.next) m.header.requester (service_of q (name_or q.source) (name_or q.dest)) points.0 points.1

        t : Turn
        t = request_turn setting.agent s'.base.now m own xs w.base.next

        quiet : (tally asks_for t.replies ≡ 0) × (tally asks_for t.notices ≡ 0)
        quiet = turn_asks (takes m s'.base.now own) t (request_from setting.agent s'.base.now m own xs w.base.next) (takes_speaks Side.Aggregator m.body m.header.correlation s'.base.now own).asks

    abbrev Taken : AgentStepped → Type 0
    Taken x = HasTurned setting.agent.name (λ n. Anything) s'.base.records s'.children x.state.base.records x.state.children x.out

    still : (out : List Message) → EndsNothing out → HasTurned setting.agent.name (λ n. Anything) s'.base.records s'.children s'.base.records s'.children out
    still out quiet = rest_turned setting.agent.name (λ n. Anything) s'.base.records s'.base.records s'.children s'.children out (λ n. as_itself (record_at n s'.base.records)) refl quiet

    between : (o : Option (ℕ × ℕ)) (q : ReserveRequest) → m.body ≡ Body.Reserve q → (asked_criteria s'.base.now q [] ≡ None → ⊥) → Taken (opens_between o setting s' m q)
    between None q e asks = still [] none_ends
    between (Some points) q e asks = opened q points e asks

    -- a first reserve that isn't refused asks for criteria
    opening : (body : Body) → m.body ≡ body → connection_of m.body ≡ None → refusal s'.base.now setting.agent.name setting.stp_of s'.base.records m ≡ None → Taken (opens body setting s' m)
    opening (Body.Reserve q) e c r =
        let f = (first_by s'.base.now setting.agent.name setting.stp_of s'.base.records m q e (reserve_unnamed m.body q e c) r).0 in
        between (points_of setting.stp_of q) q e (λ g. f.asks (ap (λ z. asked_criteria s'.base.now z []) (same_reserve f.reserve q (sym f.body ∙ e)) ∙ g))
      where
        same_reserve : (a b : ReserveRequest) → Body.Reserve a ≡ Body.Reserve b → a ≡ b
        same_reserve a b e = cc
    opening _ e c r = still [] none_ends

    accepting : (o : Option ℕ) → connection_of m.body ≡ o → refusal s'.base.now setting.agent.name setting.stp_of s'.base.records m ≡ None → Taken (accepts o setting s' m)
    accepting None e r = opening m.body refl e r
    accepting (Some id) e r =
        let f = found_by s'.base.now setting.agent.name setting.stp_of m id (record { records = s'.base.records; seen = []; said = [] }) e r in
        subst (λ o. Taken (request_to o setting s' m)) (sym f.found) (at_turned f.place f.about.within f.about.unrefused)

    refusing : (error : ErrorName) → Taken (sends s' (error_reply setting.agent.name m error ∷ []))
    refusing error = still (error_reply setting.agent.name m error ∷ []) (one_ends (error_reply setting.agent.name m error) refl)

    answering : (o : Option ErrorName) → refusal s'.base.now setting.agent.name setting.stp_of s'.base.records m ≡ o → Taken (answers o setting s' m)
    unfolding answers
    answering (Some error) r = refusing error
    answering None r = accepting (connection_of m.body) refl r

    -- a query about all that is below asks no child to terminate
    opening_query : (n : ℕ) (x : Sought) → EndsNothing x.asked → (b : Bool) → Taken (opens_query b setting s' n m x)
    opening_query n x none true = still x.asked none
    opening_query n x none false =
        let reply = nested_reply setting.agent.name (record_at n s'.base.records) (query_opened m n x) in
        still (reply ∷ []) (one_ends reply refl)

    asking_below : (n : ℕ) → Taken (asks_below setting s' n m)
    unfolding asks_below
    asking_below n =
        let x : Sought = seek setting.agent s'.base.next (children_at n s'.children) in
        opening_query n x (below_ends setting.agent s'.base.next (children_at n s'.children)) (list_any is_asked x.parts)

    telling_below : (b : Bool) (o : Option ℕ) → Taken (asks_if_own b o setting s' m)
    telling_below true (Some n) = asking_below n
    telling_below true None = refusing ErrorName.Nonexistent
    telling_below false o = refusing ErrorName.WrongProvider

    querying : (b : Bool) → Taken (queries b setting s' m)
    querying true = telling_below (bytes_eq m.header.provider setting.agent.name) (place_named m s'.base.records)
    querying false =
        let reply = query_reply setting.agent.name m (answer_to setting.agent.name s' m) in
        still (reply ∷ []) (one_ends reply (reply_asks_nothing setting.agent.name s' m))

    serving : (b : Bool) → Taken (serves b setting s' m)
    serving true = querying (is_recursive m.body)
    serving false = answering (refusal s'.base.now setting.agent.name setting.stp_of s'.base.records m) refl

  ---- Any entry

  -- what comes is honest to a connection, if anything comes
  abbrev pub Comes : Input → ℕ → List Message → Type 0
  Comes input n asked = (m : Message) → input ≡ Input.Got m → All (λ x. m.header.provider ≡ x.child → IsHonest setting.agent.name asked (is_live (record_at n s.base.records).lsm) m.body m.header.correlation x) (children_at n s.children)

  abbrev pub Entered : Input → AgentStepped → Type 0
  Entered input x = HasTurned setting.agent.name (λ n asked. (m : Message) → input ≡ Input.Got m → All (λ x. m.header.provider ≡ x.child → IsHonest setting.agent.name asked (is_live (record_at n s.base.records).lsm) m.body m.header.correlation x) (children_at n s.children))
      s.base.records s.children x.state.base.records x.state.children x.out

  anything_entered : (input : Input) (x : AgentStepped) → HasTurned setting.agent.name (λ n. Anything) s.base.records s.children x.state.base.records x.state.children x.out → Entered input x
  anything_entered input x t = weaker_turned setting.agent.name (λ n. Anything) _ s.base.records x.state.base.records s.children x.state.children x.out (λ n asked h. tt) t

  heard_entered : (m : Message) → Entered (Input.Got m) (hears setting (sees m s) m)
  unfolding hears saw
  heard_entered m =
      let p : Passed = hear_all setting.agent (sees m s).base.now 0 m (sees m s).base.next s.base.records s.children in
      beside_turned setting.agent.name _ s.base.records p.records s.children p.children p.out (hear_below setting.agent.name s.base.records m s.queries).out (answers_end setting.agent.name s.base.records m s.queries)
      (weaker_turned setting.agent.name (λ n. Honest setting.agent (sees m s).base.now m (record_at n s.base.records) (children_at n s.children)) _ s.base.records p.records s.children p.children p.out (λ n asked h. h m refl)
      (heard_turned setting.agent (sees m s).base.now m 0 (sees m s).base.next s.base.records s.children))

  receiving : (m : Message) (a b : Bool) → is_request m.body ≡ a → Entered (Input.Got m) (receives a b setting s m)
  unfolding receives saw
  receiving m true false q =
      anything_entered (Input.Got m) (serves (is_query m.body) setting (sees m s) m) (serving (sees m s) refl refl m (is_query m.body))
  receiving m false false q = heard_entered m
  receiving m true true q = anything_entered (Input.Got m) (stays s) (rests [] none_ends)
  receiving m false true q = anything_entered (Input.Got m) (stays s) (rests [] none_ends)

  ticks_entered : (now : ℕ) → HasTurned setting.agent.name (λ n. Anything) s.base.records s.children (ticks setting now s).state.base.records (ticks setting now s).state.children (ticks setting now s).out
  unfolding ticks
  ticks_entered now =
      rest_turned setting.agent.name (λ n. Anything) s.base.records _ s.children s.children _ (λ n. clock_as setting.agent now 0 s.dues s.base.waiting s.base.next s.base.records n) refl
      (clock_ends setting.agent now 0 s.dues s.base.waiting s.base.next s.base.records)

  step_entered : (input : Input) (second : ℕ) → Entered input (step input second setting s)
  unfolding step
  step_entered (Input.Got m) second = receiving m (is_request m.body) (is_seen s m) refl
  step_entered Input.Tick second = anything_entered Input.Tick (ticks setting second s) (ticks_entered second)
  step_entered (Input.Acked i) second = anything_entered (Input.Acked i) (stays (acknowledged i s)) (rests [] none_ends)
  step_entered (Input.Work n machine) second = anything_entered (Input.Work n machine) (stays s) (rests [] none_ends)
  step_entered (Input.Force n) second = anything_entered (Input.Force n) (stays s) (rests [] none_ends)
  step_entered (Input.Ask n ask) second = anything_entered (Input.Ask n ask) (stays s) (rests [] none_ends)

  pub entered : (e : Entry) → Entered e.input (after setting s e)
  unfolding after
  entered e = by_test (may_take s e)
    where
      by_test : (b : Bool) → Entered e.input (after_if b setting s e)
      by_test true = step_entered e.input e.second
      by_test false = anything_entered e.input (stays s) (rests [] none_ends)

---- The laws

pub entries_keep_fit : EntriesKeepTheFit
entries_keep_fit setting asked s e even honest fit n =
    let t = entered setting s even e in
    (t.each n).fits asked (asked ++ (after setting s e).out) (λ m i. Contains-append_left asked (after setting s e).out m i) (λ m i. Contains-append_right asked (after setting s e).out m (t.said n m i)) (λ m i. honest m i n) (fit n)

turned_ended : (parent : List ℕ) (honest : ℕ → List Message → Type 0) (s s' : AgentState) (asked out : List Message) → HasTurned parent honest s.base.records s.children s'.base.records s'.children out → ((n : ℕ) → honest n asked) → AllEnd asked s →
    AllEnd (asked ++ out) s'
turned_ended parent honest s s' asked out t all ended m id i is = by_part (Contains-append_cases asked out m i)
  where
    still : IsEnding s m id → IsEnding s' m id
    still w =
        let (y, j, c, k) = (t.each w.place).views asked (all w.place) w.view id w.there w.connection in
        record {
          place = w.place;
          view = y;
          there = j;
          child = c ∙ w.child;
          connection = k;
          dead = dead_then (is_live (record_at w.place s.base.records).lsm) (is_live (record_at w.place s'.base.records).lsm) (t.each w.place).dead w.dead;
        }

    new : (n : ℕ) → Contains (t.more n) m → IsEnding s' m id
    new n j = let (y, k, c, g, d) = (t.each n).ends m id j is in record { place = n; view = y; there = k; child = c; connection = g; dead = d }

    by_part : Contains asked m ⊎ Contains out m → IsEnding s' m id
    by_part (inl j) = still (ended m id j is)
    by_part (inr j) = let w = t.only m id j is in new w.0 w.1

pub entries_keep_ended : EntriesKeepTheEnded
entries_keep_ended setting asked s e even honest ended =
    turned_ended setting.agent.name _ s (after setting s e).state asked (after setting s e).out (entered setting s even e) (λ n m i. honest m i n) ended

-- An entry of an aggregator keeps the pair of its views and a child.
use Rattle.std.proofs.Common.{ℕ, ◌≡◌, ◌<◌, ◌≤◌, Bool, true, false, List, [], ◌∷◌, ◌++◌, length, get_or, Contains, Option, Some, None, ◌⊎◌, inl, inr, refl, sym, ap, ◌∙◌, subst, arith, slice_set, append_assoc, append-nil, length-append, get_or-set_same, get_or-set_other, bytes_eq, true≢false}
use Rattle.std.specs.List.{list_any}
use Rattle.std.proofs.lemmas.Bool.{cases_eq}
use Rattle.std.proofs.lemmas.List.Elements.{Contains-append_cases}
use Rattle.nsi_primitive.specs.Ids.{id_of}
use Rattle.nsi_primitive.specs.Messages.{kind_of, connection_of, is_request, is_query}
use Rattle.nsi_primitive.specs.declared.entry.Entry.{Entry}
use Rattle.nsi_primitive.specs.declared.entry.Input.{Input}
use Rattle.nsi_primitive.specs.declared.kind.ErrorName.{ErrorName}
use Rattle.nsi_primitive.specs.declared.message.Body.{Body}
use Rattle.nsi_primitive.specs.declared.message.Message.{Message}
use Rattle.nsi_primitive.specs.declared.message.ReserveRequest.{ReserveRequest}
use Rattle.nsi_primitive.specs.declared.state.Side.{Side}
use Rattle.message_retry.specs.Retry.{saw}
use Rattle.child_connection.specs.Views.{ChildConnection}
use Rattle.child_connection.specs.Hearing.{hear}
use Rattle.child_connection.specs.Holding.{is_reservation, IsAlike}
use Rattle.connection_record.specs.declared.record.Record.{Record}
use Rattle.connection_record.specs.Refusal.{refusal, points_of}
use Rattle.connection_record.specs.Replies.{Moved, addressed}
use Rattle.connection_record.specs.Speaking.{tally, is_answering, asks_for}
use Rattle.connection_record.proofs.Saying.{takes_speaks}
use Rattle.agent_state.specs.declared.parent.OpenQuery.{OpenQuery}
use Rattle.agent_state.specs.Entries.{is_recursive, error_reply, query_reply}
use Rattle.agent_state.specs.State.{AgentState, AgentStepped, record_at, children_at}
use Rattle.aggregator_agent.specs.declared.agent.Agent.{Agent}
use Rattle.aggregator_agent.specs.Asking.{Turn, Asking, passed_on, pass_each}
use Rattle.aggregator_agent.specs.Below.{is_asked, nested_reply, Sought, seek, opened, Heard, hear_below}
use Rattle.aggregator_agent.specs.Clock.{clock_all}
use Rattle.aggregator_agent.specs.Setting.{Setting}
use Rattle.aggregator_agent.specs.Steps.{sees, is_seen, children_for, request_at, with_new, opens_between, opens, request_to, accepts, answers, Passed, hear_all, hears, opens_query, asks_below, asks_if_own, place_named, queries, receives, ticks, step, after_if, after, may_take, serves}
use Rattle.aggregator_agent.specs.Turns.{takes, request_turn, spoken}
use Rattle.circuit_link.specs.Children.{Child, MayReach, IsFair}
use Rattle.circuit_link.specs.Headers.{header_of}
use Rattle.circuit_link.proofs.Aggregators.{request_from}
use Rattle.circuit_link.proofs.Below.{all_asked_below, all_said_below}
use Rattle.circuit_link.proofs.Opening.{last_here, last_there}
use Rattle.circuit_link.proofs.Requests.{found_by}
use Rattle.circuit_pairs.specs.Pairs.{IsPair, IsOnce, IsFresh}
use Rattle.circuit_pairs.specs.Minding.{ReservesNothing, Minds, no_child, mine, slot}
use Rattle.circuit_pairs.proofs.Minding.{alike_same, alike_then, alike_pair, more_pair, minding_pair}
use Rattle.circuit_pairs.proofs.Overseeing.{turn_asks, clock_reserves, request_children, all_hear, hear_all_reserves, path_slot}
use Rattle.circuit_pairs.proofs.Parenting.{dec_pair, passed_may, fresh_later, each_pair}
use Rattle.circuit_pairs.proofs.Plain.{none_reserves, both_reserve, addressed_asks, addressed_reserves, answer_reserves, error_reserves}
use Rattle.aggregator_agent.specs.Queries.{answer_to}
use Rattle.aggregator_agent.proofs.Queried.{reply_asks_nothing}

beyond : {X : Type 0} (xs : List X) (d : X) → get_or xs (length xs) d ≡ d
beyond [] d = refl
beyond (y ∷ ys) d = beyond ys d

-- neither is what children are asked for a query a request for a reservation, nor what is answered then
below_reserves : (child : List ℕ) (agent : Agent) (next : ℕ) (xs : List ChildConnection) → ReservesNothing child (seek agent next xs).asked
unfolding is_reservation
below_reserves child agent next xs m i r p = true≢false (sym r ∙ all_asked_below (λ z. is_reservation (kind_of z.body) ≡ false) agent (λ c id x. refl) next xs m i)

answered_reserves : (child agent : List ℕ) (records : List Record) (m : Message) (qs : List OpenQuery) → ReservesNothing child (hear_below agent records m qs).out
unfolding is_reservation
answered_reserves child agent records m qs z i r p = true≢false (sym r ∙ all_said_below (λ y. is_reservation (kind_of y.body) ≡ false) agent (λ own q. refl) records m qs z i)

module _ (set : Setting) (child : List ℕ) (d : Child) (fair : IsFair set.agent.name child d) (asked : List Message) where
  abbrev agent : Agent
  agent = set.agent

  abbrev parent : List ℕ
  parent = set.agent.name

  abbrev Pair : List (List ChildConnection) → List Message → Type 0
  Pair css ms = IsPair (ℕ × ℕ) set.agent.name child (slot child css) ms d

  -- a connection's turn by a request
  turn_pair : (css : List (List ChildConnection)) (n : ℕ) (m : Message) (now next : ℕ) (own : Record) (cs : List ChildConnection) → n < length css → IsFresh parent child agent.number d next asked → Pair (slice_set css n cs) asked →
      Pair (slice_set css n (request_turn agent now m own cs next).children) (asked ++ spoken agent (request_turn agent now m own cs next))
  unfolding spoken takes
  turn_pair css n m now next own cs l fresh start =
      subst (λ z. Pair (slice_set css n t.children) z) whole
      (more_pair (ℕ × ℕ) dec_pair parent child ((asked ++ pre) ++ t.asked) d fair (slot child (slice_set css n t.children)) notes (addressed_reserves child parent t.own.owner t.notices says.1)
      (subst (λ z. Pair (slice_set css n z) ((asked ++ pre) ++ t.asked)) (sym both.0)
      (subst (λ z. Pair (slice_set css n a.children) ((asked ++ pre) ++ z)) (sym both.1)
      (each_pair agent child d fair css n l (passed_on m.body y.rec) (kind_of m.body) next [] cs (asked ++ pre) (λ x b e. passed_may m.body y.rec x b e) fresh_then
      (more_pair (ℕ × ℕ) dec_pair parent child asked d fair (slot child (slice_set css n cs)) pre (addressed_reserves child parent t.own.owner t.replies says.0) start)))))
    where
      t : Turn
      t = request_turn agent now m own cs next

      y : Moved
      y = takes m now own

      a : Asking
      a = pass_each m agent y.rec next cs

      both : (t.children ≡ a.children) × (t.asked ≡ a.asked)
      both = request_children agent now m own cs next

      says : (tally asks_for t.replies ≡ 0) × (tally asks_for t.notices ≡ 0)
      says = turn_asks y t (request_from agent now m own cs next) (takes_speaks Side.Aggregator m.body m.header.correlation now own).asks

      pre : List Message
      pre = addressed parent t.own.owner t.replies

      notes : List Message
      notes = addressed parent t.own.owner t.notices

      fresh_then : IsFresh parent child agent.number d next (asked ++ pre)
      fresh_then = record { unasked = λ k w m' i e q. by_part k w m' e q (Contains-append_cases asked pre m' i); untaken = fresh.untaken }
        where
          by_part : (k : ℕ) → next ≤ k → (m' : Message) → is_request m'.body ≡ true → m'.header.correlation ≡ id_of agent.number k → Contains asked m' ⊎ Contains pre m' → ⊥
          by_part k w m' e q (inl i) = fresh.unasked k w m' i e q
          by_part k w m' e q (inr i) = addressed_asks parent t.own.owner t.replies says.0 m' i e

      whole : ((asked ++ pre) ++ t.asked) ++ notes ≡ asked ++ (pre ++ (t.asked ++ notes))
      whole = append_assoc (asked ++ pre) t.asked notes ∙ append_assoc asked pre (t.asked ++ notes)

  module _ (s : AgentState) (even : length s.children ≡ length s.base.records) (fresh : IsFresh set.agent.name child set.agent.number d s.base.next asked) (pair : IsPair (ℕ × ℕ) set.agent.name child (slot child s.children) asked d) where
    abbrev Now : AgentStepped → Type 0
    Now x = Pair x.state.children (asked ++ x.out)

    -- views as they were, and no request for a reservation
    plain_pair : (ms : List Message) → ReservesNothing child ms → Pair s.children (asked ++ ms)
    plain_pair ms h = more_pair (ℕ × ℕ) dec_pair parent child asked d fair (slot child s.children) ms h pair

    -- a request at a connection that is there, in a state whose views are alike
    request_pair : (s' : AgentState) (n : ℕ) (m : Message) → n < length s'.children → s.base.next ≤ s'.base.next → ((i : ℕ × ℕ) → IsAlike (slot child s.children i) (slot child s'.children i)) → Now (request_at set s' n m)
    unfolding request_at
    request_pair s' n m l le same =
        turn_pair s'.children n m s'.base.now s'.base.next (record_at n s'.base.records) (children_for set s' n m) l (fresh_later parent child agent.number d s.base.next s'.base.next asked le fresh)
        (alike_pair (ℕ × ℕ) parent child asked d (slot child s.children) (slot child (slice_set s'.children n (children_for set s' n m))) (λ i. alike_then (slot child s.children i) (slot child s'.children i) (slot child (slice_set s'.children n (children_for set s' n m)) i) (same i) (with_views i.0 i.1)) pair)
      where
        with_views : (k i : ℕ) → IsAlike (slot child s'.children (k, i)) (slot child (slice_set s'.children n (children_for set s' n m)) (k, i))
        with_views k i = by_number (cases_eq k n)
          where
            by_number : (k ≡ n) ⊎ (k ≡ n → ⊥) → IsAlike (slot child s'.children (k, i)) (slot child (slice_set s'.children n (children_for set s' n m)) (k, i))
            by_number (inr q) =
                alike_same (slot child s'.children (k, i)) (slot child (slice_set s'.children n (children_for set s' n m)) (k, i))
                (ap (λ z. mine child (get_or z i (no_child child))) (get_or-set_other s'.children n k (children_for set s' n m) [] q))
            by_number (inl q) =
                subst (λ k. IsAlike (slot child s'.children (k, i)) (slot child (slice_set s'.children n (children_for set s' n m)) (k, i))) (sym q)
                (subst (λ z. IsAlike (mine child (get_or (children_at n s'.children) i (no_child child))) (mine child (get_or z i (no_child child)))) (sym (get_or-set_same s'.children n (children_for set s' n m) [] l))
                (path_slot child m.body (children_at n s'.children) (set.route (record_at n s'.base.records).source (record_at n s'.base.records).dest) i))

    longer_slot : (k i : ℕ) → IsAlike (slot child s.children (k, i)) (slot child (s.children ++ [] ∷ []) (k, i))
    longer_slot k i = by_number (cases_eq k (length s.children))
      where
        by_number : (k ≡ length s.children) ⊎ (k ≡ length s.children → ⊥) → IsAlike (slot child s.children (k, i)) (slot child (s.children ++ [] ∷ []) (k, i))
        by_number (inr q) =
            alike_same (slot child s.children (k, i)) (slot child (s.children ++ [] ∷ []) (k, i)) (ap (λ z. mine child (get_or z i (no_child child))) (last_there s.children [] [] k q))
        by_number (inl q) =
            subst (λ k. IsAlike (slot child s.children (k, i)) (slot child (s.children ++ [] ∷ []) (k, i))) (sym q)
            (alike_same (slot child s.children (length s.children, i)) (slot child (s.children ++ [] ∷ []) (length s.children, i)) (ap (λ z. mine child (get_or z i (no_child child))) (last_here s.children [] [] ∙ sym (beyond s.children []))))

    ---- Requests, in a state that differs in what was taken alone

    module _ (s' : AgentState) (same : s'.children ≡ s.children) (rows : s'.base.records ≡ s.base.records) (ids : s'.base.next ≡ s.base.next) (m : Message) where
      same_slot : (i : ℕ × ℕ) → IsAlike (slot child s.children i) (slot child s'.children i)
      same_slot i = alike_same (slot child s.children i) (slot child s'.children i) (ap (λ z. slot child z i) same)

      resting : (ms : List Message) → ReservesNothing child ms → Pair s'.children (asked ++ ms)
      resting ms h = subst (λ z. Pair z (asked ++ ms)) (sym same) (plain_pair ms h)

      between : (o : Option (ℕ × ℕ)) (q : ReserveRequest) → Now (opens_between o set s' m q)
      between None q = resting [] (none_reserves child)
      between (Some points) q =
          request_pair (with_new set s' m q points) (length s'.base.records) m last (omega (arith, ids))
          (λ i. subst (λ z. IsAlike (slot child s.children i) (slot child (z ++ [] ∷ []) i)) (sym same) (longer_slot i.0 i.1))
        where
          none : List ChildConnection
          none = []

          last : length s'.base.records < length (s'.children ++ [] ∷ [])
          last = omega (arith, length-append s'.children (none ∷ []), ap length same, ap length rows, even)

      opening : (body : Body) → Now (opens body set s' m)
      opening (Body.Reserve q) = between (points_of set.stp_of q) q
      opening _ = resting [] (none_reserves child)

      accepting : (o : Option ℕ) → connection_of m.body ≡ o → refusal s'.base.now parent set.stp_of s'.base.records m ≡ None → Now (accepts o set s' m)
      accepting None e r = opening m.body
      accepting (Some id) e r =
          let f = found_by s'.base.now parent set.stp_of m id (record { records = s'.base.records; seen = []; said = [] }) e r in
          subst (λ o. Now (request_to o set s' m)) (sym f.found) (request_pair s' f.place m (omega (arith, f.about.within, ap length same, ap length rows, even)) (omega (arith, ids)) same_slot)

      answering : (o : Option ErrorName) → refusal s'.base.now parent set.stp_of s'.base.records m ≡ o → Now (answers o set s' m)
      unfolding answers
      answering (Some error) r = resting (error_reply parent m error ∷ []) (error_reserves child parent m error)
      answering None r = accepting (connection_of m.body) refl r

      -- a query about all that is below asks the children for no reservation
      opening_query : (n : ℕ) (x : Sought) → ReservesNothing child x.asked → (b : Bool) → Now (opens_query b set s' n m x)
      opening_query n x h true = resting x.asked h
      opening_query n x h false = resting (nested_reply parent (record_at n s'.base.records) (opened m n x) ∷ []) (answer_reserves child (nested_reply parent (record_at n s'.base.records) (opened m n x)) refl)

      asking_below : (n : ℕ) → Now (asks_below set s' n m)
      unfolding asks_below
      asking_below n =
          let x : Sought = seek set.agent s'.base.next (children_at n s'.children) in
          opening_query n x (below_reserves child set.agent s'.base.next (children_at n s'.children)) (list_any is_asked x.parts)

      telling_below : (b : Bool) (o : Option ℕ) → Now (asks_if_own b o set s' m)
      telling_below true (Some n) = asking_below n
      telling_below true None = resting (error_reply parent m ErrorName.Nonexistent ∷ []) (error_reserves child parent m ErrorName.Nonexistent)
      telling_below false o = resting (error_reply parent m ErrorName.WrongProvider ∷ []) (error_reserves child parent m ErrorName.WrongProvider)

      querying : (b : Bool) → Now (queries b set s' m)
      querying true = telling_below (bytes_eq m.header.provider parent) (place_named m s'.base.records)
      querying false = resting (query_reply parent m (answer_to parent s' m) ∷ []) (answer_reserves child (query_reply parent m (answer_to parent s' m)) (reply_asks_nothing parent s' m))

      serving : (b : Bool) → Now (serves b set s' m)
      serving true = querying (is_recursive m.body)
      serving false = answering (refusal s'.base.now parent set.stp_of s'.base.records m) refl

    ---- A message of a child

    module _ (once : IsOnce set.agent.name asked) (input : Input)
        (said : (m : Message) → input ≡ Input.Got m → is_answering m.body ≡ true → m.header.provider ≡ child → MayReach (header_of set.agent.name child m.header.correlation) d.said m.body) where
      heard_pair : (m : Message) (s' : AgentState) → input ≡ Input.Got m → s'.children ≡ s.children → s'.base.records ≡ s.base.records → Now (hears set s' m)
      unfolding hears
      heard_pair m s' got same rows =
          more_pair (ℕ × ℕ) dec_pair parent child asked d fair (slot child p.children) (p.out ++ below.out)
          (both_reserve child p.out below.out (hear_all_reserves child agent s'.base.now 0 m s'.base.next s'.base.records s'.children) (answered_reserves child set.agent.name s'.base.records m s'.queries))
          (subst (λ z. Pair p.children z) (append-nil asked)
          (minding_pair (ℕ × ℕ) dec_pair parent child asked d fair once (id_of agent.number s.base.next) input (slot child s.children) (slot child p.children) [] (fresh.untaken s.base.next (omega arith)) (λ n i a e. fresh.unasked s.base.next (omega arith) n i a e) said
          (Minds.heard m got refl (λ i. subst (λ z. IsAlike (hear_slot_of m z i) (slot child p.children i)) same (all_hear child agent s'.base.now 0 m s'.base.next s'.base.records s'.children (ap length same ∙ even ∙ sym (ap length rows)) i.0 i.1))) pair))
        where
          p : Passed
          p = hear_all agent s'.base.now 0 m s'.base.next s'.base.records s'.children

          below : Heard
          below = hear_below set.agent.name s'.base.records m s'.queries

          hear_slot_of : Message → List (List ChildConnection) → ℕ × ℕ → ChildConnection
          hear_slot_of m z i = (hear m (slot child z i)).view

      receiving : (m : Message) (a b : Bool) → input ≡ Input.Got m → is_request m.body ≡ a → Now (receives a b set s m)
      unfolding receives saw
      receiving m true false got q = serving (sees m s) refl (saw_rows m) refl m (is_query m.body)
        where
          saw_rows : (m : Message) → (sees m s).base.records ≡ s.base.records
          saw_rows m = refl
      receiving m false false got q = heard_pair m (sees m s) got refl refl
      receiving m true true got q = plain_pair [] (none_reserves child)
      receiving m false true got q = plain_pair [] (none_reserves child)

      ticks_pair : (now : ℕ) → Now (ticks set now s)
      unfolding ticks
      ticks_pair now = plain_pair (clock_all agent now 0 s.dues s.base.waiting s.base.next s.base.records).out (clock_reserves child agent now 0 s.dues s.base.waiting s.base.next s.base.records)

step_pair : (set : Setting) (child : List ℕ) (d : Child) (fair : IsFair set.agent.name child d) (asked : List Message) (s : AgentState) (input : Input) (second : ℕ) → length s.children ≡ length s.base.records → IsFresh set.agent.name child set.agent.number d s.base.next asked →
    IsOnce set.agent.name asked → ((m : Message) → input ≡ Input.Got m → is_answering m.body ≡ true → m.header.provider ≡ child → MayReach (header_of set.agent.name child m.header.correlation) d.said m.body) →
    IsPair (ℕ × ℕ) set.agent.name child (slot child s.children) asked d → IsPair (ℕ × ℕ) set.agent.name child (slot child (step input second set s).state.children) (asked ++ (step input second set s).out) d
unfolding step
step_pair set child d fair asked s (Input.Got m) second even fresh once said pair = receiving set child d fair asked s even fresh pair once (Input.Got m) said m (is_request m.body) (is_seen s m) refl refl
step_pair set child d fair asked s Input.Tick second even fresh once said pair = ticks_pair set child d fair asked s even fresh pair once Input.Tick said second
step_pair set child d fair asked s (Input.Acked i) second even fresh once said pair = plain_pair set child d fair asked s even fresh pair [] (none_reserves child)
step_pair set child d fair asked s (Input.Work n machine) second even fresh once said pair = plain_pair set child d fair asked s even fresh pair [] (none_reserves child)
step_pair set child d fair asked s (Input.Force n) second even fresh once said pair = plain_pair set child d fair asked s even fresh pair [] (none_reserves child)
step_pair set child d fair asked s (Input.Ask n ask) second even fresh once said pair = plain_pair set child d fair asked s even fresh pair [] (none_reserves child)

pub aggregator_pair : (set : Setting) (child : List ℕ) (d : Child) (fair : IsFair set.agent.name child d) (asked : List Message) (s : AgentState) (e : Entry) → length s.children ≡ length s.base.records → IsFresh set.agent.name child set.agent.number d s.base.next asked →
    IsOnce set.agent.name asked → ((m : Message) → e.input ≡ Input.Got m → is_answering m.body ≡ true → m.header.provider ≡ child → MayReach (header_of set.agent.name child m.header.correlation) d.said m.body) →
    IsPair (ℕ × ℕ) set.agent.name child (slot child s.children) asked d → IsPair (ℕ × ℕ) set.agent.name child (slot child (after set s e).state.children) (asked ++ (after set s e).out) d
unfolding after
aggregator_pair set child d fair asked s e even fresh once said pair = by_test (may_take s e)
  where
    by_test : (b : Bool) → IsPair (ℕ × ℕ) set.agent.name child (slot child (after_if b set s e).state.children) (asked ++ (after_if b set s e).out) d
    by_test true = step_pair set child d fair asked s e.input e.second even fresh once said pair
    by_test false = plain_pair set child d fair asked s even fresh pair [] (none_reserves child)

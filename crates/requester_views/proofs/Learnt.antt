-- How a view of a requester came to know its connection: by answers to reserves of its own, the first of which named none and had the view's points.
use Rattle.std.proofs.Common.{ℕ, ◌≡◌, inl, inr, Bool, true, false, List, [], ◌∷◌, ◌++◌, Contains, Option, Some, None, refl, sym, subst, ◌∙◌, arith, slice_get}
use Rattle.std.specs.List.{All}
use Rattle.std.proofs.lemmas.List.Elements.{All-nil, All-cons, All-append, All-set, All-get_or, All-map, All-weaker, Contains-append_left, Contains-append_right}
use Rattle.std.proofs.lemmas.Option.{slice_get_within, get_or_from_slice_get}
use Rattle.nsi_primitive.specs.declared.ask.ReserveAsk.{ReserveAsk}
use Rattle.nsi_primitive.specs.declared.ask.What.{What}
use Rattle.nsi_primitive.specs.declared.entry.Entry.{Entry}
use Rattle.nsi_primitive.specs.declared.entry.Input.{Input}
use Rattle.nsi_primitive.specs.declared.kind.Kind.{Kind}
use Rattle.nsi_primitive.specs.declared.message.Body.{Body}
use Rattle.nsi_primitive.specs.declared.message.Message.{Message}
use Rattle.message_retry.specs.Retry.{is_old}
use Rattle.child_connection.specs.declared.state.Sent.{Sent}
use Rattle.child_connection.specs.Asks.{asks, request_about, reserve_for, to_child}
use Rattle.child_connection.specs.Places.{IsSamePlace}
use Rattle.child_connection.specs.Views.{ChildConnection, new_view, open_request}
use Rattle.child_connection.proofs.Places.{asks_known, asks_place}
use Rattle.agent_state.specs.declared.parent.View.{View}
use Rattle.agent_state.specs.Entries.{retry_of}
use Rattle.agent_state.specs.State.{AgentState}
use Rattle.requester_agent.specs.Queries.{query_for}
use Rattle.requester_agent.specs.Setting.{Setting}
use Rattle.requester_agent.specs.Steps.{find_view, next_id, answers, asks_at, asks_new, asks_found, reserves, sends_query, asked_of, asked, view_hears, hears_if, acked, ticks, step, may_take, after_if, after as requester_after}
use Rattle.requester_agent.specs.Views.{Asked, asks_if_free, asks_if_known, asks_about, service_if, reserve_of, asks_reserve}
use Rattle.requester_agent.proofs.Mild.{found-there}
use Rattle.nsi_agent.specs.Homes.{Role, requests, Home}
use Rattle.nsi_agent.specs.Steps.{after_as}
use Rattle.nsi_agent.specs.Told.{Told, told}
use Rattle.circuit_laws.proofs.Induct.{told_by}
use Rattle.circuit_laws.proofs.Learnt.{Awaits, IsAttempted, IsKnowing, knowing_more, attempted_same, learnt_same, other_awaits, reserve_awaits, hear_knowing}

---- A view that asks

new_knowing : (es : List Entry) (out : List Message) (child source dest : List ℕ) → IsKnowing es out (new_view child source dest)
new_knowing es out child source dest = record { attempted = λ c a. absurd (none c a); known = λ id e. absurd (cc) }
  where
    none : (c : ℕ) → Awaits (new_view child source dest) c → ⊥
    none c (inl e) = cc
    none c (inr e) = cc

module _ (es : List Entry) (out : List Message) where
  about_free : (o : Option Sent) (parent : List ℕ) (c : ℕ) (k : Kind) (body : Body) (x : ChildConnection) → (k ≡ Kind.Reserve → ⊥) → IsKnowing es out x → IsKnowing es out (asks_if_free o parent c k body x).child
  unfolding asks_if_free
  about_free (Some q) parent c k body x never h = h
  about_free None parent c k body x never h =
      let y : ChildConnection = asks k c x in
      let same : IsSamePlace x y = asks_place k c x in
      record {
        attempted = λ d a. attempted_same es out x y same d (h.attempted d (other_awaits k c d x never a));
        known = λ id e. learnt_same es out x y same id (h.known id (sym (asks_known k c x).0 ∙ e));
      }

  about_known : (o : Option ℕ) (parent : List ℕ) (c : ℕ) (k : Kind) (x : ChildConnection) → (k ≡ Kind.Reserve → ⊥) → IsKnowing es out x → IsKnowing es out (asks_if_known o parent c k x).child
  unfolding asks_if_known
  about_known None parent c k x never h = h
  about_known (Some id) parent c k x never h = about_free (open_request k x) parent c k (request_about k id) x never h

  -- a reserve is a first one between the view's points, or a modification of the connection that it knows
  attempted_by : (parent : List ℕ) (c : ℕ) (q : ReserveAsk) (x : ChildConnection) (o : Option ℕ) → x.connection ≡ o →
      Contains out (to_child parent c x (Body.Reserve (reserve_for (service_if o q.directionality x) q.version q.start q.end q.capacity x))) → IsKnowing es out x →
      IsAttempted es out x.child x.source x.dest c
  unfolding reserve_for
  attempted_by parent c q x None e there h =
      inl (record { message = _; there = there; to = refl; under = refl; reserve = _; body = refl; is = record { unnamed = refl; points = record { source = refl; dest = refl } } })
  attempted_by parent c q x (Some id) e there h = inr (id, record { message = _; there = there; to = refl; under = refl; reserve = _; body = refl; is = e }, h.known id e)

  reserve_free : (o : Option Sent) (parent : List ℕ) (c : ℕ) (q : ReserveAsk) (x : ChildConnection) → ((m : Message) → Contains (asks_if_free o parent c Kind.Reserve (reserve_of q x) x).out m → Contains out m) →
      IsKnowing es out x → IsKnowing es out (asks_if_free o parent c Kind.Reserve (reserve_of q x) x).child
  unfolding asks_if_free
  reserve_free (Some r) parent c q x said h = h
  reserve_free None parent c q x said h =
      let y : ChildConnection = asks Kind.Reserve c x in
      let same : IsSamePlace x y = asks_place Kind.Reserve c x in
      let here : IsAttempted es out x.child x.source x.dest c = attempted_by parent c q x x.connection refl (said (to_child parent c x (reserve_of q x)) (0, omega arith, refl)) h in
      record {
        attempted = λ d a. subst (IsAttempted es out y.child y.source y.dest) (reserve_awaits c d x a) (attempted_same es out x y same c here);
        known = λ id e. learnt_same es out x y same id (h.known id (sym (asks_known Kind.Reserve c x).0 ∙ e));
      }

  ---- All views

  abbrev Knows : View → Type 0
  Knows v = IsKnowing es out v.child

  found_knows : (vs : List View) (n : ℕ) (v : View) → slice_get vs n ≡ Some v → All Knows vs → Knows v
  found_knows vs n v e all = subst Knows (get_or_from_slice_get vs n v v e) (All-get_or Knows vs n v (slice_get_within vs n v e) all)

  at_knows : (found : ℕ × View) (x : Asked) (s : AgentState) → IsKnowing es out x.child → All Knows s.views → All Knows (asks_at found x s).state.views
  unfolding asks_at answers
  at_knows found x s h all = All-set Knows s.views found.0 _ h all

  new_knows : (label : List ℕ) (x : Asked) (s : AgentState) → IsKnowing es out x.child → All Knows s.views → All Knows (asks_new label x s).state.views
  unfolding asks_new answers
  new_knows label x s h all = All-append Knows s.views _ all (All-cons Knows (record { label = label; child = x.child }) [] h (All-nil Knows))

  -- the view that is found stands where it is found
  abbrev IsThere : AgentState → Option (ℕ × View) → Type 0
  IsThere s o = (found : ℕ × View) → o ≡ Some found → slice_get s.views found.0 ≡ Some found.1

  found_asks : (o : Option (ℕ × View)) (k : Kind) (set : Setting) (s : AgentState) → (k ≡ Kind.Reserve → ⊥) → IsThere s o → All Knows s.views → All Knows (asks_found o k set s).state.views
  unfolding asks_found
  found_asks None k set s never at all = all
  found_asks (Some found) k set s never at all =
      let x : ChildConnection = found.1.child in
      at_knows found (asks_about set.name (next_id set s) k x) s (about_known x.connection set.name (next_id set s) k x never (found_knows s.views found.0 found.1 (at found refl) all)) all

  reserves_ask : (o : Option (ℕ × View)) (q : ReserveAsk) (label : List ℕ) (set : Setting) (s : AgentState) → IsThere s o → ((m : Message) → Contains (reserves o q label set s).out m → Contains out m) →
      All Knows s.views → All Knows (reserves o q label set s).state.views
  unfolding reserves asks_new asks_at answers
  reserves_ask None q label set s at said all =
      let x : ChildConnection = new_view set.provider q.source q.dest in
      new_knows label (asks_reserve set.name (next_id set s) q x) s (reserve_free (open_request Kind.Reserve x) set.name (next_id set s) q x said (new_knowing es out set.provider q.source q.dest)) all
  reserves_ask (Some found) q label set s at said all =
      let x : ChildConnection = found.1.child in
      at_knows found (asks_reserve set.name (next_id set s) q x) s
      (reserve_free (open_request Kind.Reserve x) set.name (next_id set s) q x said (found_knows s.views found.0 found.1 (at found refl) all)) all

  query_asks : (o : Option Body) (set : Setting) (s : AgentState) → All Knows s.views → All Knows (sends_query o set s).state.views
  unfolding sends_query
  query_asks None set s all = all
  query_asks (Some body) set s all = all

  of_asks : (what : What) (label : List ℕ) (set : Setting) (s : AgentState) → ((m : Message) → Contains (asked_of what label (find_view label s.views) set s).out m → Contains out m) → All Knows s.views →
      All Knows (asked_of what label (find_view label s.views) set s).state.views
  unfolding asked_of
  of_asks (What.Reserve q) label set s said all = reserves_ask (find_view label s.views) q label set s (found-there label s.views) said all
  of_asks What.Commit label set s said all = found_asks (find_view label s.views) Kind.ReserveCommit set s (λ k. cc) (found-there label s.views) all
  of_asks What.Abort label set s said all = found_asks (find_view label s.views) Kind.ReserveAbort set s (λ k. cc) (found-there label s.views) all
  of_asks What.Provision label set s said all = found_asks (find_view label s.views) Kind.Provision set s (λ k. cc) (found-there label s.views) all
  of_asks What.Release label set s said all = found_asks (find_view label s.views) Kind.Release set s (λ k. cc) (found-there label s.views) all
  of_asks What.Terminate label set s said all = found_asks (find_view label s.views) Kind.Terminate set s (λ k. cc) (found-there label s.views) all
  of_asks what label set s said all = query_asks (query_for what (find_view label s.views)) set s all

  all_ask : (label : Option (List ℕ)) (what : What) (set : Setting) (s : AgentState) → ((m : Message) → Contains (asked label what set s).out m → Contains out m) → All Knows s.views →
      All Knows (asked label what set s).state.views
  unfolding asked
  all_ask None What.Summary set s said all = query_asks (Some (Body.QuerySummary None)) set s all
  all_ask None what set s said all = all
  all_ask (Some label) what set s said all = of_asks what label set s said all

  ---- Entries

  module _ (e : Entry) (there : Contains es e) where
    all_hear : (b : Bool) (m : Message) (s : AgentState) → e.input ≡ Input.Got m → All Knows s.views → All Knows (hears_if b m s).state.views
    unfolding hears_if
    all_hear true m s got all = all
    all_hear false m s got all =
        All-map Knows (view_hears m) s.views (All-weaker Knows (λ v. Knows (view_hears m v)) (λ v h. hear_knowing es out e there m got v.child h) s.views all)

    step_knows : (input : Input) (second : ℕ) (set : Setting) (s : AgentState) → e.input ≡ input → ((m : Message) → Contains (step input second set s).out m → Contains out m) → All Knows s.views →
        All Knows (step input second set s).state.views
    unfolding step ticks acked
    step_knows (Input.Ask number ask) second set s got said all = all_ask ask.label ask.what set s said all
    step_knows (Input.Got m) second set s got said all = all_hear (is_old m (retry_of s.base)) m s got all
    step_knows Input.Tick second set s got said all = all
    step_knows (Input.Acked i) second set s got said all = all
    step_knows (Input.Work n machine) second set s got said all = all
    step_knows (Input.Force n) second set s got said all = all

    after_knows : (b : Bool) (set : Setting) (s : AgentState) → ((m : Message) → Contains (after_if b set s e).out m → Contains out m) → All Knows s.views → All Knows (after_if b set s e).state.views
    after_knows false set s said all = all
    after_knows true set s said all = step_knows e.input e.second set s refl said all

-- what is known by some entries, and behind one more
abbrev KnowAll : List Entry → Told → Type 0
KnowAll es x = All (λ (v : View). IsKnowing es x.out v.child) x.state.views

abbrev KnowsMore : Role → Type 0
KnowsMore role =
    (es : List Entry) (x : Told) (e : Entry) → KnowAll es x → KnowAll (es ++ e ∷ []) (record { state = (after_as role x.state e).state; out = x.out ++ (after_as role x.state e).out })

requester_knows : (set : Setting) → KnowsMore (requests set)
unfolding after_as requester_after
requester_knows set es x e all =
    let more : List Message = (after_if (may_take x.state e) set x.state e).out in
    let out : List Message = x.out ++ more in
    let fs : List Entry = es ++ e ∷ [] in
    after_knows fs out e (Contains-append_right es (e ∷ []) e (0, omega arith, refl)) (may_take x.state e) set x.state (λ m i. Contains-append_right x.out more m i)
    (All-weaker (λ (v : View). IsKnowing es x.out v.child) (λ (v : View). IsKnowing fs out v.child)
    (λ v h. knowing_more x.out out (λ m i. Contains-append_left x.out more m i) es (e ∷ []) v.child h) x.state.views all)

-- whatever entries a requester has taken
pub told_learnt : (h : Home) (set : Setting) → h.role ≡ requests set → (es : List Entry) → All (λ (v : View). IsKnowing es (told h es).out v.child) (told h es).state.views
told_learnt h set role es = told_by h KnowAll (λ fs e all. knows fs (told h fs) e all) (All-nil (λ (v : View). IsKnowing [] [] v.child)) es
  where
    knows : KnowsMore h.role
    knows = subst KnowsMore (sym role) (requester_knows set)

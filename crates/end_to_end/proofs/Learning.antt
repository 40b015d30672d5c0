-- How a view of a requester came to know its connection: by answers to reserves of its own, the first of which named none and had the view's points.
use Rattle.std.proofs.Common.{ℕ, ◌≡◌, ◌⊎◌, inl, inr, Bool, true, false, List, [], ◌∷◌, ◌++◌, Contains, Option, Some, None, slice_get, refl, ap, subst, arith}
use Rattle.std.specs.List.{All}
use Rattle.std.proofs.lemmas.List.Elements.{All-nil, All-weaker, All-map, All-set, All-append, All-cons, All-contains, Contains-append_left, Contains-append_right}
use Rattle.std.proofs.lemmas.Option.{get_or_from_slice_get, slice_get_within}
use Rattle.nsi_primitive.specs.declared.ask.ReserveAsk.{ReserveAsk}
use Rattle.nsi_primitive.specs.declared.ask.What.{What}
use Rattle.nsi_primitive.specs.declared.entry.Entry.{Entry}
use Rattle.nsi_primitive.specs.declared.entry.Input.{Input}
use Rattle.nsi_primitive.specs.declared.kind.Kind.{Kind}
use Rattle.nsi_primitive.specs.declared.message.Body.{Body}
use Rattle.nsi_primitive.specs.declared.message.Message.{Message}
use Rattle.nsi_primitive.specs.declared.message.ReserveRequest.{ReserveRequest}
use Rattle.message_retry.specs.Retry.{is_old}
use Rattle.child_connection.specs.declared.state.Sent.{Sent}
use Rattle.child_connection.specs.Asks.{asks, request_about, reserve_for, first_reserve, modification, to_child}
use Rattle.child_connection.specs.Views.{ChildConnection, sent, open_request, new_view}
use Rattle.agent_state.specs.declared.parent.View.{View}
use Rattle.agent_state.specs.Entries.{retry_of}
use Rattle.agent_state.specs.State.{AgentState, AgentStepped}
use Rattle.requester_agent.specs.Queries.{query_for}
use Rattle.requester_agent.specs.Setting.{Setting}
use Rattle.requester_agent.specs.Views.{Asked, service_between, service_if, reserve_of, asks_if_free, asks_if_known, asks_about}
use Rattle.requester_agent.specs.Steps.{next_id, find_view, answers, asks_at, asks_new, asks_found, reserves, sends_query, asked_of, asked, view_hears, hears_if, acked, ticks, step, may_take, after_if, after as requester_after}
use Rattle.requester_agent.proofs.Mild.{found-there}
use Rattle.nsi_agent.specs.Homes.{Role, provides, aggregates, requests, Home}
use Rattle.nsi_agent.specs.Steps.{after, after_as}
use Rattle.nsi_agent.specs.Told.{Told, told}
use Rattle.circuit_laws.proofs.Induct.{told_then, told_by}
use Rattle.circuit_laws.proofs.Learnt.{IsTaught, IsReserved, IsFirstBetween, IsModification, IsLearnt, IsKnowing, reserved_more, hear_knowing}

abbrev Awaits : ChildConnection → ℕ → Type 0
Awaits x c = (x.attempt ≡ Some c) ⊎ (x.reserve_request ≡ Some (sent c Kind.Reserve))

abbrev IsAttempted : List Entry → List Message → List ℕ → List ℕ → List ℕ → ℕ → Type 0
IsAttempted es out child source dest c =
    IsReserved out child c (IsFirstBetween source dest) ⊎ ((id : ℕ) × IsReserved out child c (IsModification id) × IsLearnt es out child source dest id)

---- More entries

module _ (es fs : List Entry) (out more : List Message) (said : (m : Message) → Contains out m → Contains more m) where
  taught_more : (child : List ℕ) (c id : ℕ) → IsTaught es child c id → IsTaught (es ++ fs) child c id
  taught_more child c id t = record { entry = t.entry; there = Contains-append_left es fs t.entry t.there; message = t.message; got = t.got; from = t.from; under = t.under; teaches = t.teaches }

  learnt_more : (child source dest : List ℕ) (id : ℕ) → IsLearnt es out child source dest id → IsLearnt (es ++ fs) more child source dest id
  learnt_more child source dest _ (IsLearnt.first c id t r) = IsLearnt.first c id (taught_more child c id t) (reserved_more out more said child c (IsFirstBetween source dest) r)
  learnt_more child source dest _ (IsLearnt.again c id old t r l) =
      IsLearnt.again c id old (taught_more child c id t) (reserved_more out more said child c (IsModification old) r) (learnt_more child source dest old l)

  attempted_more : (child source dest : List ℕ) (c : ℕ) → IsAttempted es out child source dest c → IsAttempted (es ++ fs) more child source dest c
  attempted_more child source dest c (inl r) = inl (reserved_more out more said child c (IsFirstBetween source dest) r)
  attempted_more child source dest c (inr (id, r, l)) = inr (id, reserved_more out more said child c (IsModification id) r, learnt_more child source dest id l)

  knowing_more : (x : ChildConnection) → IsKnowing es out x → IsKnowing (es ++ fs) more x
  knowing_more x k =
      record { attempted = λ c a. attempted_more x.child x.source x.dest c (k.attempted c a); known = λ id e. learnt_more x.child x.source x.dest id (k.known id e) }

---- A view that asks

same_sent : (a b : Sent) → Some a ≡ Some b → a ≡ b
same_sent a b e = cc

same_number : (a b : ℕ) → Some a ≡ Some b → a ≡ b
same_number a b e = cc

not_sent : (k : Kind) (c d : ℕ) → (k ≡ Kind.Reserve → ⊥) → Some (sent c k) ≡ Some (sent d Kind.Reserve) → ⊥
not_sent k c d never e = never (ap (λ (z : Sent). z.kind) (same_sent (sent c k) (sent d Kind.Reserve) e))

module _ (es : List Entry) (out : List Message) where
  -- a request of another kind
  beside_knowing : (k : Kind) (c : ℕ) (x : ChildConnection) → (k ≡ Kind.Reserve → ⊥) → IsKnowing es out x → IsKnowing es out (asks k c x)
  unfolding asks
  beside_knowing Kind.Reserve c x never h = absurd (never refl)
  beside_knowing Kind.ReserveCommit c x never h = record { attempted = λ d a. elim a [ inl e ↦ h.attempted d (inl e) | inr e ↦ absurd (not_sent Kind.ReserveCommit c d never e) ]; known = h.known }
  beside_knowing Kind.ReserveAbort c x never h = record { attempted = λ d a. elim a [ inl e ↦ h.attempted d (inl e) | inr e ↦ absurd (not_sent Kind.ReserveAbort c d never e) ]; known = h.known }
  beside_knowing Kind.Provision c x never h = record { attempted = λ d a. h.attempted d a; known = h.known }
  beside_knowing Kind.Release c x never h = record { attempted = λ d a. h.attempted d a; known = h.known }
  beside_knowing Kind.Terminate c x never h = record { attempted = λ d a. h.attempted d a; known = h.known }
  beside_knowing _ c x never h = h

  free_knowing : (o : Option Sent) (parent : List ℕ) (c : ℕ) (k : Kind) (body : Body) (x : ChildConnection) → (k ≡ Kind.Reserve → ⊥) → IsKnowing es out x → IsKnowing es out (asks_if_free o parent c k body x).child
  unfolding asks_if_free
  free_knowing None parent c k body x never h = beside_knowing k c x never h
  free_knowing (Some q) parent c k body x never h = h

  about_knowing : (o : Option ℕ) (parent : List ℕ) (c : ℕ) (k : Kind) (x : ChildConnection) → (k ≡ Kind.Reserve → ⊥) → IsKnowing es out x → IsKnowing es out (asks_if_known o parent c k x).child
  unfolding asks_if_known
  about_knowing None parent c k x never h = h
  about_knowing (Some id) parent c k x never h = free_knowing (open_request k x) parent c k (request_about k id) x never h

  -- a reserve: a first one between the view's points, or a modification of the connection that it knows
  reserve_is : (o : Option ℕ) (q : ReserveAsk) (parent : List ℕ) (c : ℕ) (x : ChildConnection) → x.connection ≡ o → IsKnowing es out x →
      Contains out (to_child parent c x (Body.Reserve (reserve_for (service_if o q.directionality x) q.version q.start q.end q.capacity x))) → IsAttempted es out x.child x.source x.dest c
  unfolding reserve_for
  reserve_is None q parent c x e h there =
      let r : ReserveRequest = first_reserve (service_between q.directionality x) q.version q.start q.end q.capacity x in
      inl (record { message = to_child parent c x (Body.Reserve r); there = there; to = refl; under = refl; reserve = r; body = refl; is = record { unnamed = refl; points = record { source = refl; dest = refl } } })
  reserve_is (Some id) q parent c x e h there =
      let r : ReserveRequest = modification x.connection q.version q.start q.end q.capacity in
      inr (id, record { message = to_child parent c x (Body.Reserve r); there = there; to = refl; under = refl; reserve = r; body = refl; is = e }, h.known id e)

  reserve_awaits : (c d : ℕ) (x : ChildConnection) → Awaits (asks Kind.Reserve c x) d → c ≡ d
  unfolding asks
  reserve_awaits c d x (inl e) = same_number c d e
  reserve_awaits c d x (inr e) = ap (λ (z : Sent). z.correlation) (same_sent (sent c Kind.Reserve) (sent d Kind.Reserve) e)

  asked_knowing : (c : ℕ) (x : ChildConnection) → IsKnowing es out x → IsAttempted es out x.child x.source x.dest c → IsKnowing es out (asks Kind.Reserve c x)
  unfolding asks
  asked_knowing c x h here = record { attempted = λ d a. subst (IsAttempted es out x.child x.source x.dest) (reserve_awaits c d x a) here; known = h.known }

  reserve_knowing : (o : Option Sent) (q : ReserveAsk) (parent : List ℕ) (c : ℕ) (x : ChildConnection) → IsKnowing es out x →
      ((m : Message) → Contains (asks_if_free o parent c Kind.Reserve (reserve_of q x) x).out m → Contains out m) → IsKnowing es out (asks_if_free o parent c Kind.Reserve (reserve_of q x) x).child
  unfolding asks_if_free
  reserve_knowing (Some r) q parent c x h said = h
  reserve_knowing None q parent c x h said =
      asked_knowing c x h (reserve_is x.connection q parent c x refl h (said (to_child parent c x (reserve_of q x)) (0, omega arith, refl)))

  new_knowing : (child source dest : List ℕ) → IsKnowing es out (new_view child source dest)
  new_knowing child source dest = record { attempted = λ c a. elim a [ inl e ↦ absurd (cc) | inr e ↦ absurd (cc) ]; known = λ id e. absurd (cc) }

---- A requester

-- what stands at a place
pub there_is : (vs : List View) (i : ℕ) (v : View) → slice_get vs i ≡ Some v → Contains vs v
there_is vs i v there = (i, slice_get_within vs i v there, get_or_from_slice_get vs i v v there)

abbrev AllKnow : List Entry → List Message → List View → Type 0
AllKnow es out vs = All (λ (v : View). IsKnowing es out v.child) vs

module _ (es : List Entry) (e : Entry) (out : List Message) (set : Setting) (s : AgentState) (last : Contains es e) (all : AllKnow es out s.views) where
  -- what is said joins what was said
  abbrev Joins : AgentStepped → Type 0
  Joins x = ((m : Message) → Contains x.out m → Contains out m) → AllKnow es out x.state.views

  found_view : (found : ℕ × View) → slice_get s.views found.0 ≡ Some found.1 → IsKnowing es out found.1.child
  found_view found there = All-contains (λ (v : View). IsKnowing es out v.child) s.views found.1 all (there_is s.views found.0 found.1 there)

  at_knowing : (found : ℕ × View) (x : Asked) → IsKnowing es out x.child → AllKnow es out (asks_at found x s).state.views
  unfolding asks_at answers
  at_knowing found x h = All-set (λ (v : View). IsKnowing es out v.child) s.views found.0 (record found.1 { child = x.child }) h all

  found_knowing : (o : Option (ℕ × View)) (k : Kind) → (k ≡ Kind.Reserve → ⊥) → ((found : ℕ × View) → o ≡ Some found → slice_get s.views found.0 ≡ Some found.1) → Joins (asks_found o k set s)
  unfolding asks_found
  found_knowing None k never there said = all
  found_knowing (Some found) k never there said =
      at_knowing found (asks_about set.name (next_id set s) k found.1.child) (about_knowing es out found.1.child.connection set.name (next_id set s) k found.1.child never (found_view found (there found refl)))

  reserves_knowing : (o : Option (ℕ × View)) (q : ReserveAsk) (label : List ℕ) → ((found : ℕ × View) → o ≡ Some found → slice_get s.views found.0 ≡ Some found.1) → Joins (reserves o q label set s)
  unfolding reserves asks_new asks_at answers
  reserves_knowing None q label there said =
      let x : ChildConnection = new_view set.provider q.source q.dest in
      All-append (λ (v : View). IsKnowing es out v.child) s.views _ all
      (All-cons (λ (v : View). IsKnowing es out v.child) _ [] (reserve_knowing es out (open_request Kind.Reserve x) q set.name (next_id set s) x (new_knowing es out set.provider q.source q.dest) said)
      (All-nil (λ (v : View). IsKnowing es out v.child)))
  reserves_knowing (Some found) q label there said =
      All-set (λ (v : View). IsKnowing es out v.child) s.views found.0 _
      (reserve_knowing es out (open_request Kind.Reserve found.1.child) q set.name (next_id set s) found.1.child (found_view found (there found refl)) said) all

  sends_knowing : (query : Option Body) → Joins (sends_query query set s)
  unfolding sends_query
  sends_knowing None said = all
  sends_knowing (Some body) said = all

  of_knowing : (what : What) (label : List ℕ) → Joins (asked_of what label (find_view label s.views) set s)
  unfolding asked_of
  of_knowing (What.Reserve q) label = reserves_knowing (find_view label s.views) q label (found-there label s.views)
  of_knowing What.Commit label = found_knowing (find_view label s.views) Kind.ReserveCommit (λ k. cc) (found-there label s.views)
  of_knowing What.Abort label = found_knowing (find_view label s.views) Kind.ReserveAbort (λ k. cc) (found-there label s.views)
  of_knowing What.Provision label = found_knowing (find_view label s.views) Kind.Provision (λ k. cc) (found-there label s.views)
  of_knowing What.Release label = found_knowing (find_view label s.views) Kind.Release (λ k. cc) (found-there label s.views)
  of_knowing What.Terminate label = found_knowing (find_view label s.views) Kind.Terminate (λ k. cc) (found-there label s.views)
  of_knowing what label = sends_knowing (query_for what (find_view label s.views))

  asks_knowing : (label : Option (List ℕ)) (what : What) → Joins (asked label what set s)
  unfolding asked
  asks_knowing None What.Summary said = sends_knowing (Some (Body.QuerySummary None)) said
  asks_knowing None what said = all
  asks_knowing (Some label) what said = of_knowing what label said

  heard_knowing : (b : Bool) (m : Message) → e.input ≡ Input.Got m → Joins (hears_if b m s)
  unfolding hears_if
  heard_knowing true m got said = all
  heard_knowing false m got said =
      All-map (λ (v : View). IsKnowing es out v.child) (view_hears m) s.views (All-weaker (λ (v : View). IsKnowing es out v.child) (λ (v : View). IsKnowing es out (view_hears m v).child) (λ v h. hear_knowing es out e last m got v.child h) s.views all)

  step_knowing : (input : Input) → e.input ≡ input → (second : ℕ) → Joins (step input second set s)
  unfolding step ticks acked
  step_knowing (Input.Ask number ask) same second said = asks_knowing ask.label ask.what said
  step_knowing (Input.Got m) same second said = heard_knowing (is_old m (retry_of s.base)) m same said
  step_knowing Input.Tick same second said = all
  step_knowing (Input.Acked i) same second said = all
  step_knowing (Input.Work n machine) same second said = all
  step_knowing (Input.Force n) same second said = all

  entry_knowing : Joins (requester_after set s e)
  unfolding requester_after
  entry_knowing = by (may_take s e)
    where
      by : (b : Bool) → Joins (after_if b set s e)
      by false said = all
      by true said = step_knowing e.input refl e.second said

role_knowing : (role : Role) (set : Setting) → role ≡ requests set → (es : List Entry) (e : Entry) (out : List Message) (s : AgentState) → Contains es e → AllKnow es out s.views →
    ((m : Message) → Contains (after_as role s e).out m → Contains out m) → AllKnow es out (after_as role s e).state.views
unfolding after_as
role_knowing (requests own) set is es e out s last all said = entry_knowing es e out own s last all said
role_knowing (provides own stp_of) set is es e out s last all said = absurd (cc)
role_knowing (aggregates own) set is es e out s last all said = absurd (cc)

-- whatever entries a requester has taken
pub told_knowing : (h : Home) (set : Setting) → h.role ≡ requests set → (es : List Entry) → AllKnow es (told h es).out (told h es).state.views
told_knowing h set role es = told_by h (λ fs x. AllKnow fs x.out x.state.views) more (All-nil (λ (v : View). IsKnowing [] [] v.child)) es
  where
    more : (fs : List Entry) (e : Entry) → AllKnow fs (told h fs).out (told h fs).state.views → (let x : Told = told_then h (told h fs) e in AllKnow (fs ++ e ∷ []) x.out x.state.views)
    more fs e all =
        let s : AgentState = (told h fs).state in
        let out : List Message = (told h fs).out in
        let new : List Message = out ++ (after h s e).out in
        role_knowing h.role set role (fs ++ e ∷ []) e new s (Contains-append_right fs (e ∷ []) e (0, omega arith, refl))
        (All-weaker (λ (v : View). IsKnowing fs out v.child) (λ (v : View). IsKnowing (fs ++ e ∷ []) new v.child)
        (λ v k. knowing_more fs (e ∷ []) out new (λ m i. Contains-append_left out (after h s e).out m i) v.child k) s.views all)
        (λ m i. Contains-append_right out (after h s e).out m i)

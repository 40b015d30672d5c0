-- What a requester asks is worth no more than its asks.
use Rattle.std.proofs.Common.{ℕ, ◌≤◌, ◌≡◌, ◌∙◌, Bool, true, false, List, [], ◌∷◌, ◌++◌, Option, Some, None, refl, sym, ap, subst, arith, bytes_eq, position, slice_get}
use Rattle.std.specs.List.{All}
use Rattle.std.specs.Option.{option_map, option_and_then}
use Rattle.std.proofs.lemmas.List.Elements.{All-nil, All-cons, All-append, All-contains, All-get_or, All-map, All-set, All-weaker, Contains-append_right}
use Rattle.std.proofs.lemmas.List.Quantifiers.{position-Some}
use Rattle.std.proofs.lemmas.List.Sums.{sum_by-cons}
use Rattle.std.proofs.lemmas.Option.{none-some, get_or_from_slice_get, slice_get_within}
use Rattle.std.proofs.lemmas.Slice.Eq.{bytes_eq-Decides}
use Rattle.nsi_primitive.specs.Messages.{connection_of}
use Rattle.nsi_primitive.specs.declared.ask.AskAnswer.{AskAnswer}
use Rattle.nsi_primitive.specs.declared.ask.ReserveAsk.{ReserveAsk}
use Rattle.nsi_primitive.specs.declared.ask.What.{What}
use Rattle.nsi_primitive.specs.declared.entry.Entry.{Entry}
use Rattle.nsi_primitive.specs.declared.entry.Input.{Input}
use Rattle.nsi_primitive.specs.declared.kind.Kind.{Kind}
use Rattle.nsi_primitive.specs.declared.message.Body.{Body}
use Rattle.nsi_primitive.specs.declared.message.Message.{Message}
use Rattle.message_retry.specs.Retry.{is_old}
use Rattle.child_connection.specs.declared.state.Sent.{Sent}
use Rattle.child_connection.specs.Asks.{request_about, to_child}
use Rattle.child_connection.specs.Places.{IsSamePlace}
use Rattle.child_connection.specs.Views.{ChildConnection, new_view, open_request}
use Rattle.child_connection.proofs.Places.{asks_place, hear_place}
use Rattle.agent_state.specs.declared.parent.Leg.{Leg}
use Rattle.agent_state.specs.declared.parent.View.{View}
use Rattle.agent_state.specs.Entries.{retry_of}
use Rattle.agent_state.specs.State.{AgentState, AgentStepped, blank_agent}
use Rattle.requester_agent.specs.Queries.{query_about, query_for, query_under}
use Rattle.requester_agent.specs.Setting.{Setting}
use Rattle.requester_agent.specs.Views.{Asked, service_if, asks_if_free, asks_if_known, asks_about, asks_reserve, reserve_of}
use Rattle.requester_agent.specs.Steps.{view_at, find_view, next_id, answers, asks_at, asks_new, asks_found, reserves, sends_query, asked_of, asked, view_hears, hears_if, acked, ticks, step, may_take, after_if, after as requester_after}
use Rattle.requester_agent.proofs.Mild.{found-there}
use Rattle.nsi_agent.specs.Homes.{Home, requests}
use Rattle.nsi_agent.specs.Steps.{after_as, after}
use Rattle.nsi_agent.specs.Told.{Told, goes_on}
use Rattle.request_worth.specs.Worth.{worth_of, leg_in, IsFee, CostsItsLeg, IsAbout, ask_worth, entry_worth, asks_worth, IsWithinLabel}
use Rattle.request_worth.specs.Laws.{RequestersAskNoMore}
use Rattle.request_worth.proofs.Fees.{worth_none, worth_append, worth_few}
use Rattle.request_worth.proofs.Views.{FromEach, at_first, at_next, about_names, new_costs, same_leg, named_costs, reserve_costs}

---- A label's view

same_bytes : (xs ys : List ℕ) → bytes_eq xs ys ≡ true → xs ≡ ys
same_bytes xs ys e = (bytes_eq-Decides xs ys).0 e

found_label : (label : List ℕ) (vs : List View) (found : ℕ × View) → find_view label vs ≡ Some found → label ≡ found.1.label
unfolding find_view
found_label label vs found = by_place (position (λ v. bytes_eq label v.label) vs) refl
  where
    is_it : View → Bool
    is_it v = bytes_eq label v.label

    by_view : (n : ℕ) (o : Option View) → position is_it vs ≡ Some n → slice_get vs n ≡ o → option_map (λ v. (n, v)) o ≡ Some found → label ≡ found.1.label
    by_view n None p e h = absurd (none-some found h)
    by_view n (Some v) p e h =
        let same : (n, v) ≡ found = cc in
        let its : label ≡ v.label = same_bytes label v.label (subst (λ w. is_it w ≡ true) (get_or_from_slice_get vs n v v e) (position-Some is_it vs n v p).1) in
        subst (λ (f : ℕ × View). label ≡ f.1.label) same its

    by_place : (o : Option ℕ) → position is_it vs ≡ o → option_and_then (view_at vs) o ≡ Some found → label ≡ found.1.label
    by_place None p h = absurd (none-some found h)
    by_place (Some n) p h = by_view n (slice_get vs n) p refl h

pub found_is : (P : View → Type 0) (label : List ℕ) (vs : List View) (found : ℕ × View) → All P vs → find_view label vs ≡ Some found → P found.1
found_is P label vs found all e =
    let there : slice_get vs found.0 ≡ Some found.1 = found-there label vs found e in
    subst P (get_or_from_slice_get vs found.0 found.1 found.1 there) (All-get_or P vs found.0 found.1 (slice_get_within vs found.0 found.1 there) all)

-- the last of a list that one more joined
last_is : (P : View → Type 0) (vs : List View) (v : View) → All P (vs ++ v ∷ []) → P v
last_is P vs v all = All-contains P (vs ++ v ∷ []) v all (Contains-append_right vs (v ∷ []) v (0, omega arith, refl))

---- A view that is asked

served : (o : Option ℕ) (q : ReserveAsk) (x : ChildConnection) → service_if o q.directionality x ≡ None → (id : ℕ) × (o ≡ Some id)
served None q x e = absurd (cc)
served (Some id) q x e = (id, refl)

-- its place is the same
abbrev pub IsOfPlace : ChildConnection → Asked → Type 0
IsOfPlace x a = IsSamePlace x a.child

same_place : (x : ChildConnection) → IsSamePlace x x
same_place x = record { child = refl; source = refl; dest = refl }

pub free_place : (o : Option Sent) (parent : List ℕ) (c : ℕ) (k : Kind) (body : Body) (x : ChildConnection) → IsOfPlace x (asks_if_free o parent c k body x)
unfolding asks_if_free
free_place (Some q) parent c k body x = same_place x
free_place None parent c k body x = asks_place k c x

pub known_place : (o : Option ℕ) (parent : List ℕ) (c : ℕ) (k : Kind) (x : ChildConnection) → IsOfPlace x (asks_if_known o parent c k x)
unfolding asks_if_known
known_place None parent c k x = same_place x
known_place (Some id) parent c k x = free_place (open_request k x) parent c k (request_about k id) x

module _ (price : Leg → ℕ) (fee : Message → ℕ) (is : IsFee price fee) where
  free_costs : (o : Option Sent) (parent : List ℕ) (c : ℕ) (k : Kind) (body : Body) (x : ChildConnection) → fee (to_child parent c x body) ≤ price (leg_in x) → worth_of fee (asks_if_free o parent c k body x).out ≤ price (leg_in x)
  unfolding asks_if_free
  free_costs (Some q) parent c k body x few = omega (arith, worth_none fee)
  free_costs None parent c k body x few = omega (arith, worth_few fee (to_child parent c x body), few)

  known_costs : (o : Option ℕ) (parent : List ℕ) (c : ℕ) (k : Kind) (x : ChildConnection) → CostsItsLeg price fee parent x → x.connection ≡ o → worth_of fee (asks_if_known o parent c k x).out ≤ price (leg_in x)
  unfolding asks_if_known
  known_costs None parent c k x costs e = omega (arith, worth_none fee)
  known_costs (Some id) parent c k x costs e =
      free_costs (open_request k x) parent c k (request_about k id) x (named_costs price fee is parent c x costs id (request_about k id) e (about_names k id))

  ask_costs : (parent : List ℕ) (c : ℕ) (q : ReserveAsk) (x : ChildConnection) → CostsItsLeg price fee parent x → worth_of fee (asks_reserve parent c q x).out ≤ price (leg_in x)
  ask_costs parent c q x costs =
      free_costs (open_request Kind.Reserve x) parent c Kind.Reserve (reserve_of q x) x
      (reserve_costs price fee is parent c x costs (service_if x.connection q.directionality x) q.version q.start q.end q.capacity (served x.connection q x))

---- An ask

-- the children of its views are the agent that it asks
abbrev AsksThat : Setting → View → Type 0
AsksThat set v = v.child.child ≡ set.provider

query_names : (what : What) (id : ℕ) (body : Body) → query_about what id ≡ Some body → connection_of body ≡ Some id
unfolding query_about connection_of
query_names What.Summary id body e = let s : Body.QuerySummary (Some id) ≡ body = cc in subst (λ b. connection_of b ≡ Some id) s refl
query_names what id body e = grind (arith, e)

module _ (set : Setting) (price : Leg → ℕ) (fee : Message → ℕ) (worth : Option (List ℕ) → ℕ) (is : IsFee price fee) (plain : (m : Message) → m.body ≡ Body.QuerySummary None → fee m ≤ worth None) where
  abbrev Within : AgentState → Type 0
  Within s = All (IsWithinLabel price fee set.name worth) s.views

  -- what an entry says is worth so much at most, where that is so of each view before and behind it
  record IsStep (n : ℕ) (s : AgentState) (x : AgentStepped) : Type 0 where
    paid : Within s → Within x.state → worth_of fee x.out ≤ n
    there : All (AsksThat set) x.state.views

  quiet : (n : ℕ) (s t : AgentState) (answer : Option AskAnswer) → All (AsksThat set) t.views → IsStep n s (record { state = t; out = []; answer = answer })
  quiet n s t answer there = record { paid = λ a b. omega (arith, worth_none fee); there = there }

  module _ (s : AgentState) (there : All (AsksThat set) s.views) where
    asked_at : (label : List ℕ) (found : ℕ × View) (x : Asked) → find_view label s.views ≡ Some found → IsSamePlace found.1.child x.child →
        (CostsItsLeg price fee set.name found.1.child → worth_of fee x.out ≤ price (leg_in found.1.child)) → IsStep (worth (Some label)) s (asks_at found x s)
    unfolding asks_at answers
    asked_at label found x e place costs =
        record {
          paid = λ within after.
              let w : IsWithinLabel price fee set.name worth found.1 = found_is (IsWithinLabel price fee set.name worth) label s.views found within e in
              omega (arith, costs w.about, w.leg, ap (λ l. worth (Some l)) (found_label label s.views found e));
          there = All-set (AsksThat set) s.views found.0 (record found.1 { child = x.child }) (place.child ∙ found_is (AsksThat set) label s.views found there e) there;
        }

    found_step : (label : List ℕ) (o : Option (ℕ × View)) (k : Kind) → find_view label s.views ≡ o → IsStep (worth (Some label)) s (asks_found o k set s)
    unfolding asks_found
    found_step label None k e = quiet (worth (Some label)) s s (Some AskAnswer.NoId) there
    found_step label (Some found) k e =
        let x : ChildConnection = found.1.child in
        asked_at label found (asks_about set.name (next_id set s) k x) e (known_place x.connection set.name (next_id set s) k x)
        (λ costs. known_costs price fee is x.connection set.name (next_id set s) k x costs refl)

    reserves_step : (label : List ℕ) (o : Option (ℕ × View)) (q : ReserveAsk) → find_view label s.views ≡ o → IsStep (worth (Some label)) s (reserves o q label set s)
    unfolding reserves asks_new answers
    reserves_step label None q e =
        let x : ChildConnection = new_view set.provider q.source q.dest in
        let a : Asked = asks_reserve set.name (next_id set s) q x in
        let v : View = record { label = label; child = a.child } in
        let place : IsSamePlace x a.child = free_place (open_request Kind.Reserve x) set.name (next_id set s) Kind.Reserve (reserve_of q x) x in
        record {
          paid = λ before within.
              let w : IsWithinLabel price fee set.name worth v = last_is (IsWithinLabel price fee set.name worth) s.views v within in
              omega (
                arith,
                ask_costs price fee is set.name (next_id set s) q x (new_costs price fee set.name set.provider q.source q.dest),
                w.leg,
                ap price (same_leg x a.child place),
              );
          there = All-append (AsksThat set) s.views (v ∷ []) there (All-cons (AsksThat set) v [] place.child (All-nil (AsksThat set)));
        }
    reserves_step label (Some found) q e =
        let x : ChildConnection = found.1.child in
        asked_at label found (asks_reserve set.name (next_id set s) q x) e (free_place (open_request Kind.Reserve x) set.name (next_id set s) Kind.Reserve (reserve_of q x) x)
        (λ costs. ask_costs price fee is set.name (next_id set s) q x costs)

    sends_step : (n : ℕ) (o : Option Body) → ((body : Body) → o ≡ Some body → Within s → fee (query_under set (next_id set s) body) ≤ n) → IsStep n s (sends_query o set s)
    unfolding sends_query
    sends_step n None h = quiet n s s (Some AskAnswer.NoId) there
    sends_step n (Some body) h = record { paid = λ within after. omega (arith, worth_few fee (query_under set (next_id set s) body), h body refl within); there = there }

    query_costs : (label : List ℕ) (what : What) (o : Option (ℕ × View)) (body : Body) → find_view label s.views ≡ o → query_for what o ≡ Some body → Within s →
        fee (query_under set (next_id set s) body) ≤ worth (Some label)
    query_costs label what None body e q within = absurd (none-some body q)
    query_costs label what (Some found) body e q within = by found.1.child.connection refl q
      where
        w : IsWithinLabel price fee set.name worth found.1
        w = found_is (IsWithinLabel price fee set.name worth) label s.views found within e

        by : (known : Option ℕ) → found.1.child.connection ≡ known → option_and_then (query_about what) known ≡ Some body → fee (query_under set (next_id set s) body) ≤ worth (Some label)
        by None k q = absurd (none-some body q)
        by (Some id) k q =
            let m : Message = query_under set (next_id set s) body in
            let about : IsAbout set.name found.1.child.child id m = record { asked_by = refl; asked_of = sym (found_is (AsksThat set) label s.views found there e); names = query_names what id body q } in
            omega (arith, w.about id m k about, w.leg, ap (λ l. worth (Some l)) (found_label label s.views found e))

    query_step : (label : List ℕ) (what : What) → IsStep (worth (Some label)) s (sends_query (query_for what (find_view label s.views)) set s)
    query_step label what = sends_step (worth (Some label)) (query_for what (find_view label s.views)) (λ body q within. query_costs label what (find_view label s.views) body refl q within)

    of_step : (what : What) (label : List ℕ) → IsStep (worth (Some label)) s (asked_of what label (find_view label s.views) set s)
    unfolding asked_of
    of_step (What.Reserve q) label = reserves_step label (find_view label s.views) q refl
    of_step What.Commit label = found_step label (find_view label s.views) Kind.ReserveCommit refl
    of_step What.Abort label = found_step label (find_view label s.views) Kind.ReserveAbort refl
    of_step What.Provision label = found_step label (find_view label s.views) Kind.Provision refl
    of_step What.Release label = found_step label (find_view label s.views) Kind.Release refl
    of_step What.Terminate label = found_step label (find_view label s.views) Kind.Terminate refl
    of_step what label = query_step label what

    asked_step : (label : Option (List ℕ)) (what : What) → IsStep (worth label) s (asked label what set s)
    unfolding asked
    asked_step None What.Summary = sends_step (worth None) (Some (Body.QuerySummary None)) (λ body e within. plain (query_under set (next_id set s) body) (let same : Body.QuerySummary None ≡ body = cc in sym same))
    asked_step None what = quiet (worth None) s s (Some AskAnswer.NoId) there
    asked_step (Some label) what = of_step what label

    ---- One entry

    hears_step : (b : Bool) (m : Message) → IsStep 0 s (hears_if b m s)
    unfolding hears_if
    hears_step true m = quiet 0 s s None there
    hears_step false m =
        quiet 0 s _ None
        (All-map (AsksThat set) (view_hears m) s.views (All-weaker (AsksThat set) (λ v. AsksThat set (view_hears m v)) (λ v h. (hear_place m v.child).child ∙ h) s.views there))

    input_step : (i : Input) (second : ℕ) → IsStep (ask_worth worth i) s (step i second set s)
    unfolding step acked ticks
    input_step (Input.Ask number ask) second = asked_step ask.label ask.what
    input_step (Input.Got m) second = hears_step (is_old m (retry_of s.base)) m
    input_step Input.Tick second = quiet 0 s _ None there
    input_step (Input.Acked i) second = quiet 0 s _ None there
    input_step (Input.Work n machine) second = quiet 0 s s None there
    input_step (Input.Force n) second = quiet 0 s s None there

    taken_step : (b : Bool) (e : Entry) → IsStep (entry_worth worth e) s (after_if b set s e)
    taken_step false e = quiet (entry_worth worth e) s s None there
    taken_step true e = let a = input_step e.input e.second in record { paid = a.paid; there = a.there }

    entry_step : (e : Entry) → IsStep (entry_worth worth e) s (requester_after set s e)
    unfolding requester_after
    entry_step e = taken_step (may_take s e) e

  ---- Entries one after another

  goes_on_paid : (h : Home) (s : AgentState) (es : List Entry) → h.role ≡ requests set → All (AsksThat set) s.views → FromEach h s es Within → worth_of fee (goes_on h s es).out ≤ asks_worth worth es
  unfolding goes_on after_as
  goes_on_paid h s [] e there each = omega (arith, worth_none fee)
  goes_on_paid h s (x ∷ xs) e there each =
      let y : AgentStepped = after h s x in
      let rest : Told = goes_on h y.state xs in
      let a : IsStep (entry_worth worth x) s y = subst (λ role. IsStep (entry_worth worth x) s (after_as role s x)) (sym e) (entry_step s there x) in
      let later : FromEach h y.state xs Within = at_next h s x xs Within each in
      omega (
        arith,
        worth_append fee y.out rest.out,
        a.paid (at_first h s (x ∷ xs) Within each) (at_first h y.state xs Within later),
        goes_on_paid h y.state xs e a.there later,
        sum_by-cons (entry_worth worth) x xs,
      )

pub requesters_ask_no_more : RequestersAskNoMore
requesters_ask_no_more h set price fee worth es e is plain each = goes_on_paid set price fee worth is plain h blank_agent es e (All-nil (AsksThat set)) each

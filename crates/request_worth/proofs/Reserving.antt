-- Each view of a requester is of the leg of a reserve that was asked under its label.
use Rattle.std.proofs.Common.{ℕ, ◌≡◌, Bool, true, false, List, [], ◌∷◌, Option, Some, None, refl, sym, subst}
use Rattle.std.specs.List.{All, Contains}
use Rattle.std.proofs.lemmas.List.Elements.{All-nil, All-cons, All-append, All-head, All-tail, All-map, All-set, All-weaker, All-contains_itself}
use Rattle.nsi_primitive.specs.declared.ask.Ask.{Ask}
use Rattle.nsi_primitive.specs.declared.ask.ReserveAsk.{ReserveAsk}
use Rattle.nsi_primitive.specs.declared.ask.What.{What}
use Rattle.nsi_primitive.specs.declared.entry.Entry.{Entry}
use Rattle.nsi_primitive.specs.declared.entry.Input.{Input}
use Rattle.nsi_primitive.specs.declared.kind.Kind.{Kind}
use Rattle.nsi_primitive.specs.declared.message.Body.{Body}
use Rattle.nsi_primitive.specs.declared.message.Message.{Message}
use Rattle.message_retry.specs.Retry.{is_old}
use Rattle.child_connection.specs.Places.{IsSamePlace}
use Rattle.child_connection.specs.Views.{ChildConnection, new_view, open_request}
use Rattle.child_connection.proofs.Places.{hear_place}
use Rattle.agent_state.specs.declared.parent.View.{View}
use Rattle.agent_state.specs.Entries.{retry_of}
use Rattle.agent_state.specs.State.{AgentState, blank_agent}
use Rattle.requester_agent.specs.Queries.{query_for}
use Rattle.requester_agent.specs.Setting.{Setting}
use Rattle.requester_agent.specs.Views.{Asked, asks_about, asks_reserve, reserve_of}
use Rattle.requester_agent.specs.Steps.{find_view, next_id, answers, asks_at, asks_new, asks_found, reserves, sends_query, asked_of, asked, view_hears, hears_if, acked, ticks, step, may_take, after_if, after as requester_after}
use Rattle.nsi_agent.specs.Homes.{Home, requests}
use Rattle.nsi_agent.specs.Steps.{after_as, after}
use Rattle.nsi_agent.specs.Told.{goes_on}
use Rattle.request_worth.specs.Worth.{WasReserved, ViewWasReserved}
use Rattle.request_worth.specs.Laws.{ViewsWereReserved}
use Rattle.request_worth.proofs.Requesting.{free_place, known_place, found_is}
use Rattle.request_worth.proofs.Views.{same_leg}

module _ (set : Setting) (whole : List Entry) where
  abbrev Was : View → Type 0
  Was v = ViewWasReserved set.provider whole v

  abbrev AllWere : List View → Type 0
  AllWere vs = All Was vs

  -- of the same label, at the same place
  was_still : (v : View) (x : ChildConnection) → IsSamePlace v.child x → Was v → Was (record v { child = x })
  was_still v x place was = subst (λ leg. WasReserved set.provider whole v.label leg) (sym (same_leg v.child x place)) was

  -- an entry that is a reserve under that label
  abbrev IsAsked : Option (List ℕ) → What → Type 0
  IsAsked label what = (entry : Entry) × Contains whole entry × (number : ℕ) × (ask : Ask) × (entry.input ≡ Input.Ask number ask) × (ask.label ≡ label) × (ask.what ≡ what)

  module _ (s : AgentState) (were : AllWere s.views) where
    at_were : (label : List ℕ) (found : ℕ × View) (x : Asked) → find_view label s.views ≡ Some found → IsSamePlace found.1.child x.child → AllWere (asks_at found x s).state.views
    unfolding asks_at answers
    at_were label found x e place = All-set Was s.views found.0 (record found.1 { child = x.child }) (was_still found.1 x.child place (found_is Was label s.views found were e)) were

    found_were : (label : List ℕ) (o : Option (ℕ × View)) (k : Kind) → find_view label s.views ≡ o → AllWere (asks_found o k set s).state.views
    unfolding asks_found
    found_were label None k e = were
    found_were label (Some found) k e = at_were label found (asks_about set.name (next_id set s) k found.1.child) e (known_place found.1.child.connection set.name (next_id set s) k found.1.child)

    reserves_were : (label : List ℕ) (o : Option (ℕ × View)) (q : ReserveAsk) → find_view label s.views ≡ o → IsAsked (Some label) (What.Reserve q) → AllWere (reserves o q label set s).state.views
    unfolding reserves asks_new answers
    reserves_were label None q e (entry, there, number, ask, input, under, what) =
        let x : ChildConnection = new_view set.provider q.source q.dest in
        let a : Asked = asks_reserve set.name (next_id set s) q x in
        let v : View = record { label = label; child = x } in
        let place : IsSamePlace x a.child = free_place (open_request Kind.Reserve x) set.name (next_id set s) Kind.Reserve (reserve_of q x) x in
        let was : Was v =
        record { entry = entry; there = there; number = number; ask = ask; reserve = q; asked = input; under = under; what = what; child = refl; from = refl; to = refl }
        in
        All-append Was s.views (record { label = label; child = a.child } ∷ []) were (All-cons Was (record { label = label; child = a.child }) [] (was_still v a.child place was) (All-nil Was))
    reserves_were label (Some found) q e is =
        let x : ChildConnection = found.1.child in
        at_were label found (asks_reserve set.name (next_id set s) q x) e (free_place (open_request Kind.Reserve x) set.name (next_id set s) Kind.Reserve (reserve_of q x) x)

    sends_were : (o : Option Body) → AllWere (sends_query o set s).state.views
    unfolding sends_query
    sends_were None = were
    sends_were (Some body) = were

    of_were : (what : What) (label : List ℕ) → IsAsked (Some label) what → AllWere (asked_of what label (find_view label s.views) set s).state.views
    unfolding asked_of
    of_were (What.Reserve q) label is = reserves_were label (find_view label s.views) q refl is
    of_were What.Commit label is = found_were label (find_view label s.views) Kind.ReserveCommit refl
    of_were What.Abort label is = found_were label (find_view label s.views) Kind.ReserveAbort refl
    of_were What.Provision label is = found_were label (find_view label s.views) Kind.Provision refl
    of_were What.Release label is = found_were label (find_view label s.views) Kind.Release refl
    of_were What.Terminate label is = found_were label (find_view label s.views) Kind.Terminate refl
    of_were what label is = sends_were (query_for what (find_view label s.views))

    asked_were : (label : Option (List ℕ)) (what : What) → IsAsked label what → AllWere (asked label what set s).state.views
    unfolding asked
    asked_were None What.Summary is = sends_were (Some (Body.QuerySummary None))
    asked_were None what is = were
    asked_were (Some label) what is = of_were what label is

    hears_were : (b : Bool) (m : Message) → AllWere (hears_if b m s).state.views
    unfolding hears_if
    hears_were true m = were
    hears_were false m = All-map Was (view_hears m) s.views (All-weaker Was (λ v. Was (view_hears m v)) (λ v was. was_still v (view_hears m v).child (hear_place m v.child) was) s.views were)

    input_were : (i : Input) (second : ℕ) → ((number : ℕ) (ask : Ask) → i ≡ Input.Ask number ask → IsAsked ask.label ask.what) → AllWere (step i second set s).state.views
    unfolding step acked ticks
    input_were (Input.Ask number ask) second is = asked_were ask.label ask.what (is number ask refl)
    input_were (Input.Got m) second is = hears_were (is_old m (retry_of s.base)) m
    input_were Input.Tick second is = were
    input_were (Input.Acked i) second is = were
    input_were (Input.Work n machine) second is = were
    input_were (Input.Force n) second is = were

    taken_were : (b : Bool) (e : Entry) → Contains whole e → AllWere (after_if b set s e).state.views
    taken_were false e there = were
    taken_were true e there = input_were e.input e.second (λ number ask is. (e, there, number, ask, is, refl, refl))

    entry_were : (e : Entry) → Contains whole e → AllWere (requester_after set s e).state.views
    unfolding requester_after
    entry_were e there = taken_were (may_take s e) e there

  goes_on_were : (h : Home) (s : AgentState) (es : List Entry) → h.role ≡ requests set → All (Contains whole) es → AllWere s.views → AllWere (goes_on h s es).state.views
  unfolding goes_on after_as
  goes_on_were h s [] e all were = were
  goes_on_were h s (x ∷ xs) e all were =
      goes_on_were h (after h s x).state xs e (All-tail (Contains whole) x xs all) (subst (λ role. AllWere (after_as role s x).state.views) (sym e) (entry_were s were x (All-head (Contains whole) x xs all)))

pub views_were_reserved : ViewsWereReserved
views_were_reserved h set es e = goes_on_were set es h blank_agent es e (All-contains_itself es) (All-nil (Was set es))

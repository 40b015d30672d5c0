-- What an entry leaves of what a requester has.
use Rattle.std.proofs.Common.{ℕ, ◌≡◌, Bool, true, false, List, [], Option, Some, None, refl, sym, ap, ◌∙◌, subst, slice_get}
use Rattle.std.proofs.lemmas.Option.{same_Some}
use Rattle.nsi_primitive.specs.declared.ask.ReserveAsk.{ReserveAsk}
use Rattle.nsi_primitive.specs.declared.ask.What.{What}
use Rattle.nsi_primitive.specs.declared.entry.Entry.{Entry}
use Rattle.nsi_primitive.specs.declared.entry.Input.{Input}
use Rattle.nsi_primitive.specs.declared.kind.Kind.{Kind}
use Rattle.nsi_primitive.specs.declared.message.Body.{Body}
use Rattle.nsi_primitive.specs.declared.message.Message.{Message}
use Rattle.message_retry.specs.Retry.{is_old}
use Rattle.child_connection.specs.declared.state.Sent.{Sent}
use Rattle.child_connection.specs.Views.{ChildConnection, open_request, new_view}
use Rattle.child_connection.specs.Asks.{request_about}
use Rattle.agent_state.specs.declared.parent.View.{View}
use Rattle.agent_state.specs.Entries.{retry_of}
use Rattle.agent_state.specs.State.{AgentState, AgentStepped}
use Rattle.requester_agent.specs.Queries.{query_for}
use Rattle.requester_agent.specs.Setting.{Setting}
use Rattle.requester_agent.specs.Views.{Asked, asks_if_free, asks_if_known, asks_about, asks_reserve, reserve_of}
use Rattle.requester_agent.specs.Steps.{next_id, find_view, answers, asks_at, asks_new, asks_found, reserves, sends_query, asked_of, asked, view_hears, hears_if, acked, ticks, step, may_take, after_if, after}
use Rattle.requester_agent.proofs.Mild.{found-there}
use Rattle.run_growth.specs.Growth.{Stay, IsLaterView, IsLaterOfLabel, HasGrown}
use Rattle.run_growth.proofs.Staying.{stay_set, stay_push, stay_map}
use Rattle.run_growth.proofs.Views.{view_same, view_asked, view_heard}
use Rattle.run_growth.proofs.Growing.{RecordsStay, AllViewsStay, records_same, all_views_same, label_same}

---- One view

free_later : (o : Option Sent) (parent : List ℕ) (c : ℕ) (k : Kind) (body : Body) (x : ChildConnection) → IsLaterView x (asks_if_free o parent c k body x).child
unfolding asks_if_free
free_later None parent c k body x = view_asked k c x
free_later (Some q) parent c k body x = view_same x

known_later : (o : Option ℕ) (parent : List ℕ) (c : ℕ) (k : Kind) (x : ChildConnection) → IsLaterView x (asks_if_known o parent c k x).child
unfolding asks_if_known
known_later None parent c k x = view_same x
known_later (Some id) parent c k x = free_later (open_request k x) parent c k (request_about k id) x

reserve_later : (parent : List ℕ) (c : ℕ) (q : ReserveAsk) (x : ChildConnection) → IsLaterView x (asks_reserve parent c q x).child
reserve_later parent c q x = free_later (open_request Kind.Reserve x) parent c Kind.Reserve (reserve_of q x) x

---- All views

-- an entry, or a part of one: the views go on, and there are no records and no children
record IsOfViews (s : AgentState) (x : AgentStepped) : Type 0 where
  records : x.state.base.records ≡ s.base.records
  children : x.state.children ≡ s.children
  views : Stay IsLaterOfLabel s.views x.state.views

same_views : (s : AgentState) (x : AgentStepped) → x.state.base.records ≡ s.base.records → x.state.children ≡ s.children → x.state.views ≡ s.views → IsOfViews s x
same_views s x e f g = record { records = e; children = f; views = λ n v h. (v, ap (λ vs. slice_get vs n) g ∙ h, label_same v) }

at_views : (found : ℕ × View) (x : Asked) (s : AgentState) → slice_get s.views found.0 ≡ Some found.1 → IsLaterView found.1.child x.child → IsOfViews s (asks_at found x s)
unfolding asks_at answers
at_views found x s there later =
    let new : View = record found.1 { child = x.child } in
    let here : IsLaterOfLabel found.1 new = record { label = refl; child = later } in
    record {
      records = refl;
      children = refl;
      views = stay_set IsLaterOfLabel label_same s.views found.0 new (λ v e. subst (λ z. IsLaterOfLabel z new) (same_Some found.1 v (sym there ∙ e)) here);
    }

new_views : (label : List ℕ) (x : Asked) (s : AgentState) → IsOfViews s (asks_new label x s)
unfolding asks_new answers
new_views label x s = record { records = refl; children = refl; views = stay_push IsLaterOfLabel label_same s.views (record { label = label; child = x.child }) }

-- the view that is found stands where it is found
abbrev IsThere : AgentState → Option (ℕ × View) → Type 0
IsThere s o = (found : ℕ × View) → o ≡ Some found → slice_get s.views found.0 ≡ Some found.1

found_views : (o : Option (ℕ × View)) (k : Kind) (set : Setting) (s : AgentState) → IsThere s o → IsOfViews s (asks_found o k set s)
unfolding asks_found
found_views None k set s h = same_views s _ refl refl refl
found_views (Some found) k set s h =
    at_views found (asks_about set.name (next_id set s) k found.1.child) s (h found refl) (known_later found.1.child.connection set.name (next_id set s) k found.1.child)

reserves_views : (o : Option (ℕ × View)) (q : ReserveAsk) (label : List ℕ) (set : Setting) (s : AgentState) → IsThere s o → IsOfViews s (reserves o q label set s)
unfolding reserves
reserves_views None q label set s h = new_views label (asks_reserve set.name (next_id set s) q (new_view set.provider q.source q.dest)) s
reserves_views (Some found) q label set s h =
    at_views found (asks_reserve set.name (next_id set s) q found.1.child) s (h found refl) (reserve_later set.name (next_id set s) q found.1.child)

sends_views : (query : Option Body) (set : Setting) (s : AgentState) → IsOfViews s (sends_query query set s)
unfolding sends_query
sends_views None set s = same_views s _ refl refl refl
sends_views (Some body) set s = same_views s _ refl refl refl

of_views : (what : What) (label : List ℕ) (set : Setting) (s : AgentState) → IsOfViews s (asked_of what label (find_view label s.views) set s)
unfolding asked_of
of_views (What.Reserve q) label set s = reserves_views (find_view label s.views) q label set s (found-there label s.views)
of_views What.Commit label set s = found_views (find_view label s.views) Kind.ReserveCommit set s (found-there label s.views)
of_views What.Abort label set s = found_views (find_view label s.views) Kind.ReserveAbort set s (found-there label s.views)
of_views What.Provision label set s = found_views (find_view label s.views) Kind.Provision set s (found-there label s.views)
of_views What.Release label set s = found_views (find_view label s.views) Kind.Release set s (found-there label s.views)
of_views What.Terminate label set s = found_views (find_view label s.views) Kind.Terminate set s (found-there label s.views)
of_views what label set s = sends_views (query_for what (find_view label s.views)) set s

asked_views : (label : Option (List ℕ)) (what : What) (set : Setting) (s : AgentState) → IsOfViews s (asked label what set s)
unfolding asked
asked_views None What.Summary set s = sends_views (Some (Body.QuerySummary None)) set s
asked_views None what set s = same_views s _ refl refl refl
asked_views (Some label) what set s = of_views what label set s

heard_views : (b : Bool) (m : Message) (s : AgentState) → IsOfViews s (hears_if b m s)
unfolding hears_if
heard_views true m s = same_views s _ refl refl refl
heard_views false m s =
    record { records = refl; children = refl; views = stay_map IsLaterOfLabel (view_hears m) (λ v. record { label = refl; child = view_heard m v.child }) s.views }

step_views : (input : Input) (second : ℕ) (set : Setting) (s : AgentState) → IsOfViews s (step input second set s)
unfolding step ticks acked
step_views (Input.Ask number ask) second set s = asked_views ask.label ask.what set s
step_views (Input.Got m) second set s = heard_views (is_old m (retry_of s.base)) m s
step_views Input.Tick second set s = same_views s _ refl refl refl
step_views (Input.Acked i) second set s = same_views s _ refl refl refl
step_views (Input.Work n machine) second set s = same_views s _ refl refl refl
step_views (Input.Force n) second set s = same_views s _ refl refl refl

after_views : (set : Setting) (s : AgentState) (e : Entry) → IsOfViews s (after set s e)
unfolding after
after_views set s e = by_may (may_take s e)
  where
    by_may : (b : Bool) → IsOfViews s (after_if b set s e)
    by_may false = same_views s _ refl refl refl
    by_may true =
        let x = step_views e.input e.second set s in
        record { records = x.records; children = x.children; views = x.views }

---- An entry

pub requester_grows : (set : Setting) (s : AgentState) (e : Entry) → HasGrown s (after set s e).state
requester_grows set s e =
    let x = after_views set s e in
    record {
      records = subst (RecordsStay s.base.records) (sym x.records) (records_same s.base.records);
      views = x.views;
      children = subst (AllViewsStay s.children) (sym x.children) (all_views_same s.children);
    }

pub requester_has_no_records : (set : Setting) (s : AgentState) (e : Entry) → s.base.records ≡ [] → (after set s e).state.base.records ≡ []
requester_has_no_records set s e h = (after_views set s e).records ∙ h

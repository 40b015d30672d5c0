-- What a requester says is a request in its own name to its provider, under the next id.
use Rattle.std.proofs.Common.{◌≡◌, ◌+◌, inr, ◌∙◌, ℕ, Bool, true, false, List, [], ◌∷◌, length, map, slice_get, Option, Some, None, refl, sym, ap, subst, arith}
use Rattle.std.specs.Prelude.{IfSome}
use Rattle.std.specs.List.{All}
use Rattle.std.proofs.lemmas.List.Elements.{All-nil, All-cons, All-append, All-head, All-tail, All-set, All-get_or}
use Rattle.std.proofs.lemmas.Option.{slice_get_within, get_or_from_slice_get}
use Rattle.nsi_primitive.specs.Ids.{id_of}
use Rattle.nsi_primitive.specs.Messages.{is_request}
use Rattle.nsi_primitive.specs.declared.ask.ReserveAsk.{ReserveAsk}
use Rattle.nsi_primitive.specs.declared.ask.What.{What}
use Rattle.nsi_primitive.specs.declared.entry.Input.{Input}
use Rattle.nsi_primitive.specs.declared.kind.Kind.{Kind}
use Rattle.nsi_primitive.specs.declared.message.Body.{Body}
use Rattle.nsi_primitive.specs.declared.message.Message.{Message}
use Rattle.message_retry.specs.Retry.{is_old}
use Rattle.child_connection.specs.declared.state.Sent.{Sent}
use Rattle.child_connection.specs.Views.{ChildConnection, new_view, open_request}
use Rattle.child_connection.specs.Asks.{request_about, to_child}
use Rattle.child_connection.specs.Laws.{AsksKeepThePlace, MessagesKeepThePlace}
use Rattle.agent_state.specs.declared.parent.View.{View}
use Rattle.agent_state.specs.Entries.{retry_of}
use Rattle.agent_state.specs.State.{AgentState, AgentStepped, stays}
use Rattle.aggregator_agent.specs.Laws.{AreDrawn}
use Rattle.requester_agent.proofs.Mild.{found-there}
use Rattle.requester_agent.proofs.Queries.{query_is}
use Rattle.requester_agent.specs.Queries.{query_for, query_under}
use Rattle.requester_agent.specs.Setting.{Setting}
use Rattle.requester_agent.specs.Views.{Asked, asks_if_free, asks_if_known, asks_about, asks_reserve, reserve_of}
use Rattle.requester_agent.specs.Steps.{find_view, next_id, answers, refuses, asks_at, asks_new, asks_found, reserves, sends_query, asked_of, asked, view_hears, hears_if, acked, ticks, step}

-- the laws of views that it rests on
pub record AreLaws : Type 0 where
  pub asks : AsksKeepThePlace
  pub messages : MessagesKeepThePlace

-- a request in a name, to a provider
abbrev pub IsWish : List ℕ → List ℕ → Message → Type 0
IsWish name provider m = (is_request m.body ≡ true) × (m.header.requester ≡ name) × (provider ≡ m.header.provider)

-- a view of a provider
abbrev pub IsOf : List ℕ → View → Type 0
IsOf provider v = provider ≡ v.child.child

-- what an ask of a view says
record IsWishing (name provider : List ℕ) (number next : ℕ) (x : ChildConnection) (a : Asked) : Type 0 where
  child : a.child.child ≡ x.child
  says : All (IsWish name provider) a.out
  drawn : AreDrawn number next a.out (next + length a.out)

-- an entry
pub record IsSaying (set : Setting) (x : AgentStepped) : Type 0 where
  pub views : All (IsOf set.provider) x.state.views
  pub says : All (IsWish set.name set.provider) x.out

pub about_asks : (k : Kind) (id : ℕ) → is_request (request_about k id) ≡ true
unfolding request_about
about_asks k id = grind arith

found-of : (provider : List ℕ) (vs : List View) (n : ℕ) (v : View) → slice_get vs n ≡ Some v → All (IsOf provider) vs → IsOf provider v
found-of provider vs n v e all = subst (IsOf provider) (get_or_from_slice_get vs n v v e) (All-get_or (IsOf provider) vs n v (slice_get_within vs n v e) all)

nothing_drawn : (number next : ℕ) → AreDrawn number next [] next
unfolding AreDrawn
nothing_drawn number next = omega arith

one_drawn : (number next : ℕ) (m : Message) → m.header.correlation ≡ id_of number next → AreDrawn number next (m ∷ []) (next + 1)
unfolding AreDrawn
one_drawn number next m e = inr (next, omega arith, e, omega arith)

module _ (laws : AreLaws) (name provider : List ℕ) (number next : ℕ) where
  refused_wishing : (x : ChildConnection) (a : Asked) → a.child ≡ x → a.out ≡ [] → IsWishing name provider number next x a
  refused_wishing x a e f =
      record {
        child = ap (λ (y : ChildConnection). y.child) e;
        says = subst (All (IsWish name provider)) (sym f) (All-nil (IsWish name provider));
        drawn = subst (λ ms. AreDrawn number next ms (next + length ms)) (sym f) (subst (AreDrawn number next []) (omega arith) (nothing_drawn number next));
      }

  free_wishing : (o : Option Sent) (k : Kind) (body : Body) (x : ChildConnection) → is_request body ≡ true → provider ≡ x.child → IsWishing name provider number next x (asks_if_free o name (id_of number next) k body x)
  unfolding asks_if_free
  free_wishing (Some q) k body x r of = refused_wishing x _ refl refl
  free_wishing None k body x r of =
      record {
        child = (laws.asks k (id_of number next) x).child;
        says = All-cons (IsWish name provider) (to_child name (id_of number next) x body) [] (r, refl, of) (All-nil (IsWish name provider));
        drawn = one_drawn number next (to_child name (id_of number next) x body) refl;
      }

  known_wishing : (o : Option ℕ) (k : Kind) (x : ChildConnection) → provider ≡ x.child → IsWishing name provider number next x (asks_if_known o name (id_of number next) k x)
  unfolding asks_if_known
  known_wishing None k x of = refused_wishing x _ refl refl
  known_wishing (Some id) k x of = free_wishing (open_request k x) k (request_about k id) x (about_asks k id) of

  reserve_wishing : (q : ReserveAsk) (x : ChildConnection) → provider ≡ x.child → IsWishing name provider number next x (asks_reserve name (id_of number next) q x)
  reserve_wishing q x of = free_wishing (open_request Kind.Reserve x) Kind.Reserve (reserve_of q x) x refl of

module _ (laws : AreLaws) (set : Setting) (s : AgentState) (of : All (IsOf set.provider) s.views) where
  stays_saying : IsSaying set (stays s)
  stays_saying = record { views = of; says = All-nil (IsWish set.name set.provider) }

  refuses_saying : IsSaying set (refuses s)
  refuses_saying = record { views = of; says = All-nil (IsWish set.name set.provider) }

  at_saying : (found : ℕ × View) (x : Asked) → slice_get s.views found.0 ≡ Some found.1 → IsWishing set.name set.provider set.number s.base.next found.1.child x → IsSaying set (asks_at found x s)
  unfolding asks_at answers
  at_saying found x e w =
      record {
        views = All-set (IsOf set.provider) s.views found.0 _ (found-of set.provider s.views found.0 found.1 e of ∙ sym w.child) of;
        says = w.says;
      }

  new_saying : (label : List ℕ) (y : ChildConnection) (x : Asked) → set.provider ≡ y.child → IsWishing set.name set.provider set.number s.base.next y x → IsSaying set (asks_new label x s)
  unfolding asks_new answers
  new_saying label y x e w =
      record {
        views = All-append (IsOf set.provider) s.views _ of (All-cons (IsOf set.provider) (record { label = label; child = x.child }) [] (e ∙ sym w.child) (All-nil (IsOf set.provider)));
        says = w.says;
      }

  found_saying : (o : Option (ℕ × View)) (k : Kind) → ((found : ℕ × View) → o ≡ Some found → slice_get s.views found.0 ≡ Some found.1) → IsSaying set (asks_found o k set s)
  unfolding asks_found
  found_saying None k h = refuses_saying
  found_saying (Some found) k h =
      at_saying found (asks_about set.name (next_id set s) k found.1.child) (h found refl)
      (known_wishing laws set.name set.provider set.number s.base.next found.1.child.connection k found.1.child (found-of set.provider s.views found.0 found.1 (h found refl) of))

  reserves_saying : (o : Option (ℕ × View)) (q : ReserveAsk) (label : List ℕ) → ((found : ℕ × View) → o ≡ Some found → slice_get s.views found.0 ≡ Some found.1) → IsSaying set (reserves o q label set s)
  unfolding reserves
  reserves_saying None q label h =
      let x = new_view set.provider q.source q.dest in
      new_saying label x (asks_reserve set.name (next_id set s) q x) refl (reserve_wishing laws set.name set.provider set.number s.base.next q x refl)
  reserves_saying (Some found) q label h =
      at_saying found (asks_reserve set.name (next_id set s) q found.1.child) (h found refl)
      (reserve_wishing laws set.name set.provider set.number s.base.next q found.1.child (found-of set.provider s.views found.0 found.1 (h found refl) of))

  sends_saying : (query : Option Body) → IfSome query (λ body. is_request body ≡ true) → IsSaying set (sends_query query set s)
  unfolding sends_query
  sends_saying None r = refuses_saying
  sends_saying (Some body) r = record { views = of; says = All-cons (IsWish set.name set.provider) (query_under set (next_id set s) body) [] (r, refl, refl) (All-nil (IsWish set.name set.provider)) }

  query_saying : (what : What) (found : Option (ℕ × View)) → IsSaying set (sends_query (query_for what found) set s)
  query_saying what found =
      sends_saying (query_for what found) (query_is (λ body. is_request body ≡ true) (record { summary = λ connection. refl; notifications = λ range. refl; results = λ range. refl; recursive = λ connection. refl }) what found)

  of_saying : (what : What) (label : List ℕ) → IsSaying set (asked_of what label (find_view label s.views) set s)
  unfolding asked_of
  of_saying (What.Reserve q) label = reserves_saying (find_view label s.views) q label (found-there label s.views)
  of_saying What.Commit label = found_saying (find_view label s.views) Kind.ReserveCommit (found-there label s.views)
  of_saying What.Abort label = found_saying (find_view label s.views) Kind.ReserveAbort (found-there label s.views)
  of_saying What.Provision label = found_saying (find_view label s.views) Kind.Provision (found-there label s.views)
  of_saying What.Release label = found_saying (find_view label s.views) Kind.Release (found-there label s.views)
  of_saying What.Terminate label = found_saying (find_view label s.views) Kind.Terminate (found-there label s.views)
  of_saying what label = query_saying what (find_view label s.views)

  asked_saying : (label : Option (List ℕ)) (what : What) → IsSaying set (asked label what set s)
  unfolding asked
  asked_saying None What.Summary = sends_saying (Some (Body.QuerySummary None)) refl
  asked_saying None what = refuses_saying
  asked_saying (Some label) what = of_saying what label

  heard_of : (m : Message) (vs : List View) → All (IsOf set.provider) vs → All (IsOf set.provider) (map (view_hears m) vs)
  heard_of m [] all = All-nil (IsOf set.provider)
  heard_of m (v ∷ vs) all =
      All-cons (IsOf set.provider) (view_hears m v) (map (view_hears m) vs) (All-head (IsOf set.provider) v vs all ∙ sym (laws.messages m v.child).child) (heard_of m vs (All-tail (IsOf set.provider) v vs all))

  hears_saying : (is_old : Bool) (m : Message) → IsSaying set (hears_if is_old m s)
  unfolding hears_if
  hears_saying true m = stays_saying
  hears_saying false m = record { views = heard_of m s.views of; says = All-nil (IsWish set.name set.provider) }

  pub step_saying : (input : Input) (second : ℕ) → IsSaying set (step input second set s)
  unfolding step acked ticks
  step_saying (Input.Ask number ask) second = asked_saying ask.label ask.what
  step_saying (Input.Got m) second = hears_saying (is_old m (retry_of s.base)) m
  step_saying Input.Tick second = record { views = of; says = All-nil (IsWish set.name set.provider) }
  step_saying (Input.Acked i) second = record { views = of; says = All-nil (IsWish set.name set.provider) }
  step_saying (Input.Work n machine) second = stays_saying
  step_saying (Input.Force n) second = stays_saying

---- Ids

module _ (laws : AreLaws) (set : Setting) (s : AgentState) where
  abbrev Draws : AgentStepped → Type 0
  Draws x = AreDrawn set.number s.base.next x.out x.state.base.next

  found_drawn : (o : Option (ℕ × View)) (k : Kind) → Draws (asks_found o k set s)
  unfolding asks_found asks_at answers
  found_drawn None k = nothing_drawn set.number s.base.next
  found_drawn (Some found) k = (known_wishing laws set.name found.1.child.child set.number s.base.next found.1.child.connection k found.1.child refl).drawn

  reserves_drawn : (o : Option (ℕ × View)) (q : ReserveAsk) (label : List ℕ) → Draws (reserves o q label set s)
  unfolding reserves asks_new asks_at answers
  reserves_drawn None q label = (reserve_wishing laws set.name set.provider set.number s.base.next q (new_view set.provider q.source q.dest) refl).drawn
  reserves_drawn (Some found) q label = (reserve_wishing laws set.name found.1.child.child set.number s.base.next q found.1.child refl).drawn

  sends_drawn : (query : Option Body) → Draws (sends_query query set s)
  unfolding sends_query
  sends_drawn None = nothing_drawn set.number s.base.next
  sends_drawn (Some body) = one_drawn set.number s.base.next (query_under set (next_id set s) body) refl

  of_drawn : (what : What) (label : List ℕ) → Draws (asked_of what label (find_view label s.views) set s)
  unfolding asked_of
  of_drawn (What.Reserve q) label = reserves_drawn (find_view label s.views) q label
  of_drawn What.Commit label = found_drawn (find_view label s.views) Kind.ReserveCommit
  of_drawn What.Abort label = found_drawn (find_view label s.views) Kind.ReserveAbort
  of_drawn What.Provision label = found_drawn (find_view label s.views) Kind.Provision
  of_drawn What.Release label = found_drawn (find_view label s.views) Kind.Release
  of_drawn What.Terminate label = found_drawn (find_view label s.views) Kind.Terminate
  of_drawn what label = sends_drawn (query_for what (find_view label s.views))

  asked_drawn : (label : Option (List ℕ)) (what : What) → Draws (asked label what set s)
  unfolding asked
  asked_drawn None What.Summary = sends_drawn (Some (Body.QuerySummary None))
  asked_drawn None what = nothing_drawn set.number s.base.next
  asked_drawn (Some label) what = of_drawn what label

  hears_drawn : (is_old : Bool) (m : Message) → Draws (hears_if is_old m s)
  unfolding hears_if
  hears_drawn true m = nothing_drawn set.number s.base.next
  hears_drawn false m = nothing_drawn set.number s.base.next

  pub step_drawn : (input : Input) (second : ℕ) → Draws (step input second set s)
  unfolding step acked ticks
  step_drawn (Input.Ask number ask) second = asked_drawn ask.label ask.what
  step_drawn (Input.Got m) second = hears_drawn (is_old m (retry_of s.base)) m
  step_drawn Input.Tick second = nothing_drawn set.number s.base.next
  step_drawn (Input.Acked i) second = nothing_drawn set.number s.base.next
  step_drawn (Input.Work n machine) second = nothing_drawn set.number s.base.next
  step_drawn (Input.Force n) second = nothing_drawn set.number s.base.next

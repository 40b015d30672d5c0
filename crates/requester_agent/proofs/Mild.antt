-- What no entry does to a requester: an id at most is drawn, the points of its views differ, and what is sent can be written.
use Rattle.std.proofs.Common.{ℕ, ◌+◌, ◌<◌, ◌≤◌, ◌≡◌, Bool, true, false, List, [], ◌∷◌, Option, Some, None, refl, subst, arith, length, map, slice_get, position}
use Rattle.std.specs.Option.{option_map, option_and_then}
use Rattle.std.specs.Prelude.{IfSome}
use Rattle.std.specs.List.{All}
use Rattle.std.specs.Str.{bytes_eq}
use Rattle.std.proofs.lemmas.List.Elements.{All-nil, All-cons, All-append, All-head, All-tail, All-set, All-get_or}
use Rattle.std.proofs.lemmas.Option.{none-some, slice_get_within, get_or_from_slice_get}
use Rattle.nsi_primitive.specs.Printable.{IsPrintable, IsPrintableBody, IsPrintableInput, ArePointsApart}
use Rattle.nsi_primitive.specs.declared.ask.ReserveAsk.{ReserveAsk}
use Rattle.nsi_primitive.specs.declared.ask.What.{What}
use Rattle.nsi_primitive.specs.declared.entry.Input.{Input}
use Rattle.nsi_primitive.specs.declared.kind.Kind.{Kind}
use Rattle.nsi_primitive.specs.declared.message.Body.{Body}
use Rattle.nsi_primitive.specs.declared.message.Message.{Message}
use Rattle.message_retry.specs.Retry.{is_old}
use Rattle.child_connection.specs.declared.state.Sent.{Sent}
use Rattle.child_connection.specs.Views.{ChildConnection, new_view, open_request}
use Rattle.child_connection.specs.Asks.{request_about, reserve_for, to_child}
use Rattle.child_connection.specs.Hearing.{hear}
use Rattle.child_connection.specs.Laws.{AsksKeepThePlace, MessagesKeepThePlace, AsksArePrintable, FirstIsPrintable, ModificationIsPrintable}
use Rattle.child_connection.specs.Places.{IsSamePlace}
use Rattle.agent_state.specs.declared.parent.View.{View}
use Rattle.agent_state.specs.State.{AgentState, AgentStepped, stays, counts_agent}
use Rattle.requester_agent.specs.Queries.{query_for, query_under}
use Rattle.requester_agent.specs.Setting.{Setting}
use Rattle.requester_agent.specs.Views.{Asked, asks_if_free, asks_if_known, asks_about, asks_reserve, service_between, service_if, reserve_of}
use Rattle.agent_state.specs.Entries.{retry_of}
use Rattle.requester_agent.specs.Steps.{find_view, view_at, next_id, answers, refuses, asks_at, asks_new, asks_found, reserves, sends_query, asked_of, asked, view_hears, hears_if, acked, ticks, step}
use Rattle.requester_agent.specs.Good.{IsApart, IsGood}
use Rattle.requester_agent.proofs.Queries.{query_is}

-- the laws of views that it rests on
pub record AreLaws : Type 0 where
  pub asks : AsksKeepThePlace
  pub messages : MessagesKeepThePlace
  pub about : AsksArePrintable
  pub first : FirstIsPrintable
  pub modification : ModificationIsPrintable

-- an ask of a view
record IsMildAsk (x : ChildConnection) (a : Asked) : Type 0 where
  place : IsSamePlace x a.child
  few : length a.out ≤ 1
  prints : All IsPrintable a.out

-- an entry
pub record IsMild (s : AgentState) (x : AgentStepped) : Type 0 where
  pub taken : x.state.base.taken ≡ s.base.taken
  pub drawn : x.state.base.next ≤ s.base.next + 1
  pub apart : All IsApart x.state.views
  pub prints : All IsPrintable x.out

place-self : (x : ChildConnection) → IsSamePlace x x
place-self x = record { child = refl; source = refl; dest = refl }

moved-apart : (x y : ChildConnection) → IsSamePlace x y → bytes_eq x.source x.dest ≡ false → bytes_eq y.source y.dest ≡ false
moved-apart x y p e = rw (p.source, p.dest) e

---- The view that is found

pub found-there : (label : List ℕ) (vs : List View) (found : ℕ × View) → find_view label vs ≡ Some found → slice_get vs found.0 ≡ Some found.1
unfolding find_view
found-there label vs found = by-place (position (λ v. bytes_eq label v.label) vs)
  where
    by-view : (n : ℕ) (o : Option View) → slice_get vs n ≡ o → option_map (λ v. (n, v)) o ≡ Some found → slice_get vs found.0 ≡ Some found.1
    by-view n None e h = absurd (none-some found h)
    by-view n (Some v) e h = let same : (n, v) ≡ found = cc in subst (λ (p : ℕ × View). slice_get vs p.0 ≡ Some p.1) same e

    by-place : (o : Option ℕ) → option_and_then (view_at vs) o ≡ Some found → slice_get vs found.0 ≡ Some found.1
    by-place None h = absurd (none-some found h)
    by-place (Some n) h = by-view n (slice_get vs n) refl h

found-apart : (vs : List View) (n : ℕ) (v : View) → slice_get vs n ≡ Some v → All IsApart vs → IsApart v
found-apart vs n v e all = subst IsApart (get_or_from_slice_get vs n v v e) (All-get_or IsApart vs n v (slice_get_within vs n v e) all)

module _ (laws : AreLaws) where
  ---- Asks of a view

  free-mild : (o : Option Sent) (parent : List ℕ) (c : ℕ) (k : Kind) (body : Body) (x : ChildConnection) → IsPrintable (to_child parent c x body) → IsMildAsk x (asks_if_free o parent c k body x)
  unfolding asks_if_free
  free-mild (Some q) parent c k body x p = record { place = place-self x; few = omega arith; prints = All-nil IsPrintable }
  free-mild None parent c k body x p = record { place = laws.asks k c x; few = omega arith; prints = All-cons IsPrintable (to_child parent c x body) [] p (All-nil IsPrintable) }

  about-mild : (o : Option ℕ) (parent : List ℕ) (c : ℕ) (k : Kind) (x : ChildConnection) → IsMildAsk x (asks_if_known o parent c k x)
  unfolding asks_if_known
  about-mild None parent c k x = record { place = place-self x; few = omega arith; prints = All-nil IsPrintable }
  about-mild (Some id) parent c k x = free-mild (open_request k x) parent c k (request_about k id) x (laws.about parent c id k x)

  reserve-prints : (o : Option ℕ) (parent : List ℕ) (c : ℕ) (q : ReserveAsk) (x : ChildConnection) → x.connection ≡ o → bytes_eq x.source x.dest ≡ false →
      IsPrintable (to_child parent c x (Body.Reserve (reserve_for (service_if o q.directionality x) q.version q.start q.end q.capacity x)))
  reserve-prints None parent c q x e apart = laws.first parent c (service_between q.directionality x) q.version q.start q.end q.capacity x tt tt apart
  reserve-prints (Some id) parent c q x e apart = laws.modification parent c id q.version q.start q.end q.capacity x e

  reserve-mild : (parent : List ℕ) (c : ℕ) (q : ReserveAsk) (x : ChildConnection) → bytes_eq x.source x.dest ≡ false → IsMildAsk x (asks_reserve parent c q x)
  reserve-mild parent c q x apart = free-mild (open_request Kind.Reserve x) parent c Kind.Reserve (reserve_of q x) x (reserve-prints x.connection parent c q x refl apart)

  ---- Asks

  module _ (set : Setting) (s : AgentState) (good : All IsApart s.views) where
    stays-mild : IsMild s (stays s)
    stays-mild = record { taken = refl; drawn = omega arith; apart = good; prints = All-nil IsPrintable }

    refuses-mild : IsMild s (refuses s)
    refuses-mild = record { taken = refl; drawn = omega arith; apart = good; prints = All-nil IsPrintable }

    at-mild : (found : ℕ × View) (x : Asked) → slice_get s.views found.0 ≡ Some found.1 → IsMildAsk found.1.child x → IsMild s (asks_at found x s)
    unfolding asks_at answers
    at-mild found x e m =
        record {
          taken = refl;
          drawn = omega (arith, m.few);
          apart = All-set IsApart s.views found.0 _ (moved-apart found.1.child x.child m.place (found-apart s.views found.0 found.1 e good)) good;
          prints = m.prints;
        }

    new-mild : (label : List ℕ) (y : ChildConnection) (x : Asked) → bytes_eq y.source y.dest ≡ false → IsMildAsk y x → IsMild s (asks_new label x s)
    unfolding asks_new answers
    new-mild label y x apart m =
        record {
          taken = refl;
          drawn = omega (arith, m.few);
          apart = All-append IsApart s.views _ good (All-cons IsApart (record { label = label; child = x.child }) [] (moved-apart y x.child m.place apart) (All-nil IsApart));
          prints = m.prints;
        }

    found-mild : (o : Option (ℕ × View)) (k : Kind) → ((found : ℕ × View) → o ≡ Some found → slice_get s.views found.0 ≡ Some found.1) → IsMild s (asks_found o k set s)
    unfolding asks_found
    found-mild None k h = refuses-mild
    found-mild (Some found) k h = at-mild found (asks_about set.name (next_id set s) k found.1.child) (h found refl) (about-mild found.1.child.connection set.name (next_id set s) k found.1.child)

    reserves-mild : (o : Option (ℕ × View)) (q : ReserveAsk) (label : List ℕ) → bytes_eq q.source q.dest ≡ false → ((found : ℕ × View) → o ≡ Some found → slice_get s.views found.0 ≡ Some found.1) → IsMild s (reserves o q label set s)
    unfolding reserves
    reserves-mild None q label e h =
        new-mild label (new_view set.provider q.source q.dest) (asks_reserve set.name (next_id set s) q (new_view set.provider q.source q.dest)) e (reserve-mild set.name (next_id set s) q (new_view set.provider q.source q.dest) e)
    reserves-mild (Some found) q label e h =
        at-mild found (asks_reserve set.name (next_id set s) q found.1.child) (h found refl) (reserve-mild set.name (next_id set s) q found.1.child (found-apart s.views found.0 found.1 (h found refl) good))

    sends-mild : (query : Option Body) → IfSome query IsPrintableBody → IsMild s (sends_query query set s)
    unfolding sends_query
    sends-mild None p = refuses-mild
    sends-mild (Some body) p = record { taken = refl; drawn = omega arith; apart = good; prints = All-cons IsPrintable (query_under set (next_id set s) body) [] p (All-nil IsPrintable) }

    query-mild : (what : What) (found : Option (ℕ × View)) → IsMild s (sends_query (query_for what found) set s)
    query-mild what found = sends-mild (query_for what found) (query_is IsPrintableBody (record { summary = λ connection. tt; notifications = λ range. tt; results = λ range. tt; recursive = λ connection. tt }) what found)

    of-mild : (what : What) (label : List ℕ) → ArePointsApart what → IsMild s (asked_of what label (find_view label s.views) set s)
    unfolding asked_of
    of-mild (What.Reserve q) label e = reserves-mild (find_view label s.views) q label e (found-there label s.views)
    of-mild What.Commit label e = found-mild (find_view label s.views) Kind.ReserveCommit (found-there label s.views)
    of-mild What.Abort label e = found-mild (find_view label s.views) Kind.ReserveAbort (found-there label s.views)
    of-mild What.Provision label e = found-mild (find_view label s.views) Kind.Provision (found-there label s.views)
    of-mild What.Release label e = found-mild (find_view label s.views) Kind.Release (found-there label s.views)
    of-mild What.Terminate label e = found-mild (find_view label s.views) Kind.Terminate (found-there label s.views)
    of-mild what label e = query-mild what (find_view label s.views)

    asked-mild : (label : Option (List ℕ)) (what : What) → ArePointsApart what → IsMild s (asked label what set s)
    unfolding asked
    asked-mild None What.Summary e = sends-mild (Some (Body.QuerySummary None)) tt
    asked-mild None what e = refuses-mild
    asked-mild (Some label) what e = of-mild what label e

    ---- Messages

    heard-apart : (m : Message) (vs : List View) → All IsApart vs → All IsApart (map (view_hears m) vs)
    heard-apart m [] all = All-nil IsApart
    heard-apart m (v ∷ vs) all =
        All-cons IsApart (view_hears m v) (map (view_hears m) vs) (moved-apart v.child (hear m v.child).view (laws.messages m v.child) (All-head IsApart v vs all)) (heard-apart m vs (All-tail IsApart v vs all))

    hears-mild : (is_old : Bool) (m : Message) → IsMild s (hears_if is_old m s)
    unfolding hears_if
    hears-mild true m = stays-mild
    hears-mild false m = record { taken = refl; drawn = omega arith; apart = heard-apart m s.views good; prints = All-nil IsPrintable }

    pub step_mild : (input : Input) (second : ℕ) → IsPrintableInput input → IsMild s (step input second set s)
    unfolding step acked ticks
    step_mild (Input.Ask number ask) second p = asked-mild ask.label ask.what p.apart
    step_mild (Input.Got m) second p = hears-mild (is_old m (retry_of s.base)) m
    step_mild Input.Tick second p = record { taken = refl; drawn = omega arith; apart = good; prints = All-nil IsPrintable }
    step_mild (Input.Acked i) second p = record { taken = refl; drawn = omega arith; apart = good; prints = All-nil IsPrintable }
    step_mild (Input.Work n machine) second p = stays-mild
    step_mild (Input.Force n) second p = stays-mild

-- what is true of each state stays true
pub mild_good : (s : AgentState) (x : AgentStepped) → s.base.taken < 4194304 → IsMild s x → IsGood s → IsGood (counts_agent x).state
mild_good s x few m g = record { most = omega (arith, m.taken); drawn = omega (arith, m.taken, m.drawn, g.drawn); apart = m.apart }

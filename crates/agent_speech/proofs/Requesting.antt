-- What an entry makes a requester say was owed, and what it asks its views hold.
use Rattle.std.proofs.Common.{ℕ, ◌+◌, ◌≤◌, ◌≡◌, Bool, true, false, List, [], ◌∷◌, Option, Some, None, inl, refl, ap, ◌∙◌, arith, length, slice_get}
use Rattle.std.specs.Prelude.{IfSome}
use Rattle.nsi_primitive.specs.Ids.{id_of}
use Rattle.nsi_primitive.specs.Kinds.{is_query_kind}
use Rattle.nsi_primitive.specs.Messages.{kind_of, is_query}
use Rattle.nsi_primitive.specs.declared.ask.AskAnswer.{AskAnswer}
use Rattle.nsi_primitive.specs.declared.ask.ReserveAsk.{ReserveAsk}
use Rattle.nsi_primitive.specs.declared.ask.What.{What}
use Rattle.nsi_primitive.specs.declared.entry.Input.{Input}
use Rattle.nsi_primitive.specs.declared.kind.Kind.{Kind}
use Rattle.nsi_primitive.specs.declared.message.Body.{Body}
use Rattle.nsi_primitive.specs.declared.message.Header.{Header}
use Rattle.nsi_primitive.specs.declared.message.Message.{Message}
use Rattle.message_retry.specs.Retry.{is_old}
use Rattle.connection_record.specs.Speaking.{one, tally, is_asking}
use Rattle.connection_record.proofs.Saying.{tally_append}
use Rattle.child_connection.specs.declared.state.Sent.{Sent}
use Rattle.child_connection.specs.Asks.{request_about, to_child}
use Rattle.child_connection.specs.Holding.{is_reservation, holds}
use Rattle.child_connection.specs.Views.{ChildConnection, new_view, open_request}
use Rattle.agent_state.specs.declared.parent.View.{View}
use Rattle.agent_state.specs.Entries.{retry_of}
use Rattle.agent_state.specs.State.{AgentState, AgentStepped, stays}
use Rattle.requester_agent.specs.Queries.{query_for, query_under}
use Rattle.requester_agent.specs.Setting.{Setting}
use Rattle.requester_agent.specs.Views.{Asked, refused, sent_as, asks_if_free, asks_if_known, asks_about, asks_reserve, reserve_of}
use Rattle.requester_agent.specs.Steps.{find_view, next_id, answers, refuses, asks_at, asks_new, asks_found, reserves, sends_query, asked_of, asked, view_hears, hears_if, acked, ticks, step}
use Rattle.requester_agent.proofs.Mild.{found-there}
use Rattle.requester_agent.proofs.Queries.{query_is}
use Rattle.agent_speech.specs.Owing.{answers_to, is_drawn, is_foreign, before}
use Rattle.agent_speech.specs.Unanswered.{reserves_at, view_holds, held, misfits, view_misfits, unfit}
use Rattle.agent_speech.proofs.Measures.{before_next, request_answers, request_drawn, request_own}
use Rattle.agent_speech.proofs.Once.{RecordsSay, says_nothing, says_none}
use Rattle.agent_speech.proofs.Viewing.{asks_misfit, asks_hold, asks_few, new_misfits, new_holds, hear_misfit, hear_hold, hear_few}
use Rattle.agent_speech.proofs.Noting.{saw_took, saw_leaves}
use Rattle.agent_speech.proofs.Counting.{tally_none, tally_cons, tally_set, tally_map_less, tally_map_but}
use Rattle.agent_speech.proofs.Holding.{IsHolding, holds_still, holds_same, nothing_asked, other_reserves, asked_reserves}

---- A query

-- a request that isn't of the reservation machine
record IsApart (body : Body) : Type 0 where
  asks : is_asking body ≡ true
  rests : is_reservation (kind_of body) ≡ false

is_apart : (body : Body) → is_query body ≡ true → IsApart body
unfolding is_asking is_reservation
is_apart body e = let q : is_query_kind (kind_of body) ≡ true = e in record { asks = grind (arith, q); rests = grind (arith, q) }

---- A view that is asked

-- an ask of a view, under the next id
record IsAskOf (name : List ℕ) (number next : ℕ) (x : ChildConnection) (a : Asked) : Type 0 where
  answers : (h : Header) (n : ℕ) → tally (answers_to h n) a.out ≡ 0
  drawn : (c : ℕ) → tally (is_drawn c) a.out + before number next c ≤ before number (next + length a.out) c
  own : tally (is_foreign name) a.out ≡ 0
  fit : one (misfits a.child) ≤ one (misfits x)
  holds_on : (p : List ℕ) (c : ℕ) → tally (reserves_at p c) a.out + one (holds p c x) ≤ one (holds p c a.child)
  few : (p : List ℕ) (c : ℕ) → one (holds p c a.child) ≤ one (holds p c x) + tally (reserves_at p c) a.out

module _ (name : List ℕ) (number next : ℕ) where
  refused_ask : (answer : AskAnswer) (x : ChildConnection) → IsAskOf name number next x (refused answer x)
  unfolding tally
  refused_ask answer x =
      let e : next + 0 ≡ next = omega arith in
      record {
        answers = λ h n. refl;
        drawn = λ c. omega (arith, ap (λ k. before number k c) e);
        own = refl;
        fit = omega arith;
        holds_on = λ p c. omega arith;
        few = λ p c. omega arith;
      }

  sent_ask : (k : Kind) (body : Body) (x : ChildConnection) → kind_of body ≡ k → is_asking body ≡ true → open_request k x ≡ None → IsAskOf name number next x (sent_as name (id_of number next) k body x)
  sent_ask k body x e r o =
      let id : ℕ = id_of number next in
      let m : Message = to_child name id x body in
      record {
        answers = λ h n. omega (arith, request_answers h n m [] r, tally_none (answers_to h n));
        drawn = λ c. omega (arith, request_drawn c m [] r, tally_none (is_drawn c), before_next number next c);
        own = omega (arith, request_own name m [] r refl, tally_none (is_foreign name));
        fit = asks_misfit k id x (inl o);
        holds_on = λ p c. omega (arith, asked_reserves p c id name x k body [] e, tally_none (reserves_at p c), asks_hold k id x p c (inl o));
        few = λ p c. omega (arith, asked_reserves p c id name x k body [] e, tally_none (reserves_at p c), asks_few k id x p c);
      }

  free_ask : (o : Option Sent) (k : Kind) (body : Body) (x : ChildConnection) → open_request k x ≡ o → kind_of body ≡ k → is_asking body ≡ true → IsAskOf name number next x (asks_if_free o name (id_of number next) k body x)
  unfolding asks_if_free
  free_ask (Some q) k body x o e r = refused_ask (AskAnswer.Outstanding q.correlation) x
  free_ask None k body x o e r = sent_ask k body x e r o

  known_ask : (o : Option ℕ) (k : Kind) (x : ChildConnection) → ((id : ℕ) → (kind_of (request_about k id) ≡ k) × (is_asking (request_about k id) ≡ true)) → IsAskOf name number next x (asks_if_known o name (id_of number next) k x)
  unfolding asks_if_known
  known_ask None k x h = refused_ask AskAnswer.NoId x
  known_ask (Some id) k x h = free_ask (open_request k x) k (request_about k id) x refl (h id).0 (h id).1

  reserve_ask : (q : ReserveAsk) (x : ChildConnection) → IsAskOf name number next x (asks_reserve name (id_of number next) q x)
  unfolding is_asking
  reserve_ask q x = free_ask (open_request Kind.Reserve x) Kind.Reserve (reserve_of q x) x refl refl refl

---- An ask

-- what an entry says, and what the views hold then, but for what is heard; no query waits at a requester
pub record IsStep (set : Setting) (s : AgentState) (x : AgentStepped) : Type 0 where
  pub says : RecordsSay set.name set.number s.base x.state.base x.out
  pub queries : x.state.queries ≡ s.queries
  pub holds : IsHolding s x.state x.out

module _ (set : Setting) (s : AgentState) where
  stays_step : IsStep set s (stays s)
  stays_step = record { says = says_none set.name set.number s.base; queries = refl; holds = holds_same s }

  refuses_step : IsStep set s (refuses s)
  refuses_step = record { says = says_none set.name set.number s.base; queries = refl; holds = holds_same s }

  at_step : (found : ℕ × View) (x : Asked) → slice_get s.views found.0 ≡ Some found.1 → IsAskOf set.name set.number s.base.next found.1.child x → IsStep set s (asks_at found x s)
  unfolding asks_at answers held unfit
  at_step found x e a =
      let v : View = record found.1 { child = x.child } in
      record {
        says = record { answers = λ h n. omega (arith, a.answers h n); drawn = λ c. omega (arith, a.drawn c); own = a.own };
        queries = refl;
        holds = record {
          fit = omega (arith, tally_set view_misfits s.views found.0 found.1 v e, a.fit);
          holds_on = λ p c n. omega (arith, tally_set (view_holds p c) s.views found.0 found.1 v e, a.holds_on p c);
          few = λ p c. omega (arith, tally_set (view_holds p c) s.views found.0 found.1 v e, a.few p c);
        };
      }

  new_step : (label child source dest : List ℕ) (x : Asked) → IsAskOf set.name set.number s.base.next (new_view child source dest) x → IsStep set s (asks_new label x s)
  unfolding asks_new answers held unfit
  new_step label child source dest x a =
      let v : View = record { label = label; child = x.child } in
      record {
        says = record { answers = λ h n. omega (arith, a.answers h n); drawn = λ c. omega (arith, a.drawn c); own = a.own };
        queries = refl;
        holds = record {
          fit = omega (arith, tally_append view_misfits s.views (v ∷ []), tally_cons view_misfits v [], tally_none view_misfits, a.fit, new_misfits child source dest);
          holds_on = λ p c n.
              omega (arith, tally_append (view_holds p c) s.views (v ∷ []), tally_cons (view_holds p c) v [], tally_none (view_holds p c), a.holds_on p c, new_holds p c child source dest);
          few = λ p c.
              omega (arith, tally_append (view_holds p c) s.views (v ∷ []), tally_cons (view_holds p c) v [], tally_none (view_holds p c), a.few p c, new_holds p c child source dest);
        };
      }

  found_step : (o : Option (ℕ × View)) (k : Kind) → ((id : ℕ) → (kind_of (request_about k id) ≡ k) × (is_asking (request_about k id) ≡ true)) → ((found : ℕ × View) → o ≡ Some found → slice_get s.views found.0 ≡ Some found.1)
      → IsStep set s (asks_found o k set s)
  unfolding asks_found
  found_step None k about h = refuses_step
  found_step (Some found) k about h =
      at_step found (asks_about set.name (next_id set s) k found.1.child) (h found refl) (known_ask set.name set.number s.base.next found.1.child.connection k found.1.child about)

  reserves_step : (o : Option (ℕ × View)) (q : ReserveAsk) (label : List ℕ) → ((found : ℕ × View) → o ≡ Some found → slice_get s.views found.0 ≡ Some found.1) → IsStep set s (reserves o q label set s)
  unfolding reserves
  reserves_step None q label h =
      let x : ChildConnection = new_view set.provider q.source q.dest in
      new_step label set.provider q.source q.dest (asks_reserve set.name (next_id set s) q x) (reserve_ask set.name set.number s.base.next q x)
  reserves_step (Some found) q label h =
      at_step found (asks_reserve set.name (next_id set s) q found.1.child) (h found refl) (reserve_ask set.name set.number s.base.next q found.1.child)

  -- a query has an id of its own, and asks for nothing of the reservation machine
  sends_step : (query : Option Body) → IfSome query IsApart → IsStep set s (sends_query query set s)
  unfolding sends_query
  sends_step None q = refuses_step
  sends_step (Some body) q =
      let m : Message = query_under set (next_id set s) body in
      record {
        says =
            record {
              answers = λ h n. omega (arith, request_answers h n m [] q.asks, tally_none (answers_to h n));
              drawn = λ c. omega (arith, request_drawn c m [] q.asks, tally_none (is_drawn c), before_next set.number s.base.next c);
              own = omega (arith, request_own set.name m [] q.asks refl, tally_none (is_foreign set.name));
            };
        queries = refl;
        holds = holds_still s _ (m ∷ []) refl refl (λ p c. other_reserves p c m [] q.rests ∙ nothing_asked p c);
      }

  query_step : (what : What) (found : Option (ℕ × View)) → IsStep set s (sends_query (query_for what found) set s)
  query_step what found =
      sends_step (query_for what found)
      (query_is IsApart (record { summary = λ connection. is_apart _ refl; notifications = λ range. is_apart _ refl; results = λ range. is_apart _ refl; recursive = λ connection. is_apart _ refl }) what found)

  of_step : (what : What) (label : List ℕ) → IsStep set s (asked_of what label (find_view label s.views) set s)
  unfolding asked_of request_about is_asking
  of_step (What.Reserve q) label = reserves_step (find_view label s.views) q label (found-there label s.views)
  of_step What.Commit label = found_step (find_view label s.views) Kind.ReserveCommit (λ id. (refl, refl)) (found-there label s.views)
  of_step What.Abort label = found_step (find_view label s.views) Kind.ReserveAbort (λ id. (refl, refl)) (found-there label s.views)
  of_step What.Provision label = found_step (find_view label s.views) Kind.Provision (λ id. (refl, refl)) (found-there label s.views)
  of_step What.Release label = found_step (find_view label s.views) Kind.Release (λ id. (refl, refl)) (found-there label s.views)
  of_step What.Terminate label = found_step (find_view label s.views) Kind.Terminate (λ id. (refl, refl)) (found-there label s.views)
  of_step what label = query_step what (find_view label s.views)

  asked_step : (label : Option (List ℕ)) (what : What) → IsStep set s (asked label what set s)
  unfolding asked
  asked_step None What.Summary = sends_step (Some (Body.QuerySummary None)) (is_apart (Body.QuerySummary None) refl)
  asked_step None what = refuses_step
  asked_step (Some label) what = of_step what label

  ---- A message

  hears_step : (b : Bool) (m : Message) → is_old m (retry_of s.base) ≡ b → IsStep set s (hears_if b m s)
  unfolding hears_if held unfit
  hears_step true m old = stays_step
  hears_step false m old =
      record {
        says = says_nothing set.name set.number s.base _ refl refl (λ h. saw_took h m (retry_of s.base));
        queries = refl;
        holds = record {
          fit = omega (arith, tally_map_less view_misfits (view_hears m) (λ v. hear_misfit m v.child) s.views);
          holds_on = λ p c n.
              omega (arith, tally_none (reserves_at p c), tally_map_but (view_holds p c) view_misfits (view_hears m) (λ v. hear_hold m v.child p c (saw_leaves p c m (retry_of s.base) old n)) s.views);
          few = λ p c. omega (arith, tally_map_less (view_holds p c) (view_hears m) (λ v. hear_few m v.child p c) s.views);
        };
      }

  ---- One entry

  pub requester_step : (i : Input) (second : ℕ) → IsStep set s (step i second set s)
  unfolding step acked ticks
  requester_step (Input.Ask number ask) second = asked_step ask.label ask.what
  requester_step (Input.Got m) second = hears_step (is_old m (retry_of s.base)) m refl
  requester_step Input.Tick second =
      record { says = says_nothing set.name set.number s.base _ refl refl (λ h. omega arith); queries = refl; holds = holds_still s _ [] refl refl nothing_asked }
  requester_step (Input.Acked i) second =
      record { says = says_nothing set.name set.number s.base _ refl refl (λ h. omega arith); queries = refl; holds = holds_still s _ [] refl refl nothing_asked }
  requester_step (Input.Work n machine) second = stays_step
  requester_step (Input.Force n) second = stays_step

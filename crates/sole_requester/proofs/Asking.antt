-- What an ask, and a message, make of a requester's numbers.
use Rattle.std.proofs.Common.{◌≡◌, ℕ, Bool, true, false, List, Option, Some, None, option_and_then, arith, refl, subst}
use Rattle.std.proofs.lemmas.Option.{same_Some}
use Rattle.nsi_primitive.specs.Messages.{is_request}
use Rattle.nsi_primitive.specs.declared.ask.ReserveAsk.{ReserveAsk}
use Rattle.nsi_primitive.specs.declared.ask.What.{What}
use Rattle.nsi_primitive.specs.declared.kind.Kind.{Kind}
use Rattle.nsi_primitive.specs.declared.message.Body.{Body}
use Rattle.nsi_primitive.specs.declared.message.Message.{Message}
use Rattle.child_connection.specs.declared.state.Sent.{Sent}
use Rattle.child_connection.specs.Views.{ChildConnection, new_view, open_request}
use Rattle.child_connection.specs.Asks.{request_about}
use Rattle.agent_state.specs.declared.parent.View.{View}
use Rattle.agent_state.specs.State.{AgentState}
use Rattle.requester_agent.specs.Queries.{query_about, query_for, connection_known}
use Rattle.requester_agent.specs.Setting.{Setting}
use Rattle.requester_agent.specs.Views.{Asked, asks_if_free, asks_if_known, asks_about, asks_reserve, reserve_of}
use Rattle.requester_agent.specs.Steps.{find_view, next_id, answers, refuses, asks_at, asks_new, asks_found, reserves, sends_query, asked_of, asked, hears_if}
use Rattle.sole_requester.specs.Sole.{AreOwnRequests, HasAskedAs, HasHeardAs}

---- Requests

about_request : (k : Kind) (id : ℕ) → is_request (request_about k id) ≡ true
unfolding request_about
about_request k id = grind arith

query_request : (what : What) (id : ℕ) (body : Body) → query_about what id ≡ Some body → is_request body ≡ true
unfolding query_about
query_request what id body e = grind (arith, e)

module _ (set : Setting) (s : AgentState) where
  abbrev Own : List Message → Type 0
  Own out = AreOwnRequests set s.base.next out

  free_own : (o : Option Sent) (k : Kind) (body : Body) (x : ChildConnection) → is_request body ≡ true → Own (asks_if_free o set.name (next_id set s) k body x).out
  unfolding asks_if_free AreOwnRequests
  free_own (Some q) k body x is = tt
  free_own None k body x is = (record { requester = refl; correlation = refl; request = is }, tt)

  about_own : (o : Option ℕ) (k : Kind) (x : ChildConnection) → Own (asks_if_known o set.name (next_id set s) k x).out
  unfolding asks_if_known AreOwnRequests
  about_own None k x = tt
  about_own (Some id) k x = free_own (open_request k x) k (request_about k id) x (about_request k id)

  refused : HasAskedAs 0 set s (refuses s)
  unfolding AreOwnRequests
  refused = record { own = tt; next = omega arith; now = refl; taken = omega arith }

  answered : (x : Asked) (vs : List View) → Own x.out → HasAskedAs 0 set s (answers x vs s)
  unfolding answers
  answered x vs own = record { own = own; next = refl; now = refl; taken = omega arith }

  found_asks : (o : Option (ℕ × View)) (k : Kind) → HasAskedAs 0 set s (asks_found o k set s)
  unfolding asks_found asks_at
  found_asks None k = refused
  found_asks (Some found) k = answered (asks_about set.name (next_id set s) k found.1.child) _ (about_own found.1.child.connection k found.1.child)

  reserve_asks : (o : Option (ℕ × View)) (q : ReserveAsk) (label : List ℕ) → HasAskedAs 0 set s (reserves o q label set s)
  unfolding reserves asks_at asks_new
  reserve_asks None q label =
      let x = new_view set.provider q.source q.dest in
      answered (asks_reserve set.name (next_id set s) q x) _ (free_own (open_request Kind.Reserve x) Kind.Reserve (reserve_of q x) x refl)
  reserve_asks (Some found) q label =
      let x = found.1.child in
      answered (asks_reserve set.name (next_id set s) q x) _ (free_own (open_request Kind.Reserve x) Kind.Reserve (reserve_of q x) x refl)

  query_asks : (o : Option Body) → ((body : Body) → o ≡ Some body → is_request body ≡ true) → HasAskedAs 0 set s (sends_query o set s)
  unfolding sends_query AreOwnRequests
  query_asks None is = refused
  query_asks (Some body) is = record { own = (record { requester = refl; correlation = refl; request = is body refl }, tt); next = refl; now = refl; taken = omega arith }

  known_query : (what : What) (o : Option ℕ) (body : Body) → option_and_then (query_about what) o ≡ Some body → is_request body ≡ true
  known_query what None body e = absurd cc
  known_query what (Some id) body e = query_request what id body e

  of_asks : (what : What) (label : List ℕ) (found : Option (ℕ × View)) → HasAskedAs 0 set s (asked_of what label found set s)
  unfolding asked_of
  of_asks (What.Reserve q) label found = reserve_asks found q label
  of_asks What.Commit label found = found_asks found Kind.ReserveCommit
  of_asks What.Abort label found = found_asks found Kind.ReserveAbort
  of_asks What.Provision label found = found_asks found Kind.Provision
  of_asks What.Release label found = found_asks found Kind.Release
  of_asks What.Terminate label found = found_asks found Kind.Terminate
  of_asks what label found = query_asks (query_for what found) (λ body e. known_query what (connection_known found) body e)

  pub asks : (label : Option (List ℕ)) (what : What) → HasAskedAs 0 set s (asked label what set s)
  unfolding asked
  asks None What.Summary = query_asks (Some (Body.QuerySummary None)) (λ body e. subst (λ (b : Body). is_request b ≡ true) (same_Some (Body.QuerySummary None) body e) refl)
  asks None what = refused
  asks (Some label) what = of_asks what label (find_view label s.views)

  pub heard : (b : Bool) (m : Message) → HasHeardAs 0 s (hears_if b m s)
  unfolding hears_if
  heard true m = record { next = refl; now = refl; taken = omega arith }
  heard false m = record { next = refl; now = refl; taken = omega arith }

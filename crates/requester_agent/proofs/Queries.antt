-- What is true of queries of each kind is true of the one that is asked.
use Rattle.std.proofs.Common.{ℕ, Option, Some, None}
use Rattle.std.specs.Prelude.{IfSome}
use Rattle.std.specs.Option.{option_and_then}
use Rattle.nsi_primitive.specs.declared.ask.What.{What}
use Rattle.nsi_primitive.specs.declared.message.Body.{Body}
use Rattle.nsi_primitive.specs.declared.message.NumberRange.{NumberRange}
use Rattle.agent_state.specs.declared.parent.View.{View}
use Rattle.requester_agent.specs.Queries.{query_about, connection_known, query_for}

pub record AreAll (P : Body → Type 0) : Type 0 where
  pub summary : (connection : Option ℕ) → P (Body.QuerySummary connection)
  pub notifications : (range : NumberRange) → P (Body.QueryNotification range)
  pub results : (range : NumberRange) → P (Body.QueryResult range)
  pub recursive : (connection : ℕ) → P (Body.QueryRecursive connection)

module _ (P : Body → Type 0) where
  about_is : AreAll P → (what : What) (id : ℕ) → IfSome (query_about what id) P
  unfolding query_about
  about_is are What.Summary id = are.summary (Some id)
  about_is are (What.Notifications numbers) id = are.notifications _
  about_is are (What.Results numbers) id = are.results _
  about_is are What.Recursive id = are.recursive id
  about_is are _ id = tt

  known_is : (what : What) → ((id : ℕ) → IfSome (query_about what id) P) → (known : Option ℕ) → IfSome (option_and_then (query_about what) known) P
  known_is what about None = tt
  known_is what about (Some id) = about id

  pub query_is : AreAll P → (what : What) (found : Option (ℕ × View)) → IfSome (query_for what found) P
  query_is are what found = known_is what (about_is are what) (connection_known found)

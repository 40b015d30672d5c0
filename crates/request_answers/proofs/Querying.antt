-- A query is answered by an error, or by the rows that it asks for.
use Rattle.std.proofs.Common.{◌≡◌, ℕ, true, List, [], ◌∷◌, Option, Some, None, refl, ap, subst, option_and_then, map, arith}
use Rattle.std.proofs.lemmas.Option.{same_Some}
use Rattle.nsi_primitive.specs.Messages.{kind_of, is_request, is_query, connection_of}
use Rattle.nsi_primitive.specs.declared.kind.Kind.{Kind}
use Rattle.nsi_primitive.specs.declared.message.Body.{Body}
use Rattle.nsi_primitive.specs.declared.message.Message.{Message}
use Rattle.nsi_primitive.specs.declared.message.SummaryRow.{SummaryRow}
use Rattle.connection_record.specs.declared.record.Record.{Record}
use Rattle.connection_record.specs.Refusal.{place_of, record_for}
use Rattle.nsi_query.specs.declared.rows.Rows.{Rows}
use Rattle.nsi_query.specs.Answers.{answer_about, answer_by, answer_to, shown_at, summary_answer}
use Rattle.nsi_query.specs.Summary.{Shown, summary}
use Rattle.agent_state.specs.Entries.{query_reply}
use Rattle.agent_state.proofs.Querying.{replied_by, reply_header}
use Rattle.agent_state.specs.State.{AgentState}
use Rattle.aggregator_agent.specs.Queries.{shown_at as shown_in, all_shown, answer_by as answer_in_by, answer_to as answer_in}
use Rattle.request_answers.specs.Answers.{is_answer, IsAnswered}
use Rattle.request_answers.proofs.Serving.{answered_by, error_answers}

-- what is known of a connection answers the query about it
pub about_answers : (agent : List ℕ) (x : Shown) (query body : Body) → answer_about agent x query ≡ Some body → is_answer (kind_of query) (kind_of body) ≡ true
unfolding answer_about is_answer
about_answers agent x query body e = grind (arith, e)

found_answers : (agent : List ℕ) (now : ℕ) (o : Option Record) (query body : Body) → option_and_then (λ r. answer_about agent (shown_at now r) query) o ≡ Some body → is_answer (kind_of query) (kind_of body) ≡ true
found_answers agent now None query body e = absurd (cc)
found_answers agent now (Some r) query body e = about_answers agent (shown_at now r) query body e

-- a query that names no connection is one for a summary of all
summary_alone : (query : Body) → is_query query ≡ true → connection_of query ≡ None → kind_of query ≡ Kind.QuerySummary
unfolding connection_of
summary_alone query q e = grind (arith, q, e)

all_answers : (query : Body) (found : Rows SummaryRow) → kind_of query ≡ Kind.QuerySummary → is_answer (kind_of query) (kind_of (summary_answer found)) ≡ true
unfolding is_answer
all_answers query found e = ap (λ k. is_answer k Kind.QuerySummaryConfirmed) e

provider_answers : (agent : List ℕ) (now : ℕ) (records : List Record) (m : Message) (body : Body) → is_query m.body ≡ true → answer_to agent now records m ≡ Some body →
    is_answer (kind_of m.body) (kind_of body) ≡ true
provider_answers agent now records m body q is = by (connection_of m.body) refl is
  where
    by : (o : Option ℕ) → connection_of m.body ≡ o → answer_by o agent now records m ≡ Some body → is_answer (kind_of m.body) (kind_of body) ≡ true
    by None e is =
        subst (λ (b : Body). is_answer (kind_of m.body) (kind_of b) ≡ true) (same_Some _ body is) (all_answers m.body (summary m.header.requester (map (shown_at now) records)) (summary_alone m.body q e))
    by (Some id) e is = found_answers agent now (record_for id m.header.requester records) m.body body is

-- what answers a query, an error or rows
pub reply_answers : (agent : List ℕ) (m : Message) (o : Option Body) → is_query m.body ≡ true → ((body : Body) → o ≡ Some body → is_answer (kind_of m.body) (kind_of body) ≡ true) → IsAnswered m (query_reply agent m o ∷ [])
reply_answers agent m o q rows =
    answered_by m (query_reply agent m o) (reply_header agent m o)
    (replied_by (λ b. is_answer (kind_of m.body) (kind_of b) ≡ true) agent m o (λ error plain. error_answers (kind_of m.body) (query_asks m.body q)) rows)
  where
    query_asks : (body : Body) → is_query body ≡ true → is_request body ≡ true
    query_asks body e = grind (arith, e)

-- a provider answers each query at once
pub query_answered : (agent : List ℕ) (now : ℕ) (records : List Record) (m : Message) → is_query m.body ≡ true → IsAnswered m (query_reply agent m (answer_to agent now records m) ∷ [])
query_answered agent now records m q = reply_answers agent m (answer_to agent now records m) q (λ body is. provider_answers agent now records m body q is)

---- At an aggregator

shown_answers : (agent : List ℕ) (s : AgentState) (m : Message) (o : Option ℕ) (body : Body) → option_and_then (λ n. answer_about agent (shown_in n s) m.body) o ≡ Some body → is_answer (kind_of m.body) (kind_of body) ≡ true
shown_answers agent s m None body e = absurd (cc)
shown_answers agent s m (Some n) body e = about_answers agent (shown_in n s) m.body body e

aggregator_answers : (agent : List ℕ) (s : AgentState) (m : Message) (body : Body) → is_query m.body ≡ true → answer_in agent s m ≡ Some body → is_answer (kind_of m.body) (kind_of body) ≡ true
aggregator_answers agent s m body q is = by (connection_of m.body) refl is
  where
    by : (o : Option ℕ) → connection_of m.body ≡ o → answer_in_by o agent s m ≡ Some body → is_answer (kind_of m.body) (kind_of body) ≡ true
    by None e is =
        subst (λ (b : Body). is_answer (kind_of m.body) (kind_of b) ≡ true) (same_Some _ body is) (all_answers m.body (summary m.header.requester (all_shown s)) (summary_alone m.body q e))
    by (Some id) e is = shown_answers agent s m (place_of id m.header.requester s.base.records) body is

-- an aggregator answers at once each query but the one about all that is below
pub aggregator_answered : (agent : List ℕ) (s : AgentState) (m : Message) → is_query m.body ≡ true → IsAnswered m (query_reply agent m (answer_in agent s m) ∷ [])
aggregator_answered agent s m q = reply_answers agent m (answer_in agent s m) q (λ body is. aggregator_answers agent s m body q is)

-- What is true of every answer to a query.
use Rattle.std.proofs.Common.{◌≡◌, ℕ, List, map, filter, true, Option, Some, None, refl, ap, ◌∙◌, subst, is_some, option_and_then, slice_get, arith}
use Rattle.std.specs.List.{All}
use Rattle.std.proofs.lemmas.List.Elements.{All-take, All-map, All-filter}
use Rattle.std.proofs.lemmas.Option.{get_or_from_slice_get, slice_get_within}
use Rattle.nsi_primitive.specs.Messages.{connection_of, has_rows}
use Rattle.nsi_primitive.specs.Printable.{IsPrintableBody, IsShort}
use Rattle.nsi_primitive.specs.declared.message.Body.{Body}
use Rattle.nsi_primitive.specs.declared.message.Message.{Message}
use Rattle.nsi_primitive.specs.declared.message.SummaryRow.{SummaryRow}
use Rattle.connection_record.specs.declared.record.Record.{Record}
use Rattle.connection_record.specs.Refusal.{place_of}
use Rattle.nsi_query.specs.Answers.{answer_about, answer_by, shown_at, summary_answer}
use Rattle.nsi_query.specs.Cut.{most_summaries}
use Rattle.nsi_query.specs.Laws.{AnswersArePrintable, AnswersHaveRows, HasShortService, HasShortTexts, ProvidersAnswer, ProvidersArePrintable, ProvidersTellRows, QueriesAreAnswered, SummariesArePrintable}
use Rattle.nsi_query.specs.Summary.{Shown, is_of, summary, summary_row}

pub queries_are_answered : QueriesAreAnswered
unfolding answer_about
queries_are_answered agent x query = grind arith

pub answers_have_rows : AnswersHaveRows
unfolding answer_about
answers_have_rows agent x query body h = grind arith

abbrev IsShortRow : SummaryRow → Type 0
IsShortRow row = IsShort 256 row.description × IsShort 128 row.global

short_rows : (all : List Shown) → All HasShortTexts all → All IsShortRow (map summary_row all)
unfolding summary_row
short_rows all h = All-map IsShortRow summary_row all h

pub summaries_are_printable : SummariesArePrintable
summaries_are_printable owner all h =
    All-take IsShortRow most_summaries (map summary_row (filter (is_of owner) all)) (short_rows (filter (is_of owner) all) (All-filter (is_of owner) HasShortTexts all h))

pub answers_are_printable : AnswersArePrintable
unfolding answer_about summary_row
answers_are_printable agent x query body h is = grind (arith, h, is)

---- The connections of a provider

short_found : (records : List Record) (n : ℕ) (r : Record) → All HasShortService records → slice_get records n ≡ Some r → HasShortService r
short_found records n r all e = subst HasShortService (get_or_from_slice_get records n r r e) (all n r (slice_get_within records n r e))

-- what holds of the answer about each connection, and of that about all, holds of what a provider answers
module _ (agent : List ℕ) (now : ℕ) (records : List Record) (m : Message) (P : Body → Type 0) where
  about_found : ((n : ℕ) (r : Record) (body : Body) → slice_get records n ≡ Some r → answer_about agent (shown_at now r) m.body ≡ Some body → P body)
      → (n : ℕ) (o : Option Record) (body : Body) → slice_get records n ≡ o → option_and_then (λ r. answer_about agent (shown_at now r) m.body) o ≡ Some body → P body
  about_found one n None body e is = absurd cc
  about_found one n (Some r) body e is = one n r body e is

  about_placed : ((n : ℕ) (r : Record) (body : Body) → slice_get records n ≡ Some r → answer_about agent (shown_at now r) m.body ≡ Some body → P body)
      → (o : Option ℕ) (body : Body) → option_and_then (λ r. answer_about agent (shown_at now r) m.body) (option_and_then (λ n. slice_get records n) o) ≡ Some body → P body
  about_placed one None body is = absurd cc
  about_placed one (Some n) body is = about_found one n (slice_get records n) body refl is

  answered : ((n : ℕ) (r : Record) (body : Body) → slice_get records n ≡ Some r → answer_about agent (shown_at now r) m.body ≡ Some body → P body)
      → P (summary_answer (summary m.header.requester (map (shown_at now) records))) → (o : Option ℕ) (body : Body) → answer_by o agent now records m ≡ Some body → P body
  answered one all None body is = let same : summary_answer (summary m.header.requester (map (shown_at now) records)) ≡ body = cc in subst P same all
  answered one all (Some id) body is = about_placed one (place_of id m.header.requester records) body is

pub providers_answer : ProvidersAnswer
providers_answer agent now records m id r q names found =
    ap (λ o. is_some (answer_by o agent now records m)) names ∙ ap (λ o. is_some (option_and_then (λ x. answer_about agent (shown_at now x) m.body) o)) found
    ∙ queries_are_answered agent (shown_at now r) m.body ∙ q

pub providers_tell_rows : ProvidersTellRows
providers_tell_rows agent now records m body is =
    answered agent now records m (λ b. has_rows b ≡ true) (λ n r b e f. answers_have_rows agent (shown_at now r) m.body b f) refl (connection_of m.body) body is

pub providers_are_printable : ProvidersArePrintable
providers_are_printable agent now records m body short is =
    answered agent now records m IsPrintableBody (λ n r b e f. answers_are_printable agent (shown_at now r) m.body b (short_found records n r short e) f)
    (summaries_are_printable m.header.requester (map (shown_at now) records) (All-map HasShortTexts (shown_at now) records short)) (connection_of m.body) body is

-- What is true of every answer to a query.
use Rattle.std.specs.Prelude.{◌≡◌, ℕ, List, true, Some, is_some}
use Rattle.std.specs.List.{All}
use Rattle.nsi_primitive.specs.Messages.{connection_of, has_rows, is_query}
use Rattle.nsi_primitive.specs.Printable.{IsPrintableBody, IsShort}
use Rattle.nsi_primitive.specs.declared.message.Body.{Body}
use Rattle.nsi_primitive.specs.declared.message.Message.{Message}
use Rattle.connection_record.specs.declared.record.Record.{Record}
use Rattle.connection_record.specs.Refusal.{record_for}
use Rattle.nsi_query.specs.Answers.{answer_about, answer_to, summary_answer}
use Rattle.nsi_query.specs.Summary.{Shown, summary}

-- the queries are answered, and nothing else is
abbrev pub QueriesAreAnswered : Type 0
QueriesAreAnswered = (agent : List ℕ) (x : Shown) (query : Body) → is_some (answer_about agent x query) ≡ is_query query

-- an answer is one of the four that have rows
abbrev pub AnswersHaveRows : Type 0
AnswersHaveRows = (agent : List ℕ) (x : Shown) (query body : Body) → answer_about agent x query ≡ Some body → has_rows body ≡ true

-- the texts of a connection can be written
abbrev pub HasShortTexts : Shown → Type 0
HasShortTexts x = IsShort 256 x.0.service.description × IsShort 128 x.0.service.global

-- where the texts of a connection can be written, so can what is answered about it
abbrev pub AnswersArePrintable : Type 0
AnswersArePrintable =
    (agent : List ℕ) (x : Shown) (query body : Body) → HasShortTexts x → answer_about agent x query ≡ Some body → IsPrintableBody body

-- and what is answered about all of an owner's
abbrev pub SummariesArePrintable : Type 0
SummariesArePrintable = (owner : List ℕ) (all : List Shown) → All HasShortTexts all → IsPrintableBody (summary_answer (summary owner all))

abbrev pub HasShortService : Record → Type 0
HasShortService r = IsShort 256 r.service.description × IsShort 128 r.service.global

-- a query about a connection of its requester is answered
abbrev pub ProvidersAnswer : Type 0
ProvidersAnswer =
    (agent : List ℕ) (now : ℕ) (records : List Record) (m : Message) (id : ℕ) (r : Record) → is_query m.body ≡ true → connection_of m.body ≡ Some id →
    record_for id m.header.requester records ≡ Some r → is_some (answer_to agent now records m) ≡ true

-- what a provider answers is one of the four that have rows
abbrev pub ProvidersTellRows : Type 0
ProvidersTellRows = (agent : List ℕ) (now : ℕ) (records : List Record) (m : Message) (body : Body) → answer_to agent now records m ≡ Some body → has_rows body ≡ true

-- and can be written where the texts of its connections can
abbrev pub ProvidersArePrintable : Type 0
ProvidersArePrintable =
    (agent : List ℕ) (now : ℕ) (records : List Record) (m : Message) (body : Body) → All HasShortService records → answer_to agent now records m ≡ Some body → IsPrintableBody body

-- What an aggregator tells to a query: rows that can be written.
use Rattle.std.proofs.Common.{◌≡◌, ◌<◌, ℕ, zero, suc, List, [], ◌∷◌, map, length, get_or, true, false, Option, Some, None, refl, sym, ap, subst, option_and_then, arith}
use Rattle.std.specs.List.{All, zip}
use Rattle.std.proofs.lemmas.List.Elements.{All-nil, All-cons, All-head, All-tail}
use Rattle.nsi_primitive.specs.Messages.{connection_of, has_rows, is_request}
use Rattle.nsi_primitive.specs.Printable.{IsPrintableBody}
use Rattle.nsi_primitive.specs.declared.message.Body.{Body}
use Rattle.nsi_primitive.specs.declared.message.Message.{Message}
use Rattle.nsi_primitive.specs.declared.plane.Plane.{Plane}
use Rattle.connection_record.specs.declared.record.Record.{Record}
use Rattle.connection_record.specs.Refusal.{place_of}
use Rattle.nsi_query.specs.Answers.{answer_about, summary_answer}
use Rattle.nsi_query.specs.Laws.{HasShortTexts}
use Rattle.nsi_query.specs.Summary.{Shown, summary}
use Rattle.nsi_query.proofs.Answering.{answers_are_printable, answers_have_rows, summaries_are_printable}
use Rattle.agent_state.specs.Entries.{query_reply}
use Rattle.agent_state.proofs.Querying.{replied_by, rows_ask_nothing}
use Rattle.agent_state.specs.State.{AgentState, children_at, no_record, record_at}
use Rattle.aggregator_agent.specs.declared.connection.Connection.{Connection}
use Rattle.aggregator_agent.specs.Bonds.{Bond, bond, bonds, bond_at, children_of, records_of, shown_of}
use Rattle.aggregator_agent.specs.Good.{IsWritable, IsGood}
use Rattle.aggregator_agent.specs.Queries.{all_shown, answer_by, answer_to, shown_at}
use Rattle.aggregator_agent.specs.Turns.{joined_of}

none_writable : IsWritable no_record
none_writable = record { description = tt; global = tt }

pub writable_at : (n : ℕ) (rs : List Record) → All IsWritable rs → IsWritable (record_at n rs)
writable_at n [] g = none_writable
writable_at zero (r ∷ rs) g = All-head IsWritable r rs g
writable_at (suc n) (r ∷ rs) g = writable_at n rs (All-tail IsWritable r rs g)

-- what holds of the answer about each connection, and of that about all, holds of the answer
told_by : (P : Body → Type 0) (agent : List ℕ) (s : AgentState) (m : Message) → ((n : ℕ) (body : Body) → answer_about agent (shown_at n s) m.body ≡ Some body → P body)
    → P (summary_answer (summary m.header.requester (all_shown s))) → (body : Body) → answer_to agent s m ≡ Some body → P body
told_by P agent s m one all body is = by (connection_of m.body) is
  where
    placed : (o : Option ℕ) → option_and_then (λ n. answer_about agent (shown_at n s) m.body) o ≡ Some body → P body
    placed None e = absurd cc
    placed (Some n) e = one n body e

    by : (o : Option ℕ) → answer_by o agent s m ≡ Some body → P body
    by None e = let same : summary_answer (summary m.header.requester (all_shown s)) ≡ body = cc in subst P same all
    by (Some id) e = placed (place_of id m.header.requester s.base.records) e

pub tells_rows : (agent : List ℕ) (s : AgentState) (m : Message) (body : Body) → answer_to agent s m ≡ Some body → has_rows body ≡ true
tells_rows agent s m body is = told_by (λ b. has_rows b ≡ true) agent s m (λ n b e. answers_have_rows agent (shown_at n s) m.body b e) refl body is

-- what is said to a query is no request
pub reply_asks_nothing : (agent : List ℕ) (s : AgentState) (m : Message) → is_request (query_reply agent m (answer_to agent s m)).body ≡ false
reply_asks_nothing agent s m =
    replied_by (λ body. is_request body ≡ false) agent m (answer_to agent s m) (λ error plain. refl) (λ body e. rows_ask_nothing body (tells_rows agent s m body e))

short_pairs : (rs : List Record) (ps : List Plane) → All IsWritable rs → All HasShortTexts (zip rs ps)
short_pairs [] ps h = All-nil HasShortTexts
short_pairs (r ∷ rs) [] h = All-nil HasShortTexts
short_pairs (r ∷ rs) (p ∷ ps) h =
    let w : IsWritable r = All-head IsWritable r rs h in
    All-cons HasShortTexts (r, p) (zip rs ps) (w.description, w.global) (short_pairs rs ps (All-tail IsWritable r rs h))

pub tells_printable : (agent : List ℕ) (s : AgentState) (m : Message) (body : Body) → IsGood s → answer_to agent s m ≡ Some body → IsPrintableBody body
tells_printable agent s m body g is =
    told_by IsPrintableBody agent s m
    (λ n b e. let w = writable_at n s.base.records g in answers_are_printable agent (shown_at n s) m.body b (w.description, w.global) e)
    (summaries_are_printable m.header.requester (all_shown s) (short_pairs s.base.records (map joined_of s.children) g)) body is

-- connections, each with the status over its children
pub shown_pairs : (bs : List Bond) → zip (records_of bs) (map joined_of (children_of bs)) ≡ map shown_of bs
shown_pairs [] = refl
shown_pairs (b ∷ bs) = ap (λ (xs : List Shown). shown_of b ∷ xs) (shown_pairs bs)

pub shown_there : (bs : List Bond) (n : ℕ) → n < length bs → (record_at n (records_of bs), joined_of (children_at n (children_of bs))) ≡ shown_of (bond_at n bs)
shown_there [] n l = absurd (omega (arith, l))
shown_there (b ∷ bs) zero l = refl
shown_there (b ∷ bs) (suc n) l = shown_there bs n (omega (arith, l))

pub bond_there : (xs : List Connection) (n : ℕ) (x : Connection) → n < length (bonds xs) → x ≡ get_or xs n x → bond_at n (bonds xs) ≡ bond x
bond_there [] n x l e = absurd (omega (arith, l))
bond_there (y ∷ ys) zero x l e = sym (ap bond e)
bond_there (y ∷ ys) (suc n) x l e = bond_there ys n x (omega (arith, l)) e

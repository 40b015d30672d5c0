-- Each request that an agent causes has an id of its own, so that no two have one.
use Rattle.std.proofs.Common.{◌≡◌, ◌≢◌, ◌≤◌, ◌<◌, ◌+◌, inl, inr, ◌∙◌, ℕ, Bool, true, false, List, [], ◌∷◌, refl, sym, subst, arith}
use Rattle.std.specs.List.{All}
use Rattle.std.proofs.lemmas.List.Elements.{All-nil, All-cons, All-head, All-tail}
use Rattle.nsi_primitive.specs.Ids.{id_of}
use Rattle.nsi_primitive.specs.Messages.{is_request}
use Rattle.nsi_primitive.specs.Printable.{IsPrintableEntry, IsPrintableInput}
use Rattle.nsi_primitive.specs.declared.entry.Entry.{Entry}
use Rattle.nsi_primitive.specs.declared.message.Message.{Message}
use Rattle.agent_state.specs.State.{Stepped, AgentState, AgentStepped, blank_agent}
use Rattle.provider_agent.proofs.Counting.{taken_is as provider_takes}
use Rattle.aggregator_agent.specs.Laws.{AreDrawn, RequestsHaveIds as AggregatorDraws}
use Rattle.aggregator_agent.proofs.Mild.{drawn_then, drawn_none}
use Rattle.requester_agent.proofs.Entries.{after_is as requester_takes}
use Rattle.nsi_agent.specs.Homes.{Role, provides, aggregates, requests, Home}
use Rattle.nsi_agent.specs.Steps.{after, after_as, may_take_as, with_base}
use Rattle.nsi_agent.specs.Told.{goes_on, told}
use Rattle.nsi_agent.specs.Said.{drawer_of}
use Rattle.nsi_agent.specs.Laws.{IsGood, EntriesKeepGood, BlankIsGood, RequestsHaveIds, AreApart, RequestsAreDrawnOnce}
use Rattle.nsi_agent.proofs.ProviderSays.{AsksNothing, step_answers}
use Rattle.nsi_agent.proofs.ProviderKeeps.{provider_rises}
use Rattle.nsi_agent.proofs.RequesterSays.{AreLaws, step_drawn}
use Rattle.nsi_agent.proofs.Staying.{left_out_by}

-- what is no request draws nothing
answers_drawn : (number next last : ℕ) (ms : List Message) → next ≤ last → All (λ m. AsksNothing m.body) ms → AreDrawn number next ms last
unfolding AreDrawn
answers_drawn number next last [] l all = l
answers_drawn number next last (m ∷ ms) l all = inl (All-head (λ m. AsksNothing m.body) m ms all, answers_drawn number next last ms l (All-tail (λ m. AsksNothing m.body) m ms all))

---- Apart

other_id : (number k n : ℕ) → k ≢ n → id_of number k ≢ id_of number n
other_id number k n d e = d (omega (arith, e))

above : (number n low : ℕ) (ms : List Message) (last : ℕ) → n < low → AreDrawn number low ms last → All (λ (x : Message). is_request x.body ≡ true → x.header.correlation ≢ id_of number n) ms
unfolding AreDrawn
above number n low [] last l d = All-nil (λ (x : Message). is_request x.body ≡ true → x.header.correlation ≢ id_of number n)
above number n low (m ∷ ms) last l (inl d) =
    All-cons (λ (x : Message). is_request x.body ≡ true → x.header.correlation ≢ id_of number n) m ms (λ asks. absurd (let no = d.0 in cc)) (above number n low ms last l d.1)
above number n low (m ∷ ms) last l (inr d) =
    let k = d.0 in
    let up = d.1 in
    All-cons (λ (x : Message). is_request x.body ≡ true → x.header.correlation ≢ id_of number n) m ms
    (λ asks e. other_id number k n (λ same. absurd (omega (arith, same, up, l))) (sym d.2 ∙ e)) (above number n (k + 1) ms last (omega (arith, up, l)) d.3)

drawn_apart : (number low : ℕ) (ms : List Message) (last : ℕ) → AreDrawn number low ms last → AreApart ms
unfolding AreDrawn AreApart
drawn_apart number low [] last d = tt
drawn_apart number low (m ∷ ms) last (inl d) = ((λ asks. absurd (let no = d.0 in cc)), drawn_apart number low ms last d.1)
drawn_apart number low (m ∷ ms) last (inr d) =
    ((λ asks. subst (λ (c : ℕ). All (λ (x : Message). is_request x.body ≡ true → x.header.correlation ≢ c) ms) (sym d.2) (above number d.0 (d.0 + 1) ms last (omega arith) d.3)), drawn_apart number (d.0 + 1) ms last d.3)

---- One entry

-- the laws of the agents that it rests on
pub record AreLawsOfIds : Type 0 where
  pub views : AreLaws
  pub ids : AggregatorDraws
  pub blank : BlankIsGood
  pub good : EntriesKeepGood

abbrev Draws : Role → AgentState → AgentStepped → Type 0
Draws role s x = AreDrawn (drawer_of role) s.base.next x.out x.state.base.next

entry_drawn : AreLawsOfIds → (role : Role) (s : AgentState) (e : Entry) → IsPrintableInput e.input → IsGood role s → Draws role s (after_as role s e)
unfolding after_as
entry_drawn laws (aggregates setting) s e p good = laws.ids setting s e p good
entry_drawn laws (provides setting stp_of) s e p good = by (may_take_as (provides setting stp_of) s e) refl
  where
    by : (b : Bool) → may_take_as (provides setting stp_of) s e ≡ b → Draws (provides setting stp_of) s (after_as (provides setting stp_of) s e)
    by true may =
        subst (λ (y : Stepped). Draws (provides setting stp_of) s (with_base s y)) (sym (provider_takes setting stp_of s.base e may))
        (answers_drawn setting.number s.base.next _ _ (provider_rises e.input e.second setting stp_of s.base) (step_answers e.input e.second setting stp_of s.base))
    by false may = subst (λ (y : AgentStepped). Draws (provides setting stp_of) s y) (sym (left_out_by (provides setting stp_of) s e may)) (drawn_none setting.number s.base.next s.base.next (omega arith))
entry_drawn laws (requests setting) s e p good = by (may_take_as (requests setting) s e) refl
  where
    by : (b : Bool) → may_take_as (requests setting) s e ≡ b → Draws (requests setting) s (after_as (requests setting) s e)
    by true may = subst (λ (y : AgentStepped). Draws (requests setting) s y) (sym (requester_takes setting s e may)) (step_drawn laws.views setting s e.input e.second)
    by false may = subst (λ (y : AgentStepped). Draws (requests setting) s y) (sym (left_out_by (requests setting) s e may)) (drawn_none setting.number s.base.next s.base.next (omega arith))

pub requests_have_ids : AreLawsOfIds → RequestsHaveIds
requests_have_ids laws h s e p good = entry_drawn laws h.role s e p good

---- Entries one after another

drawn_from : AreLawsOfIds → (h : Home) (es : List Entry) (s : AgentState) → All IsPrintableEntry es → IsGood h.role s → AreDrawn (drawer_of h.role) s.base.next (goes_on h s es).out (goes_on h s es).state.base.next
unfolding goes_on
drawn_from laws h [] s all good = drawn_none (drawer_of h.role) s.base.next s.base.next (omega arith)
drawn_from laws h (e ∷ es) s all good =
    let x = after h s e in
    let rest = goes_on h x.state es in
    let p = All-head IsPrintableEntry e es all in
    drawn_then (drawer_of h.role) s.base.next x.out x.state.base.next rest.out rest.state.base.next (requests_have_ids laws h s e p good)
    (drawn_from laws h es x.state (All-tail IsPrintableEntry e es all) (laws.good h s e p good))

pub requests_are_drawn_once : AreLawsOfIds → RequestsAreDrawnOnce
requests_are_drawn_once laws h es all = drawn_apart (drawer_of h.role) 1 (told h es).out (told h es).state.base.next (drawn_from laws h es blank_agent all (laws.blank h))

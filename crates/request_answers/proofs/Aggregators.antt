-- Each request that an aggregator has taken is answered, or an answer of a child is missing.
use Rattle.std.proofs.Common.{◌≡◌, ◌⊎◌, inl, inr, ◌∙◌, Bool, true, false, not, List, [], ◌∷◌, refl, sym, ap, subst}
use Rattle.std.proofs.lemmas.Option.{none-some}
use Rattle.nsi_primitive.specs.Messages.{kind_of, is_request}
use Rattle.nsi_primitive.specs.declared.entry.Entry.{Entry}
use Rattle.nsi_primitive.specs.declared.entry.Input.{Input}
use Rattle.nsi_primitive.specs.declared.message.Message.{Message}
use Rattle.agent_state.specs.State.{AgentState, AgentStepped, blank_agent}
use Rattle.agent_speech.proofs.Every.{blank_is_even, entries_keep_even}
use Rattle.agent_speech.specs.Laws.{IsEven}
use Rattle.aggregator_agent.specs.Setting.{Setting}
use Rattle.aggregator_agent.specs.Steps.{is_seen as aggregator_saw, step, may_take, after_if, after as aggregator_after}
use Rattle.aggregator_agent.proofs.Entries.{after_is}
use Rattle.nsi_agent.specs.Homes.{Role, aggregates, Home}
use Rattle.nsi_agent.specs.Steps.{after, after_as, may_take_as, is_seen, is_new}
use Rattle.nsi_agent.specs.Told.{goes_on, told}
use Rattle.request_answers.specs.Answers.{IsAnswered}
use Rattle.request_answers.specs.Open.{IsWorkedOn}
use Rattle.request_answers.specs.Waiting.{WaitsForChild, WaitsForPart}
use Rattle.request_answers.specs.Laws.{AggregatorsAnswerOrWait}
use Rattle.request_answers.proofs.Aggregating.{IsOpenIn, aggregator_goes, aggregator_serves}
use Rattle.request_answers.proofs.Entries.{IsKept, taken_kept}
use Rattle.request_answers.proofs.Resting.{IsSettled, entry_settled, open_misses}

---- Entries

entry_goes : (setting : Setting) (m : Message) (s : AgentState) (e : Entry) → IsOpenIn setting m s → IsKept (IsOpenIn setting m) m (aggregator_after setting s e).state (aggregator_after setting s e).out
unfolding aggregator_after
entry_goes setting m s e w = by (may_take s e)
  where
    by : (b : Bool) → IsKept (IsOpenIn setting m) m (after_if b setting s e).state (after_if b setting s e).out
    by true = aggregator_goes e.input e.second setting s m w
    by false = inr w

entry_serves : (setting : Setting) (m : Message) (s : AgentState) (e : Entry) → e.input ≡ Input.Got m → is_request m.body ≡ true → may_take s e ≡ true → aggregator_saw s m ≡ false →
    IsKept (IsOpenIn setting m) m (aggregator_after setting s e).state (aggregator_after setting s e).out
entry_serves setting m s e got asks may new =
    subst (λ (x : AgentStepped). IsKept (IsOpenIn setting m) m x.state x.out) (sym (after_is setting s e may))
    (subst (λ (i : Input). IsKept (IsOpenIn setting m) m (step i e.second setting s).state (step i e.second setting s).out) (sym got) (aggregator_serves m e.second setting s asks new))

role_goes : (setting : Setting) (m : Message) (role : Role) → role ≡ aggregates setting → (s : AgentState) (e : Entry) → IsOpenIn setting m s → IsKept (IsOpenIn setting m) m (after_as role s e).state (after_as role s e).out
unfolding after_as
role_goes setting m role is s e w = subst (λ (r : Role). IsKept (IsOpenIn setting m) m (after_as r s e).state (after_as r s e).out) (sym is) (entry_goes setting m s e w)

unseen : (b : Bool) → not b ≡ true → b ≡ false
unseen true h = absurd (cc)
unseen false h = refl

role_serves : (setting : Setting) (m : Message) (role : Role) → role ≡ aggregates setting → (s : AgentState) (e : Entry) → e.input ≡ Input.Got m → is_request m.body ≡ true → may_take_as role s e ≡ true → not (is_seen role s m) ≡ true →
    IsKept (IsOpenIn setting m) m (after_as role s e).state (after_as role s e).out
unfolding after_as
role_serves setting m role is s e got asks may new =
    subst (λ (r : Role). IsKept (IsOpenIn setting m) m (after_as r s e).state (after_as r s e).out) (sym is)
    (entry_serves setting m s e got asks (sym (ap (λ (r : Role). may_take_as r s e) is) ∙ may) (unseen (aggregator_saw s m) (sym (ap (λ (r : Role). not (is_seen r s m)) is) ∙ new)))

---- What is missing

-- each connection is settled behind any entries
role_settled : (setting : Setting) (role : Role) → role ≡ aggregates setting → (s : AgentState) (e : Entry) → IsEven role s → IsSettled s → IsSettled (after_as role s e).state
unfolding after_as
role_settled setting role is s e even h =
    subst (λ (r : Role). IsSettled (after_as r s e).state) (sym is) (entry_settled setting s e (subst (λ (r : Role). IsEven r s) is even) h)

all_settled : (h : Home) (setting : Setting) → h.role ≡ aggregates setting → (es : List Entry) (s : AgentState) → IsEven h.role s → IsSettled s → IsSettled (goes_on h s es).state
unfolding goes_on
all_settled h setting is [] s even settled = settled
all_settled h setting is (e ∷ es) s even settled = all_settled h setting is es (after h s e).state (entries_keep_even h s e even) (role_settled setting h.role is s e even settled)

told_settled : (h : Home) (setting : Setting) → h.role ≡ aggregates setting → (es : List Entry) → IsSettled (told h es).state
told_settled h setting is es = all_settled h setting is es blank_agent (blank_is_even h) (λ n own at. absurd (none-some own at))

missing : (setting : Setting) (s : AgentState) (m : Message) → IsSettled s → IsWorkedOn setting.agent.name s.base.records m → WaitsForChild setting.agent.name s m
missing setting s m settled w =
    let found = open_misses (kind_of m.body) m.header.correlation w.own _ (settled w.place w.own w.there) w.opens in
    record { work = w; child = found.0; below = found.1; missing = found.2 }

pub aggregators_answer_or_wait : AggregatorsAnswerOrWait
unfolding is_new
aggregators_answer_or_wait h setting es m is t =
    by (taken_kept h m (IsOpenIn setting m) (λ s e w. role_goes setting m h.role is s e w) (λ s e k. role_serves setting m h.role is s e k.got k.asks k.may k.new) es t)
  where
    by : IsAnswered m (told h es).out ⊎ IsOpenIn setting m (told h es).state → IsAnswered m (told h es).out ⊎ WaitsForChild setting.agent.name (told h es).state m ⊎ WaitsForPart (told h es).state.queries m
    by (inl a) = inl a
    by (inr (inl w)) = inr (inl (missing setting (told h es).state m (told_settled h setting is es) w))
    by (inr (inr w)) = inr (inr w)

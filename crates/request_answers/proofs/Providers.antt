-- Each request that a provider has taken is answered, or worked on; and where no work waits it is answered.
use Rattle.std.proofs.Common.{ℕ, ◌≡◌, ◌≤◌, ◌⊎◌, inl, inr, ◌∙◌, Bool, true, false, not, ◌&&◌, List, Option, refl, sym, ap, subst, arith}
use Rattle.nsi_primitive.specs.Messages.{kind_of, is_request}
use Rattle.nsi_primitive.specs.declared.entry.Entry.{Entry}
use Rattle.nsi_primitive.specs.declared.entry.Input.{Input}
use Rattle.nsi_primitive.specs.declared.kind.Kind.{Kind}
use Rattle.nsi_primitive.specs.declared.message.Message.{Message}
use Rattle.message_retry.specs.Taken.{is_taken}
use Rattle.connection_record.specs.declared.record.Record.{Record}
use Rattle.connection_record.specs.Applied.{has_work, first_machine, waits, is_provisioning, is_terminating}
use Rattle.connection_record.specs.Moves.{is_live, is_working}
use Rattle.agent_state.specs.State.{State, Stepped, AgentState}
use Rattle.provider_agent.specs.Working.{works_in, works_among}
use Rattle.provider_agent.specs.Setting.{Setting}
use Rattle.provider_agent.specs.Steps.{step, may_take, after_if, after as provider_after}
use Rattle.provider_agent.proofs.Counting.{taken_is}
use Rattle.provider_agent.proofs.RecordPlaces.{sum_beside}
use Rattle.provider_agent.proofs.WaitingWork.{busy_works}
use Rattle.nsi_agent.specs.Homes.{Role, provides}
use Rattle.nsi_agent.specs.Steps.{after_as, may_take_as, is_seen, is_new, works_left}
use Rattle.nsi_agent.specs.Told.{told}
use Rattle.nsi_agent.proofs.Works.{none_is_left}
use Rattle.request_answers.specs.Answers.{IsAnswered}
use Rattle.request_answers.specs.Open.{works_on, is_open, IsWorkedOn}
use Rattle.request_answers.specs.Laws.{ProvidersAnswerOrWork, IdleProvidersHaveAnswered}
use Rattle.request_answers.proofs.Entries.{IsKept, taken_kept}
use Rattle.request_answers.proofs.Providing.{provider_goes, provider_serves}
use Rattle.request_answers.proofs.Serving.{IsServed}

---- Entries

-- one of its records works on it
abbrev Works : Setting → Message → AgentState → Type 0
Works setting m s = IsWorkedOn setting.name s.base.records m

entry_goes : (setting : Setting) (stp_of : List ℕ → Option ℕ) (m : Message) (s : State) (e : Entry) → IsWorkedOn setting.name s.records m → IsServed setting.name (provider_after setting stp_of s e).state.records (provider_after setting stp_of s e).out m
unfolding provider_after
entry_goes setting stp_of m s e w = by (may_take s e)
  where
    by : (b : Bool) → IsServed setting.name (after_if b setting stp_of s e).state.records (after_if b setting stp_of s e).out m
    by true = provider_goes e.input e.second setting stp_of s m w
    by false = inr w

entry_serves : (setting : Setting) (stp_of : List ℕ → Option ℕ) (m : Message) (s : State) (e : Entry) → e.input ≡ Input.Got m → is_request m.body ≡ true → may_take s e ≡ true → is_taken m.header s.seen ≡ false →
    IsServed setting.name (provider_after setting stp_of s e).state.records (provider_after setting stp_of s e).out m
entry_serves setting stp_of m s e got asks may new =
    subst (λ (x : Stepped). IsServed setting.name x.state.records x.out m) (sym (taken_is setting stp_of s e may))
    (subst (λ (i : Input). IsServed setting.name (step i e.second setting stp_of s).state.records (step i e.second setting stp_of s).out m) (sym got) (provider_serves m e.second setting stp_of s asks new))

-- of an agent that is a provider
role_goes : (setting : Setting) (stp_of : List ℕ → Option ℕ) (m : Message) (role : Role) → role ≡ provides setting stp_of → (s : AgentState) (e : Entry) → Works setting m s → IsKept (Works setting m) m (after_as role s e).state (after_as role s e).out
unfolding after_as
role_goes setting stp_of m role is s e w =
    subst (λ (r : Role). IsKept (Works setting m) m (after_as r s e).state (after_as r s e).out) (sym is) (entry_goes setting stp_of m s.base e w)

unseen : (asks seen : Bool) → asks ≡ true → not (asks && seen) ≡ true → seen ≡ false
unseen true true a h = absurd (cc)
unseen true false a h = refl
unseen false seen a h = absurd (cc)

role_serves : (setting : Setting) (stp_of : List ℕ → Option ℕ) (m : Message) (role : Role) → role ≡ provides setting stp_of → (s : AgentState) (e : Entry) → e.input ≡ Input.Got m → is_request m.body ≡ true →
    may_take_as role s e ≡ true → not (is_seen role s m) ≡ true → IsKept (Works setting m) m (after_as role s e).state (after_as role s e).out
unfolding after_as
role_serves setting stp_of m role is s e got asks may new =
    subst (λ (r : Role). IsKept (Works setting m) m (after_as r s e).state (after_as r s e).out) (sym is)
    (entry_serves setting stp_of m s.base e got asks (sym (ap (λ (r : Role). may_take_as r s e) is) ∙ may)
    (unseen (is_request m.body) (is_taken m.header s.base.seen) asks (sym (ap (λ (r : Role). not (is_seen r s m)) is) ∙ new)))

pub providers_answer_or_work : ProvidersAnswerOrWork
unfolding is_new
providers_answer_or_work h setting stp_of es m is t =
    taken_kept h m (Works setting m) (λ s e w. role_goes setting stp_of m h.role is s e w) (λ s e k. role_serves setting stp_of m h.role is s e k.got k.asks k.may k.new) es t

---- Where no work waits

-- a record that works on a request has work to do
open_has_work : (k : Kind) (c : ℕ) (r : Record) → is_open k c r ≡ true → has_work r ≡ true
unfolding works_on first_machine waits is_live is_working is_provisioning is_terminating
open_has_work k c r h = grind (arith, h)

idle_open : (records : List Record) (name : List ℕ) (m : Message) → works_among records ≡ 0 → IsWorkedOn name records m → ⊥
idle_open records name m none w =
    let busy : 1 ≤ works_in w.own = busy_works w.own (open_has_work (kind_of m.body) m.header.correlation w.own w.opens) in
    absurd (omega (arith, none, busy, sum_beside works_in records w.place w.own w.there))

pub idle_providers_have_answered : IdleProvidersHaveAnswered
idle_providers_have_answered h setting stp_of es m is t idle = by (providers_answer_or_work h setting stp_of es m is t)
  where
    by : IsAnswered m (told h es).out ⊎ IsWorkedOn setting.name (told h es).state.base.records m → IsAnswered m (told h es).out
    by (inl a) = a
    by (inr w) = absurd (idle_open (told h es).state.base.records setting.name m (sym (ap (λ (r : Role). works_left r (told h es).state) is) ∙ (none_is_left h (told h es).state).0 idle) w)

-- One entry at an agent of any kind, and entries one after another.
use Rattle.std.proofs.Common.{ℕ, ◌≡◌, ◌⊎◌, inl, inr, ◌∙◌, Bool, true, false, List, [], ◌∷◌, ◌++◌, append_assoc, append-nil, refl, sym, ap, subst, arith}
use Rattle.std.specs.List.{All, Contains}
use Rattle.std.proofs.lemmas.List.Elements.{All-head, All-tail, Contains-get_or, Contains-append_left, Contains-append_right}
use Rattle.nsi_primitive.specs.Messages.{identity}
use Rattle.nsi_primitive.specs.declared.entry.Entry.{Entry}
use Rattle.nsi_primitive.specs.declared.entry.Input.{Input}
use Rattle.nsi_primitive.specs.declared.message.Message.{Message}
use Rattle.message_retry.specs.Retry.{with_heard, saw}
use Rattle.connection_record.specs.Speaking.{tally, is_asking}
use Rattle.connection_record.proofs.Saying.{tally_append}
use Rattle.agent_state.specs.Entries.{retry_of}
use Rattle.agent_state.specs.State.{State, Stepped, AgentState, AgentStepped, blank_agent, stays}
use Rattle.provider_agent.specs.Steps.{step as provider_step}
use Rattle.provider_agent.proofs.Counting.{taken_is as provider_takes}
use Rattle.aggregator_agent.specs.Steps.{step as aggregator_step}
use Rattle.aggregator_agent.proofs.Entries.{after_is as aggregator_takes}
use Rattle.requester_agent.specs.Steps.{step as requester_step}
use Rattle.requester_agent.proofs.Entries.{after_is as requester_takes}
use Rattle.nsi_agent.specs.Homes.{Role, provides, aggregates, requests, Home}
use Rattle.nsi_agent.specs.Steps.{after, after_as, may_take_as, with_base}
use Rattle.nsi_agent.specs.Told.{goes_on}
use Rattle.nsi_agent.specs.Said.{name_in, drawer_of}
use Rattle.nsi_agent.proofs.ProviderKeeps.{HasSeen, provider_saw}
use Rattle.nsi_agent.proofs.AggregatorKeeps.{aggregator_saw}
use Rattle.nsi_agent.proofs.RequesterKeeps.{requester_saw}
use Rattle.nsi_agent.proofs.ProviderSays.{AsksNothing, step_answers}
use Rattle.nsi_agent.proofs.Staying.{left_out_by}
use Rattle.agent_speech.specs.Owing.{SaysWhatItOwes, HasSaidOnce}
use Rattle.agent_speech.specs.Unanswered.{reserves_at, answers_at, held, unfit, was_answered, HeardBy, HoldsWhatItAsks, AnswerCame, HasHeld}
use Rattle.agent_speech.specs.Laws.{EntriesSayWhatIsOwed, NothingIsSaidTwice, IsEven, BlankIsEven, EntriesKeepEven, EntriesHoldWhatIsAsked, WhatIsAskedIsHeld}
use Rattle.agent_speech.proofs.Once.{said_then, blank_said, records_say, says_none}
use Rattle.agent_speech.proofs.Answering.{answered_earlier, answered_now}
use Rattle.agent_speech.proofs.Noting.{saw_heard}
use Rattle.agent_speech.proofs.Holding.{IsHolding, holds_still, holds_same, nothing_asked, answer_reserves, with_heard_by}
use Rattle.agent_speech.proofs.Providing.{provider_says}
use Rattle.agent_speech.proofs.Requesting.{requester_step as requester_does}
use Rattle.agent_speech.proofs.Aggregating.{aggregator_step as aggregator_does}

-- an entry at an agent with a role
pub record IsStep (role : Role) (s : AgentState) (input : Input) (x : AgentStepped) : Type 0 where
  pub says : SaysWhatItOwes (name_in role) (drawer_of role) s x.state x.out
  pub holds : IsEven role s → IsHolding s x.state x.out
  pub even : IsEven role s → IsEven role x.state
  pub heard : HeardBy s.base.heard input x.state.base.heard

by_seen : (input : Input) (s t : State) → HasSeen input s t → HeardBy s.heard input t.heard
by_seen input s t (inl same) = inl same.heard
by_seen (Input.Got m) s t (inr noted) = by (saw_heard m (retry_of s))
  where
    by : ((saw m (retry_of s)).heard ≡ s.heard) ⊎ ((saw m (retry_of s)).heard ≡ with_heard (identity m) s.heard) → HeardBy s.heard (Input.Got m) t.heard
    by (inl e) = inl (noted.heard ∙ e)
    by (inr e) = inr (m, refl, noted.heard ∙ e)
by_seen (Input.Work n machine) s t (inr noted) = absurd noted
by_seen (Input.Force n) s t (inr noted) = absurd noted
by_seen (Input.Acked i) s t (inr noted) = absurd noted
by_seen Input.Tick s t (inr noted) = absurd noted
by_seen (Input.Ask n a) s t (inr noted) = absurd noted

none_reserved : (p : List ℕ) (c : ℕ) (ms : List Message) → All (λ (m : Message). AsksNothing m.body) ms → tally (reserves_at p c) ms ≡ 0
unfolding is_asking
none_reserved p c [] all = nothing_asked p c
none_reserved p c (m ∷ ms) all =
    answer_reserves p c m ms (All-head (λ (m : Message). AsksNothing m.body) m ms all) ∙ none_reserved p c ms (All-tail (λ (m : Message). AsksNothing m.body) m ms all)

taken_step : (role : Role) (s : AgentState) (e : Entry) → may_take_as role s e ≡ true → IsStep role s e.input (after_as role s e)
unfolding after_as held unfit
taken_step (provides setting stp_of) s e may =
    let x : Stepped = provider_step e.input e.second setting stp_of s.base in
    let a = provider_says e.input e.second setting stp_of s.base in
    let says : SaysWhatItOwes setting.name setting.number s (with_base s x).state x.out = records_say setting.name setting.number s (with_base s x).state x.out refl a in
    subst (λ (y : Stepped). IsStep (provides setting stp_of) s e.input (with_base s y)) (sym (provider_takes setting stp_of s.base e may))
    (record {
      says = record { answers = says.answers; drawn = says.drawn; own = says.own };
      holds = λ v. holds_still s _ x.out refl refl (λ p c. none_reserved p c x.out (step_answers e.input e.second setting stp_of s.base));
      even = λ v. tt;
      heard = by_seen e.input s.base x.state (provider_saw e.input e.second setting stp_of s.base);
    })
taken_step (aggregates setting) s e may =
    let x : AgentStepped = aggregator_step e.input e.second setting s in
    let a = aggregator_does e.input e.second setting s in
    subst (λ (y : AgentStepped). IsStep (aggregates setting) s e.input y) (sym (aggregator_takes setting s e may))
    (record {
      says = record { answers = a.says.answers; drawn = a.says.drawn; own = a.says.own };
      holds = λ v. let h : IsHolding s x.state x.out = a.holds v in record { fit = h.fit; holds_on = h.holds_on; few = h.few };
      even = a.even;
      heard = by_seen e.input s.base x.state.base (aggregator_saw e.input e.second setting s);
    })
taken_step (requests setting) s e may =
    let x : AgentStepped = requester_step e.input e.second setting s in
    let a = requester_does setting s e.input e.second in
    let says : SaysWhatItOwes setting.name setting.number s x.state x.out = records_say setting.name setting.number s x.state x.out a.queries a.says in
    subst (λ (y : AgentStepped). IsStep (requests setting) s e.input y) (sym (requester_takes setting s e may))
    (record {
      says = record { answers = says.answers; drawn = says.drawn; own = says.own };
      holds = λ v. let h : IsHolding s x.state x.out = a.holds in record { fit = h.fit; holds_on = h.holds_on; few = h.few };
      even = λ v. tt;
      heard = by_seen e.input s.base x.state.base (requester_saw e.input e.second setting s);
    })

left_step : (role : Role) (s : AgentState) (input : Input) → IsStep role s input (stays s)
left_step role s input = record { says = records_say (name_in role) (drawer_of role) s s [] refl (says_none (name_in role) (drawer_of role) s.base); holds = λ v. holds_same s; even = λ v. v; heard = inl refl }

pub every_step : (role : Role) (s : AgentState) (e : Entry) → IsStep role s e.input (after_as role s e)
every_step role s e = by (may_take_as role s e) refl
  where
    by : (b : Bool) → may_take_as role s e ≡ b → IsStep role s e.input (after_as role s e)
    by true may = taken_step role s e may
    by false may = subst (λ (y : AgentStepped). IsStep role s e.input y) (sym (left_out_by role s e may)) (left_step role s e.input)

---- What is said

pub entries_say_what_is_owed : EntriesSayWhatIsOwed
entries_say_what_is_owed h s e = (every_step h.role s e).says

said_from : (h : Home) (es : List Entry) (s : AgentState) (out : List Message) → HasSaidOnce (name_in h.role) (drawer_of h.role) s out →
    HasSaidOnce (name_in h.role) (drawer_of h.role) (goes_on h s es).state (out ++ (goes_on h s es).out)
unfolding goes_on
said_from h [] s out a = subst (HasSaidOnce (name_in h.role) (drawer_of h.role) s) (sym (append-nil out)) a
said_from h (e ∷ es) s out a =
    let x : AgentStepped = after h s e in
    subst (HasSaidOnce (name_in h.role) (drawer_of h.role) (goes_on h x.state es).state) (append_assoc out x.out (goes_on h x.state es).out)
    (said_from h es x.state (out ++ x.out) (said_then (name_in h.role) (drawer_of h.role) s x.state out x.out a (entries_say_what_is_owed h s e)))

pub nothing_is_said_twice : NothingIsSaidTwice
nothing_is_said_twice h es = said_from h es blank_agent [] (blank_said (name_in h.role) (drawer_of h.role))

---- What is held

pub blank_is_even : BlankIsEven
blank_is_even h = by h.role
  where
    by : (role : Role) → IsEven role blank_agent
    by (provides setting stp_of) = tt
    by (aggregates setting) = refl
    by (requests setting) = tt

pub entries_keep_even : EntriesKeepEven
entries_keep_even h s e v = (every_step h.role s e).even v

pub entries_hold_what_is_asked : EntriesHoldWhatIsAsked
entries_hold_what_is_asked h s e v = let a = every_step h.role s e in with_heard_by s (after h s e).state e.input (after h s e).out (a.holds v) a.heard

came_earlier : (p : List ℕ) (c : ℕ) (es fs : List Entry) → AnswerCame p c es → AnswerCame p c (es ++ fs)
came_earlier p c es fs a = record { second = a.second; message = a.message; there = Contains-append_left es fs _ a.there; answers = a.answers }

came_now : (p : List ℕ) (c : ℕ) (es : List Entry) (e : Entry) (m : Message) → e.input ≡ Input.Got m → answers_at p c m ≡ true → AnswerCame p c (es ++ e ∷ [])
came_now p c es e m i a =
    record {
      second = e.second;
      message = m;
      there = subst (λ (input : Input). Contains (es ++ e ∷ []) (record { second = e.second; input = input })) i (Contains-append_right es (e ∷ []) e (Contains-get_or (e ∷ []) 0 e (omega arith)));
      answers = a;
    }

held_then : (es : List Entry) (e : Entry) (s t : AgentState) (out more : List Message) → HasHeld es s out → HoldsWhatItAsks s t e.input more → HasHeld (es ++ e ∷ []) t (out ++ more)
held_then es e s t out more h a =
    record {
      fit = omega (arith, h.fit, a.fit);
      holds_on = λ p c n. omega (arith, tally_append (reserves_at p c) out more, a.holds_on p c n, h.holds_on p c (before_it p c a.hears n), h.fit);
      few = λ p c. omega (arith, tally_append (reserves_at p c) out more, a.few p c, h.few p c);
      came = λ p c k. came_by p c a.hears k;
    }
  where
    before_it : (p : List ℕ) (c : ℕ) → HeardBy s.base.heard e.input t.base.heard → was_answered p c t.base.heard ≡ false → was_answered p c s.base.heard ≡ false
    before_it p c (inl q) n = ap (was_answered p c) (sym q) ∙ n
    before_it p c (inr (m, i, q)) n = answered_earlier p c (identity m) s.base.heard (ap (was_answered p c) (sym q) ∙ n)

    came_by : (p : List ℕ) (c : ℕ) → HeardBy s.base.heard e.input t.base.heard → was_answered p c t.base.heard ≡ true → AnswerCame p c (es ++ e ∷ [])
    came_by p c (inl q) k = came_earlier p c es (e ∷ []) (h.came p c (ap (was_answered p c) (sym q) ∙ k))
    came_by p c (inr (m, i, q)) k = elim (answered_now p c m s.base.heard (ap (was_answered p c) (sym q) ∙ k)) [
      | inl new ↦ came_now p c es e m i new
      | inr old ↦ came_earlier p c es (e ∷ []) (h.came p c old)
    ]

held_from : (h : Home) (front es : List Entry) (s : AgentState) (out : List Message) → IsEven h.role s → HasHeld front s out → HasHeld (front ++ es) (goes_on h s es).state (out ++ (goes_on h s es).out)
unfolding goes_on
held_from h front [] s out v a =
    subst (λ (fs : List Entry). HasHeld fs s (out ++ [])) (sym (append-nil front)) (subst (HasHeld front s) (sym (append-nil out)) a)
held_from h front (e ∷ es) s out v a =
    let x : AgentStepped = after h s e in
    let last : AgentState = (goes_on h x.state es).state in
    let rest : HasHeld ((front ++ e ∷ []) ++ es) last ((out ++ x.out) ++ (goes_on h x.state es).out) =
    held_from h (front ++ e ∷ []) es x.state (out ++ x.out) (entries_keep_even h s e v) (held_then front e s x.state out x.out a (entries_hold_what_is_asked h s e v))
    in
    subst (λ (fs : List Entry). HasHeld fs last (out ++ (x.out ++ (goes_on h x.state es).out))) (append_assoc front (e ∷ []) es)
    (subst (HasHeld ((front ++ e ∷ []) ++ es) last) (append_assoc out x.out (goes_on h x.state es).out) rest)

blank_held : HasHeld [] blank_agent []
unfolding held unfit tally was_answered
blank_held = record { fit = refl; holds_on = λ p c n. omega arith; few = λ p c. omega arith; came = λ p c k. absurd (cc) }

pub what_is_asked_is_held : WhatIsAskedIsHeld
what_is_asked_is_held h es = held_from h [] es blank_agent [] (blank_is_even h) blank_held

-- What was seen was got.
use Rattle.std.proofs.Common.{◌≡◌, ◌⊎◌, inl, inr, ◌∙◌, Bool, true, false, not, List, [], ◌∷◌, refl, sym, ap, subst, arith}
use Rattle.std.proofs.lemmas.Bool.{and_parts}
use Rattle.std.proofs.lemmas.List.Elements.{Contains-get_or, Contains-append_right}
use Rattle.nsi_primitive.specs.Messages.{is_request}
use Rattle.nsi_primitive.specs.declared.entry.Entry.{Entry}
use Rattle.nsi_primitive.specs.declared.entry.Input.{Input}
use Rattle.nsi_primitive.specs.declared.message.Message.{Message}
use Rattle.message_retry.specs.Retry.{is_heard, saw}
use Rattle.message_retry.specs.Taken.{is_taken}
use Rattle.agent_state.specs.Entries.{retry_of}
use Rattle.agent_state.specs.State.{State, Stepped, AgentState, AgentStepped, blank_agent}
use Rattle.provider_agent.proofs.Counting.{taken_is as provider_takes}
use Rattle.aggregator_agent.proofs.Entries.{after_is as aggregator_takes}
use Rattle.requester_agent.proofs.Entries.{after_is as requester_takes}
use Rattle.nsi_agent.specs.Homes.{Role, provides, aggregates, requests, Home}
use Rattle.nsi_agent.specs.Steps.{after, after_as, may_take_as, is_seen, is_new}
use Rattle.nsi_agent.specs.Told.{goes_on, told, Gets, WasGot}
use Rattle.nsi_agent.specs.Laws.{SeenWasGot}
use Rattle.nsi_agent.proofs.ProviderKeeps.{HasSeen, provider_saw}
use Rattle.nsi_agent.proofs.AggregatorKeeps.{aggregator_saw}
use Rattle.nsi_agent.proofs.RequesterKeeps.{requester_saw}
use Rattle.nsi_agent.proofs.Staying.{left_out_by}
use Rattle.nsi_agent.proofs.Sameness.{old_if, old_is, old_saw}

---- One entry

-- what counts an entry, and lets messages wait, leaves what was seen
same_seen : (input : Input) (s t u : State) → u.seen ≡ t.seen → u.heard ≡ t.heard → HasSeen input s t → HasSeen input s u
same_seen input s t u e f (inl same) = inl (record { seen = e ∙ same.seen; heard = f ∙ same.heard })
same_seen (Input.Got n) s t u e f (inr noted) = inr (record { seen = e ∙ noted.seen; heard = f ∙ noted.heard })
same_seen (Input.Work n machine) s t u e f (inr noted) = absurd noted
same_seen (Input.Force n) s t u e f (inr noted) = absurd noted
same_seen (Input.Acked i) s t u e f (inr noted) = absurd noted
same_seen Input.Tick s t u e f (inr noted) = absurd noted
same_seen (Input.Ask n a) s t u e f (inr noted) = absurd noted

taken_saw : (role : Role) (s : AgentState) (e : Entry) → may_take_as role s e ≡ true → HasSeen e.input s.base (after_as role s e).state.base
unfolding after_as
taken_saw (provides setting stp_of) s e may =
    subst (λ (y : Stepped). HasSeen e.input s.base y.state) (sym (provider_takes setting stp_of s.base e may)) (same_seen e.input s.base _ _ refl refl (provider_saw e.input e.second setting stp_of s.base))
taken_saw (aggregates setting) s e may =
    subst (λ (y : AgentStepped). HasSeen e.input s.base y.state.base) (sym (aggregator_takes setting s e may)) (same_seen e.input s.base _ _ refl refl (aggregator_saw e.input e.second setting s))
taken_saw (requests setting) s e may =
    subst (λ (y : AgentStepped). HasSeen e.input s.base y.state.base) (sym (requester_takes setting s e may)) (same_seen e.input s.base _ _ refl refl (requester_saw e.input e.second setting s))

has_seen : (role : Role) (s : AgentState) (e : Entry) → HasSeen e.input s.base (after_as role s e).state.base
has_seen role s e = by (may_take_as role s e) refl
  where
    by : (b : Bool) → may_take_as role s e ≡ b → HasSeen e.input s.base (after_as role s e).state.base
    by true may = taken_saw role s e may
    by false may = subst (λ (y : AgentStepped). HasSeen e.input s.base y.state.base) (sym (left_out_by role s e may)) (inl (record { seen = refl; heard = refl }))

abbrev is_old_at : Message → State → Bool
is_old_at m s = old_if (is_request m.body) m s.seen s.heard

still_by : (input : Input) (s t : State) (m : Message) → HasSeen input s t → is_old_at m t ≡ true → (is_old_at m s ≡ true) ⊎ Gets m input
still_by input s t m (inl same) e =
    inl (ap (λ seen. old_if (is_request m.body) m seen s.heard) (sym same.seen) ∙ ap (λ heard. old_if (is_request m.body) m t.seen heard) (sym same.heard) ∙ e)
still_by (Input.Got n) s t m (inr noted) e =
    old_saw m n (retry_of s) (ap (λ seen. old_if (is_request m.body) m seen (saw n (retry_of s)).heard) (sym noted.seen) ∙ ap (λ heard. old_if (is_request m.body) m t.seen heard) (sym noted.heard) ∙ e)
still_by (Input.Work n machine) s t m (inr noted) e = absurd noted
still_by (Input.Force n) s t m (inr noted) e = absurd noted
still_by (Input.Acked i) s t m (inr noted) e = absurd noted
still_by Input.Tick s t m (inr noted) e = absurd noted
still_by (Input.Ask n a) s t m (inr noted) e = absurd noted

---- Entries one after another

got_later : (e : Entry) (es : List Entry) (m : Message) → WasGot m es → WasGot m (e ∷ es)
got_later e es m got = (got.0, Contains-append_right (e ∷ []) es got.0 got.1, got.2)

got_now : (e : Entry) (es : List Entry) (m : Message) → Gets m e.input → WasGot m (e ∷ es)
got_now e es m got = (e, Contains-get_or (e ∷ es) 0 e (omega arith), got)

seen_from : (h : Home) (m : Message) (es : List Entry) (s : AgentState) → is_old_at m (goes_on h s es).state.base ≡ true → (is_old_at m s.base ≡ true) ⊎ WasGot m es
unfolding goes_on
seen_from h m [] s old = inl old
seen_from h m (e ∷ es) s old = by (seen_from h m es (after h s e).state old)
  where
    by_first : (is_old_at m s.base ≡ true) ⊎ Gets m e.input → (is_old_at m s.base ≡ true) ⊎ WasGot m (e ∷ es)
    by_first (inl a) = inl a
    by_first (inr b) = inr (got_now e es m b)

    by : (is_old_at m (after h s e).state.base ≡ true) ⊎ WasGot m es → (is_old_at m s.base ≡ true) ⊎ WasGot m (e ∷ es)
    by (inl a) = by_first (still_by e.input s.base (after h s e).state.base m (has_seen h.role s e) a)
    by (inr b) = inr (got_later e es m b)

-- what a role has seen was taken before
seen_old : (role : Role) (s : AgentState) (m : Message) → is_seen role s m ≡ true → is_old_at m s.base ≡ true
seen_old (provides setting stp_of) s m e =
    let p = and_parts (is_request m.body) (is_taken m.header s.base.seen) e in
    ap (λ b. old_if b m s.base.seen s.base.heard) p.0 ∙ p.1
seen_old (aggregates setting) s m e = sym (old_is m (retry_of s.base)) ∙ e
seen_old (requests setting) s m e = sym (old_is m (retry_of s.base)) ∙ e

none_old : (asks : Bool) (m : Message) → old_if asks m [] [] ≡ true → ⊥
unfolding is_taken is_heard
none_old true m e = absurd (cc)
none_old false m e = absurd (cc)

pub seen_was_got : SeenWasGot
unfolding is_new
seen_was_got h es m old = by (seen_from h m es blank_agent (seen_old h.role (told h es).state m (is_not (is_seen h.role (told h es).state m) old)))
  where
    is_not : (b : Bool) → not b ≡ false → b ≡ true
    is_not true e = refl
    is_not false e = absurd (cc)

    by : (is_old_at m blank_agent.base ≡ true) ⊎ WasGot m es → WasGot m es
    by (inl a) = absurd (none_old (is_request m.body) m a)
    by (inr b) = b

-- A message that was got counts as taken from then on.
use Rattle.std.proofs.Common.{◌≡◌, ◌||◌, ◌&&◌, inl, inr, ◌∙◌, ℕ, Bool, true, false, not, cond, List, [], ◌∷◌, ◌++◌, Option, refl, sym, ap, subst, arith}
use Rattle.std.specs.List.{list_any}
use Rattle.std.proofs.lemmas.Bool.Decides.{Decides-eqb}
use Rattle.std.proofs.lemmas.Slice.Eq.{bytes_eq-Decides}
use Rattle.std.proofs.lemmas.List.Folds.{list_any-append}
use Rattle.nsi_primitive.specs.Kinds.{kind_number}
use Rattle.nsi_primitive.specs.Messages.{identity, is_request, is_query}
use Rattle.nsi_primitive.specs.declared.entry.Entry.{Entry}
use Rattle.nsi_primitive.specs.declared.entry.Input.{Input}
use Rattle.nsi_primitive.specs.declared.message.Header.{Header}
use Rattle.nsi_primitive.specs.declared.message.Identity.{Identity}
use Rattle.nsi_primitive.specs.declared.message.Message.{Message}
use Rattle.message_retry.specs.Retry.{Retry, is_same_identity, is_heard, with_heard, is_old, saw, saw_if}
use Rattle.message_retry.specs.Taken.{is_same_request, is_taken, with_taken}
use Rattle.agent_state.specs.Entries.{retry_of}
use Rattle.agent_state.specs.State.{State, Stepped, AgentState, AgentStepped}
use Rattle.provider_agent.specs.Setting.{Setting as ProviderSetting}
use Rattle.provider_agent.specs.Steps.{receives as provider_receives, step as provider_step}
use Rattle.provider_agent.proofs.Counting.{taken_is as provider_takes}
use Rattle.aggregator_agent.specs.Setting.{Setting as AggregatorSetting}
use Rattle.aggregator_agent.specs.Steps.{is_seen as aggregator_seen, receives as aggregator_receives, sees, hears, serves, step as aggregator_step, answers, request_at, asks_below}
use Rattle.aggregator_agent.proofs.Entries.{after_is as aggregator_takes}
use Rattle.requester_agent.specs.Steps.{hears_if, step as requester_step}
use Rattle.requester_agent.proofs.Entries.{after_is as requester_takes}
use Rattle.agent_speech.proofs.Measures.{itself}
use Rattle.nsi_agent.specs.Homes.{Role, provides, aggregates, requests, Home}
use Rattle.nsi_agent.specs.Steps.{after_as, may_take_as, is_new, is_seen}
use Rattle.nsi_agent.proofs.AggregatorKeeps.{aggregator_saw}
use Rattle.nsi_agent.proofs.ProviderKeeps.{HasSeen, IsSameSeen, provider_saw}
use Rattle.nsi_agent.proofs.RequesterKeeps.{requester_saw}
use Rattle.nsi_agent.proofs.Sameness.{old_if, old_is}

---- Lists of what was taken

any_push : {X : Type 0} (p : X → Bool) (xs : List X) (x : X) → p x ≡ true → list_any p (xs ++ x ∷ []) ≡ true
any_push p xs x e = list_any-append p xs (x ∷ []) ∙ by (list_any p xs) (p x) e
  where
    by : (a b : Bool) → b ≡ true → (a || (b || false)) ≡ true
    by true b f = refl
    by false true f = refl
    by false false f = absurd (cc)

any_more : {X : Type 0} (p : X → Bool) (xs : List X) (x : X) → list_any p xs ≡ true → list_any p (xs ++ x ∷ []) ≡ true
any_more p xs x e = list_any-append p xs (x ∷ []) ∙ ap (λ b. b || list_any p (x ∷ [])) e

taken_itself : (h : Header) (hs : List Header) → is_taken h (with_taken h hs) ≡ true
unfolding is_taken with_taken
taken_itself h hs = by (list_any (is_same_request h) hs) refl
  where
    by : (b : Bool) → list_any (is_same_request h) hs ≡ b → list_any (is_same_request h) (cond b hs (hs ++ h ∷ [])) ≡ true
    by true e = e
    by false e = any_push (is_same_request h) hs h (itself h)

taken_more : (h g : Header) (hs : List Header) → is_taken h hs ≡ true → is_taken h (with_taken g hs) ≡ true
unfolding is_taken with_taken
taken_more h g hs e = by (list_any (is_same_request g) hs)
  where
    by : (b : Bool) → list_any (is_same_request h) (cond b hs (hs ++ g ∷ [])) ≡ true
    by true = e
    by false = any_more (is_same_request h) hs g e

identity_itself : (i : Identity) → is_same_identity i i ≡ true
identity_itself i = rw ((bytes_eq-Decides i.requester i.requester).1 refl, (bytes_eq-Decides i.provider i.provider).1 refl, (Decides-eqb i.correlation i.correlation).1 refl, (Decides-eqb (kind_number i.kind) (kind_number i.kind)).1 refl) refl

heard_itself : (i : Identity) (is : List Identity) → is_heard i (with_heard i is) ≡ true
unfolding is_heard with_heard
heard_itself i is = by (list_any (is_same_identity i) is) refl
  where
    by : (b : Bool) → list_any (is_same_identity i) is ≡ b → list_any (is_same_identity i) (cond b is (is ++ i ∷ [])) ≡ true
    by true e = e
    by false e = any_push (is_same_identity i) is i (identity_itself i)

heard_more : (i j : Identity) (is : List Identity) → is_heard i is ≡ true → is_heard i (with_heard j is) ≡ true
unfolding is_heard with_heard
heard_more i j is e = by (list_any (is_same_identity j) is)
  where
    by : (b : Bool) → list_any (is_same_identity i) (cond b is (is ++ j ∷ [])) ≡ true
    by true = e
    by false = any_more (is_same_identity i) is j e

---- What was taken

-- the message counts as taken
abbrev pub WasTaken : Message → State → Type 0
WasTaken m s = old_if (is_request m.body) m s.seen s.heard ≡ true

saw_itself : (m : Message) (t : Retry) → old_if (is_request m.body) m (saw m t).seen (saw m t).heard ≡ true
unfolding saw
saw_itself m t = by (is_request m.body)
  where
    by : (b : Bool) → old_if b m (saw_if b m t).seen (saw_if b m t).heard ≡ true
    by true = taken_itself m.header t.seen
    by false = heard_itself (identity m) t.heard

saw_more : (m n : Message) (t : Retry) → old_if (is_request m.body) m t.seen t.heard ≡ true → old_if (is_request m.body) m (saw n t).seen (saw n t).heard ≡ true
unfolding saw
saw_more m n t e = by (is_request m.body) (is_request n.body) e
  where
    by : (a b : Bool) → old_if a m t.seen t.heard ≡ true → old_if a m (saw_if b n t).seen (saw_if b n t).heard ≡ true
    by true true f = taken_more m.header n.header t.seen f
    by true false f = f
    by false true f = f
    by false false f = heard_more (identity m) (identity n) t.heard f

as_seen : (m : Message) (s : State) (seen : List Header) (heard : List Identity) → s.seen ≡ seen → s.heard ≡ heard → old_if (is_request m.body) m seen heard ≡ true → WasTaken m s
as_seen m s seen heard p q e = ap (λ hs. old_if (is_request m.body) m hs s.heard) p ∙ (ap (λ is. old_if (is_request m.body) m seen is) q ∙ e)

still_by : (input : Input) (s t : State) (m : Message) → HasSeen input s t → WasTaken m s → WasTaken m t
still_by input s t m (inl same) old = as_seen m t s.seen s.heard same.seen same.heard old
still_by (Input.Got n) s t m (inr noted) old = as_seen m t (saw n (retry_of s)).seen (saw n (retry_of s)).heard noted.seen noted.heard (saw_more m n (retry_of s) old)
still_by (Input.Work n machine) s t m (inr noted) old = absurd noted
still_by (Input.Force n) s t m (inr noted) old = absurd noted
still_by (Input.Acked i) s t m (inr noted) old = absurd noted
still_by Input.Tick s t m (inr noted) old = absurd noted
still_by (Input.Ask n ask) s t m (inr noted) old = absurd noted

request_taken : (m : Message) (s : State) → is_request m.body ≡ true → is_taken m.header s.seen ≡ true → WasTaken m s
request_taken m s asks e = ap (λ b. old_if b m s.seen s.heard) asks ∙ e

-- what was taken stays taken
pub still_taken : (role : Role) (s : AgentState) (e : Entry) (m : Message) → may_take_as role s e ≡ true → WasTaken m s.base → WasTaken m (after_as role s e).state.base
unfolding after_as
still_taken (provides setting stp_of) s e m may old =
    subst (λ (y : Stepped). WasTaken m y.state) (sym (provider_takes setting stp_of s.base e may)) (still_by e.input s.base _ m (provider_saw e.input e.second setting stp_of s.base) old)
still_taken (aggregates setting) s e m may old =
    subst (λ (y : AgentStepped). WasTaken m y.state.base) (sym (aggregator_takes setting s e may)) (still_by e.input s.base _ m (aggregator_saw e.input e.second setting s) old)
still_taken (requests setting) s e m may old =
    subst (λ (y : AgentStepped). WasTaken m y.state.base) (sym (requester_takes setting s e may)) (still_by e.input s.base _ m (requester_saw e.input e.second setting s) old)

---- What is taken now

-- what an agent takes note of: requests at a provider, and all that comes at others
abbrev pub IsNoted : Role → Message → Type 0
IsNoted (provides setting stp_of) m = is_request m.body ≡ true
IsNoted role m = Unit {0}

-- what is new wasn't taken
pub new_not_taken : (h : Home) (s : AgentState) (m : Message) → IsNoted h.role m → is_new h s m ≡ true → WasTaken m s.base → ⊥
unfolding is_new
new_not_taken h s m noted new old = by h.role noted new
  where
    never : (b : Bool) → not b ≡ true → b ≡ true → ⊥
    never true p q = absurd (cc)
    never false p q = absurd (cc)

    by : (role : Role) → IsNoted role m → not (is_seen role s m) ≡ true → ⊥
    by (provides setting stp_of) asks new =
        never (is_taken m.header s.base.seen) (ap (λ b. not (b && is_taken m.header s.base.seen)) (sym asks) ∙ new) (ap (λ b. old_if b m s.base.seen s.base.heard) (sym asks) ∙ old)
    by (aggregates setting) noted new = never (is_old m (retry_of s.base)) new (old_is m (retry_of s.base) ∙ old)
    by (requests setting) noted new = never (is_old m (retry_of s.base)) new (old_is m (retry_of s.base) ∙ old)

provider_notes : (asks taken : Bool) (setting : ProviderSetting) (stp_of : List ℕ → Option ℕ) (s : State) (m : Message) → asks ≡ true → taken ≡ false → (provider_receives asks taken setting stp_of s m).state.seen ≡ with_taken m.header s.seen
unfolding provider_receives
provider_notes true false setting stp_of s m e f = grind arith
provider_notes true true setting stp_of s m e f = absurd (cc)
provider_notes false taken setting stp_of s m e f = absurd (cc)

-- the message is noted beside what was
record HasNoted (m : Message) (s t : State) : Type 0 where
  pub seen : t.seen ≡ (saw m (retry_of s)).seen
  pub heard : t.heard ≡ (saw m (retry_of s)).heard

-- it is served as it is, and nothing else is noted
served : (query : Bool) (setting : AggregatorSetting) (s : AgentState) (m : Message) → IsSameSeen s.base (serves query setting s m).state.base
unfolding answers request_at asks_below
served query setting s m = record { seen = grind arith; heard = grind arith }

aggregator_notes : (asks old : Bool) (setting : AggregatorSetting) (s : AgentState) (m : Message) → old ≡ false → HasNoted m s.base (aggregator_receives asks old setting s m).state.base
unfolding aggregator_receives hears
aggregator_notes true false setting s m e =
    let same = served (is_query m.body) setting (sees m s) m in
    record { seen = same.seen; heard = same.heard }
aggregator_notes false false setting s m e = record { seen = refl; heard = refl }
aggregator_notes asks true setting s m e = absurd (cc)

requester_notes : (old : Bool) (s : AgentState) (m : Message) → old ≡ false → HasNoted m s.base (hears_if old m s).state.base
unfolding hears_if
requester_notes false s m e = record { seen = refl; heard = refl }
requester_notes true s m e = absurd (cc)

noted_taken : (m : Message) (s t : State) → HasNoted m s t → WasTaken m t
noted_taken m s t n = as_seen m t (saw m (retry_of s)).seen (saw m (retry_of s)).heard n.seen n.heard (saw_itself m (retry_of s))

not_true : (b : Bool) → not b ≡ true → b ≡ false
not_true true e = absurd (cc)
not_true false e = refl

-- what is new is taken
pub now_taken : (h : Home) (s : AgentState) (second : ℕ) (m : Message) → (let e : Entry = record { second = second; input = Input.Got m } in may_take_as h.role s e ≡ true → IsNoted h.role m → is_new h s m ≡ true → WasTaken m (after_as h.role s e).state.base)
unfolding is_new after_as provider_step aggregator_step requester_step
now_taken h s second m may noted new = by h.role may noted new
  where
    e : Entry
    e = record { second = second; input = Input.Got m }

    by : (role : Role) → may_take_as role s e ≡ true → IsNoted role m → not (is_seen role s m) ≡ true → WasTaken m (after_as role s e).state.base
    by (provides setting stp_of) may asks new =
        let old : is_taken m.header s.base.seen ≡ false = not_true (is_taken m.header s.base.seen) (ap (λ b. not (b && is_taken m.header s.base.seen)) (sym asks) ∙ new) in
        let seen = provider_notes (is_request m.body) (is_taken m.header s.base.seen) setting stp_of s.base m asks old in
        subst (λ (y : Stepped). WasTaken m y.state) (sym (provider_takes setting stp_of s.base e may)) (request_taken m (provider_step e.input second setting stp_of s.base).state asks (ap (is_taken m.header) seen ∙ taken_itself m.header s.base.seen))
    by (aggregates setting) may noted new =
        subst (λ (y : AgentStepped). WasTaken m y.state.base) (sym (aggregator_takes setting s e may))
        (noted_taken m s.base _ (aggregator_notes (is_request m.body) (aggregator_seen s m) setting s m (not_true (aggregator_seen s m) new)))
    by (requests setting) may noted new =
        subst (λ (y : AgentStepped). WasTaken m y.state.base) (sym (requester_takes setting s e may)) (noted_taken m s.base _ (requester_notes (is_old m (retry_of s.base)) s m (not_true (is_old m (retry_of s.base)) new)))

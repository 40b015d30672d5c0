-- Entries one after another: what waits was caused, and no clock goes back.
use Rattle.std.proofs.Common.{◌≡◌, ◌≤◌, ◌⊎◌, inl, inr, ◌∙◌, ℕ, Bool, true, false, cond, List, [], ◌∷◌, ◌++◌, append_assoc, refl, sym, ap, subst, arith}
use Rattle.std.specs.List.{All, Contains}
use Rattle.std.proofs.lemmas.Bool.Decides.{nat_tests}
use Rattle.std.proofs.lemmas.List.Elements.{All-weaker, All-contains_itself, Contains-append_left, Contains-append_right, Contains-append_cases}
use Rattle.nsi_primitive.specs.Messages.{identity}
use Rattle.nsi_primitive.specs.declared.entry.Entry.{Entry}
use Rattle.nsi_primitive.specs.declared.entry.Input.{Input}
use Rattle.nsi_primitive.specs.declared.message.Identity.{Identity}
use Rattle.nsi_primitive.specs.declared.message.Message.{Message}
use Rattle.message_retry.specs.Retry.{is_same_identity, without}
use Rattle.agent_state.specs.Entries.{is_on_time}
use Rattle.agent_state.specs.State.{AgentState, AgentStepped, blank_agent}
use Rattle.nsi_agent.specs.Homes.{Home}
use Rattle.nsi_agent.specs.Steps.{after, may_take_as}
use Rattle.nsi_agent.specs.Told.{behind, goes_on, told}
use Rattle.nsi_agent.specs.Laws.{left_waiting, TellingIsInParts, ClocksRise, WaitingWasCaused}
use Rattle.nsi_agent.proofs.Entering.{entered, on_time_entry}
use Rattle.nsi_agent.proofs.Staying.{others_are_left_out}

pub telling_is_in_parts : TellingIsInParts
unfolding goes_on
telling_is_in_parts h s [] fs = refl
telling_is_in_parts h s (e ∷ es) fs =
    let rest = goes_on h (after h s e).state es in
    ap (behind (after h s e).out) (telling_is_in_parts h (after h s e).state es fs)
    ∙ ap (λ (ms : List Message). record { state = (goes_on h rest.state fs).state; out = ms }) (sym (append_assoc (after h s e).out rest.out (goes_on h rest.state fs).out))

---- The clock

rises_by : (input : Input) (second now : ℕ) → is_on_time input second now ≡ true → now ≤ second
rises_by Input.Tick second now h = grind (arith, nat_tests, h)
rises_by (Input.Got m) second now h = grind (arith, nat_tests, h)
rises_by (Input.Work n machine) second now h = grind (arith, nat_tests, h)
rises_by (Input.Force n) second now h = grind (arith, nat_tests, h)
rises_by (Input.Acked i) second now h = grind (arith, nat_tests, h)
rises_by (Input.Ask n a) second now h = grind (arith, nat_tests, h)

pub clocks_rise : ClocksRise
clocks_rise h s e = by (may_take_as h.role s e) refl
  where
    by : (b : Bool) → may_take_as h.role s e ≡ b → s.base.now ≤ (after h s e).state.base.now
    by true may = omega (arith, (entered h.role s e may).now, rises_by e.input e.second s.base.now (on_time_entry h.role s e may))
    by false may = omega (arith, ap (λ (x : AgentStepped). x.state.base.now) (others_are_left_out h s e may))

---- What waits

without_contained : (i : Identity) (ms : List Message) (m : Message) → Contains (without i ms) m → Contains ms m
unfolding without
without_contained i [] m c = c
without_contained i (x ∷ xs) m c = by (is_same_identity i (identity x)) (without_contained i xs m) c
  where
    by_part : (Contains xs m → Contains (x ∷ xs) m) → Contains (x ∷ []) m ⊎ Contains (without i xs) m → (Contains (without i xs) m → Contains xs m) → Contains (x ∷ xs) m
    by_part more (inl a) rest = Contains-append_left (x ∷ []) xs m a
    by_part more (inr b) rest = more (rest b)

    by : (b : Bool) → (Contains (without i xs) m → Contains xs m) → Contains (cond b xs (x ∷ without i xs)) m → Contains (x ∷ xs) m
    by true rest d = Contains-append_right (x ∷ []) xs m d
    by false rest d = by_part (Contains-append_right (x ∷ []) xs m) (Contains-append_cases (x ∷ []) (without i xs) m d) rest

left_contained : (input : Input) (ms : List Message) (m : Message) → Contains (left_waiting input ms) m → Contains ms m
left_contained (Input.Acked i) ms m c = without_contained i ms m c
left_contained (Input.Got n) ms m c = c
left_contained (Input.Work n machine) ms m c = c
left_contained (Input.Force n) ms m c = c
left_contained Input.Tick ms m c = c
left_contained (Input.Ask n a) ms m c = c

-- what waits behind an entry waited before, or was caused by it
waits_still : (h : Home) (s : AgentState) (e : Entry) (m : Message) → Contains (after h s e).state.base.waiting m → Contains s.base.waiting m ⊎ Contains (after h s e).out m
waits_still h s e m c = by (may_take_as h.role s e) refl
  where
    by_part : Contains (left_waiting e.input s.base.waiting) m ⊎ Contains (after h s e).out m → Contains s.base.waiting m ⊎ Contains (after h s e).out m
    by_part (inl a) = inl (left_contained e.input s.base.waiting m a)
    by_part (inr b) = inr b

    by : (b : Bool) → may_take_as h.role s e ≡ b → Contains s.base.waiting m ⊎ Contains (after h s e).out m
    by true may = by_part (Contains-append_cases (left_waiting e.input s.base.waiting) (after h s e).out m (subst (λ ms. Contains ms m) (entered h.role s e may).waiting c))
    by false may = inl (subst (λ (x : AgentStepped). Contains x.state.base.waiting m) (others_are_left_out h s e may) c)

-- what waits waited at first, or was caused
abbrev WaitedOrCaused : AgentState → List Message → Message → Type 0
WaitedOrCaused s out m = Contains s.base.waiting m ⊎ Contains out m

waits_from : (h : Home) (es : List Entry) (s : AgentState) → All (WaitedOrCaused s (goes_on h s es).out) (goes_on h s es).state.base.waiting
unfolding goes_on
waits_from h [] s = All-weaker (Contains s.base.waiting) (WaitedOrCaused s []) (λ m c. inl c) s.base.waiting (All-contains_itself s.base.waiting)
waits_from h (e ∷ es) s =
    let x = after h s e in
    let rest = goes_on h x.state es in
    All-weaker (WaitedOrCaused x.state rest.out) (WaitedOrCaused s (x.out ++ rest.out)) (λ m. sooner x.out rest.out s x.state m (waits_still h s e m)) rest.state.base.waiting (waits_from h es x.state)
  where
    earlier : (out rest : List Message) (s : AgentState) (m : Message) → Contains s.base.waiting m ⊎ Contains out m → WaitedOrCaused s (out ++ rest) m
    earlier out rest s m (inl a) = inl a
    earlier out rest s m (inr b) = inr (Contains-append_left out rest m b)

    sooner : (out rest : List Message) (s t : AgentState) (m : Message) → (Contains t.base.waiting m → Contains s.base.waiting m ⊎ Contains out m) → WaitedOrCaused t rest m → WaitedOrCaused s (out ++ rest) m
    sooner out rest s t m still (inl a) = earlier out rest s m (still a)
    sooner out rest s t m still (inr b) = inr (Contains-append_right out rest m b)

pub waiting_was_caused : WaitingWasCaused
waiting_was_caused h es =
    let x = told h es in
    All-weaker (WaitedOrCaused blank_agent x.out) (Contains x.out) (λ m. caused x.out m) x.state.base.waiting (waits_from h es blank_agent)
  where
    caused : (out : List Message) (m : Message) → WaitedOrCaused blank_agent out m → Contains out m
    caused out m (inl a) = absurd (let lt = a.1 in omega (arith, lt))
    caused out m (inr b) = b

-- What an entry that is taken leaves, at an agent of any kind.
use Rattle.std.proofs.Common.{◌≡◌, ◌<◌, ◌∙◌, ◌+◌, ◌&&◌, ◌++◌, ℕ, Bool, true, false, List, [], ◌∷◌, cond, refl, sym, ap, subst, arith}
use Rattle.std.specs.List.{All}
use Rattle.std.proofs.lemmas.Bool.{and_parts}
use Rattle.std.proofs.lemmas.Bool.Decides.{nat_tests}
use Rattle.std.proofs.lemmas.List.Elements.{All-cons, All-append, All-head, All-tail}
use Rattle.nsi_primitive.specs.Messages.{identity}
use Rattle.nsi_primitive.specs.Printable.{IsPrintable}
use Rattle.nsi_primitive.specs.declared.entry.Entry.{Entry}
use Rattle.nsi_primitive.specs.declared.entry.Input.{Input}
use Rattle.nsi_primitive.specs.declared.message.Identity.{Identity}
use Rattle.nsi_primitive.specs.declared.message.Message.{Message}
use Rattle.message_retry.specs.Retry.{is_same_identity, without}
use Rattle.agent_state.specs.Entries.{is_on_time}
use Rattle.agent_state.specs.State.{State, Stepped, AgentState, AgentStepped, counts, counts_agent}
use Rattle.provider_agent.proofs.Counting.{taken_is as provider_takes}
use Rattle.provider_agent.specs.Steps.{step as provider_step_of}
use Rattle.aggregator_agent.proofs.Entries.{after_is as aggregator_takes}
use Rattle.aggregator_agent.specs.Steps.{step as aggregator_step_of}
use Rattle.requester_agent.proofs.Entries.{after_is as requester_takes}
use Rattle.requester_agent.specs.Steps.{step as requester_step_of}
use Rattle.nsi_agent.specs.Homes.{Role, provides, aggregates, requests}
use Rattle.nsi_agent.specs.Steps.{after_as, may_take_as, with_base}
use Rattle.nsi_agent.specs.Kinds.{IsFit}
use Rattle.nsi_agent.specs.Laws.{left_waiting, IsEntered}
use Rattle.nsi_agent.proofs.ProviderKeeps.{IsStep, clock_after, provider_step}
use Rattle.nsi_agent.proofs.AggregatorKeeps.{aggregator_step}
use Rattle.nsi_agent.proofs.RequesterKeeps.{requester_step}

-- the parts of what may be taken
last_part : (a b c : Bool) → (a && (b && c)) ≡ true → c ≡ true
last_part a b c h = (and_parts b c (and_parts a (b && c) h).1).1

pub on_time_entry : (role : Role) (s : AgentState) (e : Entry) → may_take_as role s e ≡ true → is_on_time e.input e.second s.base.now ≡ true
on_time_entry (provides setting stp_of) s e may = last_part _ _ (is_on_time e.input e.second s.base.now) may
on_time_entry (aggregates setting) s e may = last_part _ _ (is_on_time e.input e.second s.base.now) may
on_time_entry (requests setting) s e may = (and_parts _ (is_on_time e.input e.second s.base.now) may).1

clock_is : (input : Input) (second now : ℕ) → is_on_time input second now ≡ true → clock_after input second now ≡ second
clock_is Input.Tick second now h = refl
clock_is (Input.Got m) second now h = grind (arith, nat_tests, h)
clock_is (Input.Work n machine) second now h = grind (arith, nat_tests, h)
clock_is (Input.Force n) second now h = grind (arith, nat_tests, h)
clock_is (Input.Acked i) second now h = grind (arith, nat_tests, h)
clock_is (Input.Ask n a) second now h = grind (arith, nat_tests, h)

-- a step that is counted
stepped : (s t : State) (input : Input) (second : ℕ) (out : List Message) → is_on_time input second s.now ≡ true → IsStep input second s t
    → (t.taken + 1 ≡ s.taken + 1) × (t.waiting ++ out ≡ left_waiting input s.waiting ++ out) × (t.now ≡ second)
stepped s t input second out h q = (ap (λ k. k + 1) q.taken, ap (λ ms. ms ++ out) q.waiting, q.now ∙ clock_is input second s.now h)

pub entered : (role : Role) (s : AgentState) (e : Entry) → may_take_as role s e ≡ true → IsEntered s e (after_as role s e)
unfolding after_as
entered (provides setting stp_of) s e may =
    let x = counts (provider_step_of e.input e.second setting stp_of s.base) in
    let q = stepped s.base (provider_step_of e.input e.second setting stp_of s.base).state e.input e.second x.out (on_time_entry (provides setting stp_of) s e may) (provider_step e.input e.second setting stp_of s.base) in
    subst (λ (y : Stepped). IsEntered s e (with_base s y)) (sym (provider_takes setting stp_of s.base e may)) (record { taken = q.0; waiting = q.1; now = q.2 })
entered (aggregates setting) s e may =
    let x = counts_agent (aggregator_step_of e.input e.second setting s) in
    let q = stepped s.base (aggregator_step_of e.input e.second setting s).state.base e.input e.second x.out (on_time_entry (aggregates setting) s e may) (aggregator_step e.input e.second setting s) in
    subst (λ (y : AgentStepped). IsEntered s e y) (sym (aggregator_takes setting s e may)) (record { taken = q.0; waiting = q.1; now = q.2 })
entered (requests setting) s e may =
    let x = counts_agent (requester_step_of e.input e.second setting s) in
    let q = stepped s.base (requester_step_of e.input e.second setting s).state.base e.input e.second x.out (on_time_entry (requests setting) s e may) (requester_step e.input e.second setting s) in
    subst (λ (y : AgentStepped). IsEntered s e y) (sym (requester_takes setting s e may)) (record { taken = q.0; waiting = q.1; now = q.2 })

---- What is true of each state stays true

pub few_taken : (role : Role) (s : AgentState) (e : Entry) → may_take_as role s e ≡ true → s.base.taken < 4194304
few_taken (provides setting stp_of) s e h = grind (arith, h)
few_taken (aggregates setting) s e h = grind (arith, h)
few_taken (requests setting) s e h = grind (arith, h)

pub all_without : (i : Identity) (ms : List Message) → All IsPrintable ms → All IsPrintable (without i ms)
unfolding without
all_without i [] all = all
all_without i (m ∷ ms) all = by_test (is_same_identity i (identity m)) (all_without i ms (All-tail IsPrintable m ms all))
  where
    by_test : (b : Bool) → All IsPrintable (without i ms) → All IsPrintable (cond b ms (m ∷ without i ms))
    by_test true rest = All-tail IsPrintable m ms all
    by_test false rest = All-cons IsPrintable m (without i ms) (All-head IsPrintable m ms all) rest

all_left : (input : Input) (ms : List Message) → All IsPrintable ms → All IsPrintable (left_waiting input ms)
all_left (Input.Acked i) ms all = all_without i ms all
all_left (Input.Got m) ms all = all
all_left (Input.Work n machine) ms all = all
all_left (Input.Force n) ms all = all
all_left Input.Tick ms all = all
all_left (Input.Ask n a) ms all = all

pub fit_entered : (role : Role) (s : AgentState) (e : Entry) → may_take_as role s e ≡ true → All IsPrintable (after_as role s e).out → IsFit s → IsFit (after_as role s e).state
fit_entered role s e may prints fit =
    let x = entered role s e may in
    record {
      most = omega (arith, x.taken, few_taken role s e may);
      printable = subst (All IsPrintable) (sym x.waiting) (All-append IsPrintable (left_waiting e.input s.base.waiting) (after_as role s e).out (all_left e.input s.base.waiting fit.printable) prints);
    }

-- In each world of events that are due each journal was taken entry after entry, each as it was due.
use Rattle.std.proofs.Common.{◌≡◌, ◌<◌, ◌+◌, ◌&&◌, nat_lt, ℕ, zero, suc, Bool, true, List, [], ◌∷◌, ◌++◌, Option, inl, inr, refl, sym, subst, arith, length, take}
use Rattle.std.proofs.lemmas.Bool.{and_from, lt-ltb, cases_eq}
use Rattle.std.proofs.lemmas.Bool.Decides.{nat_tests}
use Rattle.nsi_primitive.specs.Printable.{IsPrintableEntry}
use Rattle.nsi_primitive.specs.declared.ask.AskAnswer.{AskAnswer}
use Rattle.nsi_primitive.specs.declared.entry.Entry.{Entry}
use Rattle.nsi_primitive.specs.declared.entry.Event.{Event}
use Rattle.nsi_primitive.specs.declared.entry.Happening.{Happening}
use Rattle.nsi_primitive.specs.declared.entry.Input.{Input}
use Rattle.agent_state.specs.Entries.{is_on_time, most_entries}
use Rattle.agent_state.specs.State.{AgentState, blank_agent}
use Rattle.provider_agent.specs.Setting.{Setting as ProviderSetting}
use Rattle.provider_agent.specs.Steps.{is_for_provider}
use Rattle.aggregator_agent.specs.Setting.{Setting as AggregatorSetting}
use Rattle.aggregator_agent.specs.Steps.{is_for_aggregator}
use Rattle.nsi_agent.specs.Homes.{Role, provides, aggregates, requests, Home}
use Rattle.nsi_agent.specs.Steps.{after, may_take_as}
use Rattle.nsi_agent.specs.Told.{goes_on, told}
use Rattle.nsi_agent.proofs.Staying.{entries_are_taken}
use Rattle.nsi_world.specs.Worlds.{Homes, World, empty}
use Rattle.nsi_world.specs.Runs.{is_requester, MayCome, IsInTime, MayHappen, at, happens_at, happens, world_after, AreAllowed}
use Rattle.nsi_world.proofs.Later.{at_same, at_other}
use Rattle.due_events.specs.Due.{IsDueInput, IsDueAt, AreDue}

---- One agent

-- an entry that an agent may take, and that is due as it stands
pub record IsTakenDue (h : Home) (s : AgentState) (e : Entry) : Type 0 where
  pub printable : IsPrintableEntry e
  pub may : may_take_as h.role s e ≡ true
  pub due : IsDueInput h s e.input

-- each as the agent stands behind those before it
unfoldable pub AreTakenDue : Home → AgentState → List Entry → Type 0
AreTakenDue h s [] = Unit {0}
AreTakenDue h s (e ∷ es) = IsTakenDue h s e × AreTakenDue h (after h s e).state es

due_push : (h : Home) (s : AgentState) (es : List Entry) (e : Entry) → AreTakenDue h s es → IsTakenDue h (goes_on h s es).state e → AreTakenDue h s (es ++ e ∷ [])
unfolding AreTakenDue goes_on
due_push h s [] e all one = (one, tt)
due_push h s (x ∷ xs) e all one = (all.0, due_push h (after h s x).state xs e all.1 one)

due_take : (h : Home) (s : AgentState) (n : ℕ) (es : List Entry) → AreTakenDue h s es → AreTakenDue h s (take n es)
unfolding AreTakenDue
due_take h s zero es all = tt
due_take h s (suc n) [] all = tt
due_take h s (suc n) (x ∷ xs) all = (all.0, due_take h (after h s x).state n xs all.1)

taken_all : (h : Home) (s : AgentState) (es : List Entry) → AreTakenDue h s es → (goes_on h s es).state.base.taken ≡ s.base.taken + length es
unfolding AreTakenDue goes_on
taken_all h s [] all = omega arith
taken_all h s (e ∷ es) all = omega (arith, taken_all h (after h s e).state es all.1, (entries_are_taken h s e all.0.may).taken)

---- It may take what may come

timely : (input : Input) (second now : ℕ) → IsInTime input second now → is_on_time input second now ≡ true
timely Input.Tick second now h = grind (arith, nat_tests, h)
timely (Input.Got m) second now h = grind (arith, nat_tests, h)
timely (Input.Work n machine) second now h = grind (arith, nat_tests, h)
timely (Input.Force n) second now h = grind (arith, nat_tests, h)
timely (Input.Acked i) second now h = grind (arith, nat_tests, h)
timely (Input.Ask n ask) second now h = grind (arith, nat_tests, h)

-- asks come to requesters
abbrev IsForRole : Role → Input → Type 0
IsForRole role (Input.Ask n ask) = is_requester role ≡ true
IsForRole role input = Unit {0}

for_role : (homes : Homes) (w : World) (a : ℕ) (input : Input) → MayCome homes w a input → IsForRole (homes a).role input
for_role homes w a Input.Tick h = tt
for_role homes w a (Input.Got m) h = tt
for_role homes w a (Input.Work n machine) h = tt
for_role homes w a (Input.Force n) h = tt
for_role homes w a (Input.Acked i) h = tt
for_role homes w a (Input.Ask n ask) h = h

for_provider : (setting : ProviderSetting) (stp_of : List ℕ → Option ℕ) (input : Input) → IsForRole (provides setting stp_of) input → is_for_provider input ≡ true
for_provider setting stp_of Input.Tick h = refl
for_provider setting stp_of (Input.Got m) h = refl
for_provider setting stp_of (Input.Work n machine) h = refl
for_provider setting stp_of (Input.Force n) h = refl
for_provider setting stp_of (Input.Acked i) h = refl
for_provider setting stp_of (Input.Ask n ask) h = absurd (cc)

for_aggregator : (setting : AggregatorSetting) (input : Input) → IsForRole (aggregates setting) input → is_for_aggregator input ≡ true
for_aggregator setting Input.Tick h = refl
for_aggregator setting (Input.Got m) h = refl
for_aggregator setting (Input.Work n machine) h = refl
for_aggregator setting (Input.Force n) h = refl
for_aggregator setting (Input.Acked i) h = refl
for_aggregator setting (Input.Ask n ask) h = absurd (cc)

may_as : (role : Role) (s : AgentState) (e : Entry) → s.base.taken < most_entries → is_on_time e.input e.second s.base.now ≡ true → IsForRole role e.input → may_take_as role s e ≡ true
may_as (provides setting stp_of) s e few now fits =
    let timed : Bool = is_on_time e.input e.second s.base.now in
    and_from (nat_lt s.base.taken most_entries) (is_for_provider e.input && timed) (lt-ltb s.base.taken most_entries few) (and_from (is_for_provider e.input) timed (for_provider setting stp_of e.input fits) now)
may_as (aggregates setting) s e few now fits =
    let timed : Bool = is_on_time e.input e.second s.base.now in
    and_from (nat_lt s.base.taken most_entries) (is_for_aggregator e.input && timed) (lt-ltb s.base.taken most_entries few) (and_from (is_for_aggregator e.input) timed (for_aggregator setting e.input fits) now)
may_as (requests setting) s e few now fits = and_from (nat_lt s.base.taken most_entries) (is_on_time e.input e.second s.base.now) (lt-ltb s.base.taken most_entries few) now

---- All agents

-- each journal was taken so
abbrev AreAllDue : Homes → World → Type 0
AreAllDue homes w = (b : ℕ) → AreTakenDue (homes b) blank_agent (w.journal b)

entered_due : (homes : Homes) (w : World) (a : ℕ) (e : Entry) (answer : Option AskAnswer) → MayHappen homes w a (Happening.Entry e answer) → IsDueAt homes w a (Happening.Entry e answer) → AreAllDue homes w → IsTakenDue (homes a) (told (homes a) (w.journal a)).state e
entered_due homes w a e answer may due all =
    let s : AgentState = (told (homes a) (w.journal a)).state in
    let room = may.0 in
    record {
      printable = may.1.printable;
      may = may_as (homes a).role s e (omega (arith, room, taken_all (homes a) blank_agent (w.journal a) (all a))) (timely e.input e.second s.base.now may.1.in_time) (for_role homes w a e.input may.1.comes);
      due = due;
    }

due_event : (homes : Homes) (w : World) (a : ℕ) (what : Happening) → MayHappen homes w a what → IsDueAt homes w a what → AreAllDue homes w → AreAllDue homes (happens_at w a what)
due_event homes w a (Happening.Entry e answer) may due all b =
    let js : List Entry = w.journal a ++ e ∷ [] in
    let here : AreTakenDue (homes a) blank_agent js = due_push (homes a) blank_agent (w.journal a) e (all a) (entered_due homes w a e answer may due all) in
    elim (cases_eq b a) [
      | inl q ↦ subst (λ c. AreTakenDue (homes c) blank_agent (at a js w.journal c)) (sym q) (subst (AreTakenDue (homes a) blank_agent) (sym (at_same a js w.journal)) here)
      | inr n ↦ subst (AreTakenDue (homes b) blank_agent) (sym (at_other a b js w.journal n)) (all b)
    ]
due_event homes w a (Happening.Sync count) may due all b = all b
due_event homes w a (Happening.Restart count) may due all b =
    let js : List Entry = take count (w.journal a) in
    elim (cases_eq b a) [
      | inl q ↦ subst (λ c. AreTakenDue (homes c) blank_agent (at a js w.journal c)) (sym q) (subst (AreTakenDue (homes a) blank_agent) (sym (at_same a js w.journal)) (due_take (homes a) blank_agent count (w.journal a) (all a)))
      | inr n ↦ subst (AreTakenDue (homes b) blank_agent) (sym (at_other a b js w.journal n)) (all b)
    ]

due_after : (homes : Homes) (w : World) (events : List Event) → AreAllowed homes w events → AreDue homes w events → AreAllDue homes w → AreAllDue homes (world_after w events)
unfolding world_after AreAllowed AreDue
due_after homes w [] run due all = all
due_after homes w (e ∷ es) run due all = due_after homes (happens w e) es run.1 due.1 (due_event homes w e.agent e.what run.0.1 due.0 all)

pub journals_due : (homes : Homes) (events : List Event) → AreAllowed homes empty events → AreDue homes empty events → (a : ℕ) → AreTakenDue (homes a) blank_agent ((world_after empty events).journal a)
unfolding AreTakenDue
journals_due homes events run due = due_after homes empty events run due (λ b. tt)

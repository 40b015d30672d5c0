-- Each entry of a journal was entered as it should be, and so it is taken.
use Rattle.std.proofs.Common.{ℕ, zero, suc, ◌+◌, ◌≤◌, ◌<◌, ◌≡◌, Bool, true, false, List, [], ◌∷◌, ◌++◌, Option, Some, ◌⊎◌, inl, inr, refl, sym, ap, ◌∙◌, subst, arith, length, take, slice_get, get_or}
use Rattle.std.specs.List.{All}
use Rattle.std.proofs.lemmas.Bool.Decides.{nat_tests}
use Rattle.std.proofs.lemmas.List.{take-append-le, take-take, take_all, length-take}
use Rattle.std.proofs.lemmas.List.Elements.{All-nil, All-push, All-take}
use Rattle.std.proofs.lemmas.Option.{none-some, slice_get_within, slice_get-get_or}
use Rattle.nsi_primitive.specs.Printable.{IsPrintableEntry}
use Rattle.nsi_primitive.specs.declared.ask.AskAnswer.{AskAnswer}
use Rattle.nsi_primitive.specs.declared.entry.Entry.{Entry}
use Rattle.nsi_primitive.specs.declared.entry.Event.{Event}
use Rattle.nsi_primitive.specs.declared.entry.Happening.{Happening}
use Rattle.nsi_primitive.specs.declared.entry.Input.{Input}
use Rattle.agent_state.specs.Entries.{is_on_time, most_entries}
use Rattle.agent_state.specs.State.{AgentState, AgentStepped, blank_agent}
use Rattle.provider_agent.proofs.RecordPlaces.{push_cases}
use Rattle.nsi_agent.specs.Homes.{Home}
use Rattle.nsi_agent.specs.Steps.{after, may_take_as}
use Rattle.nsi_agent.specs.Told.{goes_on, told}
use Rattle.nsi_agent.specs.Said.{IsFor, IsForIn}
use Rattle.nsi_agent.proofs.Staying.{entries_are_taken, others_are_left_out}
use Rattle.nsi_world.specs.Worlds.{Homes, IsAgent, World, empty}
use Rattle.nsi_world.specs.Runs.{MayCome, IsInTime, MayHappen, world_after, AreAllowed}
use Rattle.run_growth.proofs.Worlds.{Keeps, by_journal}

---- How many entries were taken

taken_one : (h : Home) (s : AgentState) (e : Entry) → (after h s e).state.base.taken ≤ s.base.taken + 1
taken_one h s e = by (may_take_as h.role s e) refl
  where
    by : (b : Bool) → may_take_as h.role s e ≡ b → (after h s e).state.base.taken ≤ s.base.taken + 1
    by true may = omega (arith, (entries_are_taken h s e may).taken)
    by false may = omega (arith, ap (λ (x : AgentStepped). x.state.base.taken) (others_are_left_out h s e may))

taken_among : (h : Home) (s : AgentState) (es : List Entry) → (goes_on h s es).state.base.taken ≤ s.base.taken + length es
unfolding goes_on
taken_among h s [] = omega arith
taken_among h s (e ∷ es) = omega (arith, taken_one h s e, taken_among h (after h s e).state es)

---- Entries

-- an entry that an agent took behind others
pub record IsEntry (homes : Homes) (a : ℕ) (before : List Entry) (e : Entry) : Type 0 where
  pub agent : IsAgent homes a
  pub few : (told (homes a) before).state.base.taken < most_entries
  pub on_time : is_on_time e.input e.second (told (homes a) before).state.base.now ≡ true
  pub addressed : IsFor (homes a).name e.input

timely : (input : Input) (second now : ℕ) → IsInTime input second now → is_on_time input second now ≡ true
timely Input.Tick second now h = grind (arith, nat_tests, h)
timely (Input.Got m) second now h = grind (arith, nat_tests, h)
timely (Input.Work n machine) second now h = grind (arith, nat_tests, h)
timely (Input.Force n) second now h = grind (arith, nat_tests, h)
timely (Input.Acked i) second now h = grind (arith, nat_tests, h)
timely (Input.Ask n ask) second now h = grind (arith, nat_tests, h)

for_agent : (homes : Homes) (w : World) (a : ℕ) (input : Input) → MayCome homes w a input → IsFor (homes a).name input
for_agent homes w a Input.Tick h = tt
for_agent homes w a (Input.Got m) h = h.1
for_agent homes w a (Input.Work n machine) h = tt
for_agent homes w a (Input.Force n) h = tt
for_agent homes w a (Input.Acked i) h = tt
for_agent homes w a (Input.Ask n ask) h = tt

entry_here : (homes : Homes) (w : World) (a : ℕ) (e : Entry) (answer : Option AskAnswer) → IsAgent homes a → MayHappen homes w a (Happening.Entry e answer) → IsEntry homes a (w.journal a) e
entry_here homes w a e answer is may =
    let room : length (w.journal a) < most_entries = may.0 in
    record {
      agent = is;
      few = omega (arith, room, taken_among (homes a) blank_agent (w.journal a));
      on_time = timely e.input e.second (told (homes a) (w.journal a)).state.base.now may.1.in_time;
      addressed = for_agent homes w a e.input may.1.comes;
    }

---- Journals

-- what is true of each journal: its entries can be printed, and each was entered behind those before it
pub record AreEntries (homes : Homes) (a : ℕ) (es : List Entry) (synced : ℕ) : Type 0 where
  pub printable : All IsPrintableEntry es
  pub entered : (n : ℕ) (e : Entry) → slice_get es n ≡ Some e → IsEntry homes a (take n es) e

get_front : {X : Type 0} (new n : ℕ) (es : List X) (x : X) → slice_get (take new es) n ≡ Some x → slice_get es n ≡ Some x
get_front zero n es x h = absurd (none-some x h)
get_front (suc m) n [] x h = absurd (none-some x h)
get_front (suc m) zero (e ∷ es) x h = h
get_front (suc m) (suc n) (e ∷ es) x h = get_front m n es x h

get_below : {X : Type 0} (new n : ℕ) (es : List X) (x : X) → slice_get (take new es) n ≡ Some x → n ≤ new
get_below new n es x h = let lt : n < length (take new es) = slice_get_within (take new es) n x h in omega (arith, lt, length-take new es)

entries_keep : (homes : Homes) (a : ℕ) → Keeps homes a (AreEntries homes a)
entries_keep homes a =
    record {
      entry = λ w e answer is may p. record {
        printable = All-push IsPrintableEntry (w.journal a) e p.printable may.1.printable;
        entered = λ n x h. pushed w e answer is may p n x (push_cases (w.journal a) n e x h);
      };
      sync = λ es old new e p. record { printable = p.printable; entered = p.entered };
      restart = λ es old new low high p. record {
        printable = All-take IsPrintableEntry new es p.printable;
        entered = λ n x h. subst (λ fs. IsEntry homes a fs x) (sym (take-take n new es (get_below new n es x h))) (p.entered n x (get_front new n es x h));
      };
    }
  where
    pushed : (w : World) (e : Entry) (answer : Option AskAnswer) → IsAgent homes a → MayHappen homes w a (Happening.Entry e answer) → AreEntries homes a (w.journal a) (w.synced a) → (n : ℕ) (x : Entry) →
        ((n ≡ length (w.journal a)) × (e ≡ x)) ⊎ (slice_get (w.journal a) n ≡ Some x) → IsEntry homes a (take n (w.journal a ++ e ∷ [])) x
    pushed w e answer is may p n x (inl q) =
        let es : List Entry = w.journal a in
        let front : take n (es ++ e ∷ []) ≡ es = ap (λ k. take k (es ++ e ∷ [])) q.0 ∙ (take-append-le (length es) es (e ∷ []) (omega arith) ∙ take_all (length es) es (omega arith)) in
        subst (λ fs. IsEntry homes a fs x) (sym front) (subst (IsEntry homes a es) q.1 (entry_here homes w a e answer is may))
    pushed w e answer is may p n x (inr h) =
        let es : List Entry = w.journal a in
        let lt : n < length es = slice_get_within es n x h in
        subst (λ fs. IsEntry homes a fs x) (sym (take-append-le n es (e ∷ []) (omega (arith, lt)))) (p.entered n x h)

pub entries_of : (homes : Homes) (events : List Event) → AreAllowed homes empty events → (a : ℕ) → AreEntries homes a ((world_after empty events).journal a) ((world_after empty events).synced a)
entries_of homes events run a =
    by_journal homes a (AreEntries homes a) (entries_keep homes a) empty events run
    (record { printable = All-nil IsPrintableEntry; entered = λ n e h. absurd (none-some e h) })

---- For the agent

-- all that came was for the agent
pub all_for : (homes : Homes) (a : ℕ) (name : List ℕ) (es : List Entry) (synced : ℕ) → name ≡ (homes a).name → AreEntries homes a es synced → All (IsForIn name) es
all_for homes a name es synced named p k d lt = subst (λ z. IsFor z (get_or es k d).input) (sym named) (p.entered k (get_or es k d) (slice_get-get_or es k d lt)).addressed

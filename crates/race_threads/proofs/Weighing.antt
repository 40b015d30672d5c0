-- What the comparison makes known of a history.
use Rattle.std.proofs.Common.{◌≡◌, ◌<◌, ◌≤◌, ◌+◌, ◌∙◌, ◌⊎◌, ℕ, Bool, true, false, List, [], ◌∷◌, ◌++◌, map, length, get_or, Option, Some, None, All, inl, inr, refl, sym, ap, subst, arith}
use Rattle.std.specs.Prelude.{◌==◌, ◌||◌, if◌then◌else◌, slice_get, IsSome}
use Rattle.std.specs.List.{list_any}
use Rattle.std.proofs.lemmas.Bool.{true≢false, ne_eqb}
use Rattle.std.proofs.lemmas.List.{get_or-map, length-map}
use Rattle.std.proofs.lemmas.List.Elements.{All-nil, All-cons, All-head, All-tail, All-append, All-get_or, All-weaker}
use Rattle.nsi_disk.specs.Disk.{Meter}
use Rattle.disk_journal.specs.declared.opening.StartCause.{StartCause}
use Rattle.disk_journal.specs.StartOf.{StartsFor}
use Rattle.nsi_primitive.specs.Printable.{IsPrintableEntry, IsPrintableHappening, is_ask}
use Rattle.nsi_primitive.specs.declared.ask.AskAnswer.{AskAnswer}
use Rattle.nsi_primitive.specs.declared.entry.Entry.{Entry}
use Rattle.nsi_primitive.specs.declared.entry.Event.{Event}
use Rattle.nsi_primitive.specs.declared.entry.Happening.{Happening}
use Rattle.nsi_primitive.specs.declared.entry.Input.{Input}
use Rattle.nsi_primitive.specs.declared.message.Message.{Message}
use Rattle.nsi_primitive.specs.declared.state.Machine.{Machine}
use Rattle.stp_topology.specs.declared.network.Network.{Network}
use Rattle.trace_text.specs.Lines.{HasLine}
use Rattle.nsi_script.specs.declared.script.Act.{Act}
use Rattle.provider_agent.specs.Setting.{Setting, setting_of, own_stp}
use Rattle.provider_agent.specs.State.{State, blank}
use Rattle.provider_agent.specs.Steps.{is_for_provider, waiting_work}
use Rattle.provider_agent.specs.Events.{all_synced, happens}
use Rattle.provider_agent.specs.Cuts.{Journal}
use Rattle.provider_agent.specs.AgentRuns.{IsAllowed, AreAllowed}
use Rattle.provider_agent.proofs.EventsSafe.{allowed_safe}
use Rattle.shared_provider.specs.declared.reply.BookFault.{BookFault}
use Rattle.shared_provider.specs.Answers.{Fails}
use Rattle.shared_provider.specs.Book.{Held, IsBook, counted}
use Rattle.shared_provider.specs.History.{IsHistory, IsOf, happenings, journal_of}
use Rattle.race_run.specs.declared.item.Item.{Item}
use Rattle.race_run.specs.declared.item.Difference.{Difference}
use Rattle.race_run.specs.Compared.{IsFirst, AllStand}
use Rattle.race_run.specs.Found.{item, entered, heard_item, entry_items, entry_in, after_at, state_by, state_gone, along, found, found_at, is_own, ticks, strays, waits, work_item}
use Rattle.race_run.specs.Replay.{MayAll}
use Rattle.race_caller.specs.Plays.{IsPlay, HasEnd, no_place}
use Rattle.race_run.specs.Scripts.{asks_by}
use Rattle.race_judging.specs.declared.judging.Own.{Own}
use Rattle.race_judging.specs.Pairs.{Pair, pair, pairs_of, AreSame, second_of, first_ticks, found_of, own_pair, committed_of}
use Rattle.race_judging.specs.Verdicts.{IsFirstOf, IsSame, IsDifferent}
use Rattle.race_threads.specs.declared.racing.RaceCause.{RaceCause}
use Rattle.race_threads.specs.Raced.{call_of, IsRaced, IsKept, AreKept, HasOwn, AreOfOne, AllSame, HasDiffered, IsBroken, HasFault, cause_of, start_cause_of}
use Rattle.race_history.proofs.Books.{history_alike, may_all, few_events, capped_gone}

---- No history has an event at the place of those who ended early

abbrev IsBelow : Item → Type 0
IsBelow x = x.place < no_place

along_below : (t : Network) (p : ℕ) (adds : ℕ → State → Option Entry → List Item) → ((place : ℕ) (s : State) (x : Option Entry) → place < no_place → All IsBelow (adds place s x))
    → (s : State) (place : ℕ) (events : List Event) → place + length events ≤ no_place → All IsBelow (along t p adds s place events)
unfolding along
along_below t p adds one s place [] few = All-nil IsBelow
along_below t p adds one s place (x ∷ xs) few =
    All-append IsBelow (adds place s (entry_in x.what)) (along t p adds (state_by t p s x.what) (place + 1) xs) (one place s (entry_in x.what) (omega (arith, few)))
    (along_below t p adds one (state_by t p s x.what) (place + 1) xs (omega (arith, few)))

found_below : (t : Network) (p a second : ℕ) (events : List Event) → length events ≤ no_place → All IsBelow (found t p a second blank 0 events)
found_below t p a second events few = along_below t p (found_at t p a second) one blank 0 events (omega (arith, few))
  where
    heard : (place : ℕ) (out : List Message) → place < no_place → All IsBelow (map (heard_item a second place) out)
    heard place [] h = All-nil IsBelow
    heard place (m ∷ out) h = All-cons IsBelow (heard_item a second place m) (map (heard_item a second place) out) h (heard place out h)

    by : (place : ℕ) (s : State) (e : Entry) (b : Bool) → place < no_place → All IsBelow (if b then entry_items t p a second place s e else [])
    by place s e true h = All-cons IsBelow (item place (entered p e)) (map (heard_item a second place) (after_at t p s e).out) h (heard place (after_at t p s e).out h)
    by place s e false h = All-nil IsBelow

    one : (place : ℕ) (s : State) (x : Option Entry) → place < no_place → All IsBelow (found_at t p a second place s x)
    one place s None h = All-nil IsBelow
    one place s (Some e) h = by place s e (is_own t a s e.input) h

not_there : (n : ℕ) → n < no_place → (n == no_place) ≡ false
not_there n h = ne_eqb n no_place (λ e. omega (arith, h, e))

no_end : (xs : List Item) → All IsBelow xs → HasEnd xs → ⊥
no_end [] h e = true≢false (sym e)
no_end (x ∷ xs) h e = no_end xs (All-tail IsBelow x xs h) (sym (ap (λ b. b || list_any (λ (y : Item). y.place == no_place) xs) (not_there x.place (All-head IsBelow x xs h))) ∙ e)

---- The pairs

all_left : {X : Type 0} (P : X → Type 0) (xs ys : List X) → All P (xs ++ ys) → All P xs
all_left P [] ys h = All-nil P
all_left P (x ∷ xs) ys h = All-cons P x xs (All-head P x (xs ++ ys) h) (all_left P xs ys (All-tail P x (xs ++ ys) h))

all_right : {X : Type 0} (P : X → Type 0) (xs ys : List X) → All P (xs ++ ys) → All P ys
all_right P [] ys h = h
all_right P (x ∷ xs) ys h = all_right P xs ys (All-tail P x (xs ++ ys) h)

none_waits : (p place now : ℕ) (w : Option (ℕ × Machine)) → [] ≡ work_item p place now w → w ≡ None
none_waits p place now None e = refl
none_waits p place now (Some w) e = absurd (omega (arith, ap length e))

play_of : (t : Network) (p : ℕ) (start : Option ℕ) (acts : List Act) (events : List Event) (o : Own) → length events ≤ no_place → IsKept t p start acts o → o.items ≡ found_of t p (second_of start) events o.agent
    → IsPlay t (call_of p o.agent (second_of start)) start (asks_by o.agent acts) (found_of t p (second_of start) events o.agent)
play_of t p start acts events o few kept same = by kept.own
  where
    by : IsPlay t (call_of p o.agent (second_of start)) start (asks_by o.agent acts) o.items ⊎ HasEnd o.items → IsPlay t (call_of p o.agent (second_of start)) start (asks_by o.agent acts) (found_of t p (second_of start) events o.agent)
    by (inl play) = subst (IsPlay t (call_of p o.agent (second_of start)) start (asks_by o.agent acts)) same play
    by (inr end) = absurd (no_end (found_of t p (second_of start) events o.agent) (found_below t p o.agent (second_of start) events few) (subst HasEnd same end))

own_plays : (t : Network) (p : ℕ) (start : Option ℕ) (acts : List Act) (events : List Event) (owns : List Own) (a : ℕ) → length events ≤ no_place → All (IsKept t p start acts) owns
    → All AreSame (map (own_pair t p (second_of start) events) owns) → HasOwn owns a → IsPlay t (call_of p a (second_of start)) start (asks_by a acts) (found_of t p (second_of start) events a)
own_plays t p start acts events owns a few kept each h =
    let f = own_pair t p (second_of start) events in
    let inside : h.at < length (map f owns) = subst (λ k. h.at < k) (sym (length-map owns f)) h.within in
    let at : AreSame (get_or (map f owns) h.at (f h.own)) = All-get_or AreSame (map f owns) h.at (f h.own) inside each in
    let own : AreSame (f h.own) = subst AreSame (get_or-map f owns h.at h.own (f h.own) h.within ∙ ap f (sym h.is)) at in
    let one : IsKept t p start acts h.own = subst (IsKept t p start acts) (sym h.is) (All-get_or (IsKept t p start acts) owns h.at h.own h.within kept) in
    subst (λ k. IsPlay t (call_of p k (second_of start)) start (asks_by k acts) (found_of t p (second_of start) events k)) h.of (play_of t p start acts events h.own few one own)

raced_by : (t : Network) (p : ℕ) (start : Option ℕ) (acts : List Act) (events : List Event) (owns : List Own) (n : ℕ) → IsHistory (setting_of t p) (own_stp t p) events
    → (journal_of events).synced ≡ length (journal_of events).entries → AreKept t p start acts owns → n ≡ committed_of (state_gone t p blank events).records
    → first_ticks p start ≡ ticks t p blank 0 events → All AreSame (map (own_pair t p (second_of start) events) owns)
    → All AreSame (pair [] (strays t p blank 0 events) ∷ pair [] (waits p (length events) (state_gone t p blank events)) ∷ []) → IsRaced t p start acts events n
raced_by t p start acts events owns n history synced kept committed first each last = record {
  history = history;
  safe = allowed_safe (setting_of t p) (own_stp t p) [] (happenings events) (All-nil IsPrintableEntry) history.run.allowed;
  capped = capped_gone t p events history;
  synced = synced;
  begins = sym first;
  plays = λ a within caller. own_plays t p start acts events owns a (few_events (setting_of t p) (own_stp t p) events history) kept.each each (kept.has a within caller);
  owned = sym (All-head AreSame (pair [] (strays t p blank 0 events)) (pair [] (waits p (length events) (state_gone t p blank events)) ∷ []) last);
  idle = none_waits p (length events) (state_gone t p blank events).now (waiting_work (state_gone t p blank events))
      (All-head AreSame (pair [] (waits p (length events) (state_gone t p blank events))) [] (All-tail AreSame (pair [] (strays t p blank 0 events)) (pair [] (waits p (length events) (state_gone t p blank events)) ∷ []) last));
  committed = committed;
}

pub raced_of : (t : Network) (p : ℕ) (start : Option ℕ) (acts : List Act) (events : List Event) (owns : List Own) (n : ℕ) → IsHistory (setting_of t p) (own_stp t p) events
    → (journal_of events).synced ≡ length (journal_of events).entries → AreKept t p start acts owns → IsSame t p start events owns n → IsRaced t p start acts events n
raced_of t p start acts events owns n history synced kept same =
    let owned = map (own_pair t p (second_of start) events) owns in
    let last = pair [] (strays t p blank 0 events) ∷ pair [] (waits p (length events) (state_gone t p blank events)) ∷ [] in
    let rest = All-tail AreSame (pair (first_ticks p start) (ticks t p blank 0 events)) (owned ++ last) same.same in
    raced_by t p start acts events owns n history synced kept same.committed (All-head AreSame (pair (first_ticks p start) (ticks t p blank 0 events)) (owned ++ last) same.same)
    (all_left AreSame owned last rest) (all_right AreSame owned last rest)

---- Where all is the same, nothing differs

first_differs : (kept found : List Item) (d : Difference) → kept ≡ found → IsFirst kept found d → ⊥
first_differs kept found d same h = h.differs (ap (λ (l : List Item). slice_get l h.at) same)

never_first : (pairs : List Pair) (d : Difference) → All AreSame pairs → IsFirstOf pairs d → ⊥
never_first [] d same h = h
never_first (x ∷ xs) d same (inl h) = first_differs x.kept x.found d (All-head AreSame x xs same) h
never_first (x ∷ xs) d same (inr h) = never_first xs d (All-tail AreSame x xs same) h.1

pub differed : (t : Network) (p : ℕ) (start : Option ℕ) (acts : List Act) (events : List Event) (owns : List Own) (d : Difference) → IsHistory (setting_of t p) (own_stp t p) events
    → AreKept t p start acts owns → (AreOfOne acts → AllSame t p start events owns) → IsDifferent t p start events owns d → HasDiffered t p start acts d
differed t p start acts events owns d history kept same different = record {
  events = events;
  owns = owns;
  history = history;
  kept = kept;
  first = different.first;
  told = different.told;
  several = λ one. never_first (pairs_of t p start events owns) d (same one) different.first;
}

---- Lines

lines_from : (t : Network) (p : ℕ) (set : Setting) (f : List ℕ → Option ℕ) (j : Journal) (xs : List Event) → p < length t.agents → All (IsOf p) xs → AreAllowed set f j (happenings xs) → All (HasLine t) xs
lines_from t p set f j [] within own allowed = All-nil (HasLine t)
lines_from t p set f j (x ∷ xs) within own allowed =
    All-cons (HasLine t) x xs (record { agent = subst (λ n. n < length t.agents) (sym (All-head (IsOf p) x xs own)) within; printable = by x.what allowed.0 })
    (lines_from t p set f (happens j x.what) xs within (All-tail (IsOf p) x xs own) allowed.1)
  where
    no_ask : (input : Input) → is_for_provider input ≡ true → is_ask input ≡ false
    no_ask (Input.Ask n ask) h = absurd (true≢false (sym h))
    no_ask (Input.Got m) h = refl
    no_ask (Input.Work n machine) h = refl
    no_ask Input.Tick h = refl
    no_ask (Input.Force n) h = refl
    no_ask (Input.Acked i) h = refl

    by : (w : Happening) → IsAllowed set f j w → IsPrintableHappening w
    by (Happening.Entry e answer) k = record {
      entry = k.0.printable;
      answered = (λ h. absurd (true≢false (sym h ∙ no_ask e.input k.0.own)), λ h. absurd (no_answer answer k.1 h));
    }
      where
        no_answer : (answer : Option AskAnswer) → answer ≡ None → IsSome answer → ⊥
        no_answer None q h = true≢false (sym h)
        no_answer (Some x) q h = absurd (cc)
    by (Happening.Sync count) k = tt
    by (Happening.Restart count) k = tt

pub lines_of : (t : Network) (p : ℕ) (events : List Event) → p < length t.agents → IsHistory (setting_of t p) (own_stp t p) events → All (HasLine t) events
lines_of t p events within h = lines_from t p (setting_of t p) (own_stp t p) (all_synced []) events within h.own h.run.allowed

---- A book that comes out of the lock

pub history_here : (t : Network) (p : ℕ) (x : Held) → IsBook x → x.book.agent ≡ p → IsHistory (setting_of t p) (own_stp t p) x.book.events
history_here t p x h is = history_alike (setting_of x.book.network x.book.agent) (setting_of t p) (own_stp x.book.network x.book.agent) (own_stp t p) x.book.events is h.history

pub may_here : (t : Network) (p : ℕ) (x : Held) → IsBook x → x.book.agent ≡ p → MayAll t p blank x.book.events
may_here t p x h is = may_all t p x.book.events (history_here t p x h is)

pub kept_agents : (t : Network) (p : ℕ) (start : Option ℕ) (acts : List Act) (owns : List Own) → AreKept t p start acts owns → All (λ (o : Own). o.agent < length t.agents) owns
kept_agents t p start acts owns h = All-weaker (IsKept t p start acts) (λ (o : Own). o.agent < length t.agents) (λ o k. k.agent) owns h.each

pub kept_stand : (t : Network) (p : ℕ) (start : Option ℕ) (acts : List Act) (owns : List Own) → AreKept t p start acts owns → All (λ (o : Own). AllStand t o.items) owns
kept_stand t p start acts owns h = All-weaker (IsKept t p start acts) (λ (o : Own). AllStand t o.items) (λ o k. k.stand) owns h.each

pub shut_counts : (x : Held) → IsBook x → 0 < x.book.faults → 0 < counted x.meter
shut_counts x h shut = by h.fault
  where
    by : ((x.book.faults ≡ 0) × (counted x.meter ≡ 0)) ⊎ ((x.book.faults ≡ 1) × (0 < counted x.meter)) → 0 < counted x.meter
    by (inl e) = absurd (omega (arith, e.0, shut))
    by (inr k) = k.1

---- Faults

pub book_broken : (asked : Option Entry) (old new : Held) (fault : BookFault) → old.book.faults ≡ 0 → Fails asked old new fault → IsBroken new.meter (cause_of fault)
book_broken asked old new (BookFault.DiskFault n) none h = let c = h.counts in omega (arith, c)
book_broken asked old new (BookFault.Closed n) none h = let c = h.was_closed in absurd (omega (arith, c, none))
book_broken asked old new BookFault.Full none h = tt
book_broken asked old new BookFault.NoMemory none h = tt

pub start_broken : (old new : Meter) (cause : StartCause) → StartsFor old new None cause → IsBroken new (start_cause_of cause)
start_broken old new StartCause.DiskFault h = let c = h.fault refl in omega (arith, c)
start_broken old new StartCause.Stopped h = let c = h.stopped refl in omega (arith, c)
start_broken old new (StartCause.NotAJournal place) h = tt
start_broken old new StartCause.NoMemory h = tt

pub broken_fault : (t : Network) (p : ℕ) (start : Option ℕ) (acts : List Act) (meter : Meter) (cause : RaceCause) → IsBroken meter cause → HasFault t p start acts meter cause
broken_fault t p start acts meter (RaceCause.Differ d) h = absurd h
broken_fault t p start acts meter RaceCause.DiskFault h = h
broken_fault t p start acts meter RaceCause.NoMemory h = tt

-- Every run of a provider over entries, syncs and restarts is safe, in each cut of each of its journals.
use Rattle.std.proofs.Common.{◌≡◌, ◌≤◌, ◌<◌, ◌+◌, ◌∙◌, ℕ, Bool, true, false, ◌&&◌, nat_lt, List, [], ◌∷◌, ◌++◌, Option, arith, refl, sym, ap, subst, length, length-append, take, drop, take-append-drop, le_refl, le_trans}
use Rattle.std.specs.List.{All}
use Rattle.std.proofs.lemmas.Bool.{lt-ltb, and_from}
use Rattle.std.proofs.lemmas.List.{take-take, take-append-le, length-take-le}
use Rattle.std.proofs.lemmas.List.Elements.{All-head, All-tail, All-push, All-take}
use Rattle.nsi_primitive.specs.Printable.{IsPrintableEntry}
use Rattle.nsi_primitive.specs.declared.entry.Entry.{Entry}
use Rattle.nsi_primitive.specs.declared.entry.Happening.{Happening}
use Rattle.provider_agent.specs.Setting.{Setting}
use Rattle.provider_agent.specs.State.{State, Stepped, blank}
use Rattle.agent_state.specs.Entries.{is_on_time, most_entries}
use Rattle.provider_agent.specs.Steps.{is_for_provider, may_take, after, after_if}
use Rattle.provider_agent.specs.Runs.{after_all}
use Rattle.provider_agent.specs.Safety.{Keeps}
use Rattle.provider_agent.specs.Events.{all_synced, synced_part, happens, journal_after}
use Rattle.provider_agent.specs.Cuts.{Journal, IsCut, cut}
use Rattle.provider_agent.specs.AgentRuns.{MayEnter, IsAllowed, AreAllowed, IsAgentRun, AreSafe, StaysCaused}
use Rattle.provider_agent.specs.Replay.{replay, replayed, AreFirstOf}
use Rattle.provider_agent.specs.Good.{IsGood}
use Rattle.provider_agent.proofs.Counting.{step_taken}
use Rattle.provider_agent.proofs.GoodAfter.{good_after, good_blank}
use Rattle.provider_agent.proofs.HonestAfter.{honest_after}
use Rattle.provider_agent.proofs.KeepsAfter.{keeps_after_all}
use Rattle.provider_agent.proofs.RunsSafe.{after_all_append, after_all_out}

---- Replay

good_after_all : (setting : Setting) (stp_of : List ℕ → Option ℕ) (s : State) (es : List Entry) → IsGood setting s → All IsPrintableEntry es → IsGood setting (after_all setting stp_of s es).state
unfolding after_all
good_after_all setting stp_of s [] g p = g
good_after_all setting stp_of s (e ∷ es) g p =
    good_after_all setting stp_of (after setting stp_of s e).state es (good_after setting stp_of s e g (All-head IsPrintableEntry e es p)) (All-tail IsPrintableEntry e es p)

-- what a journal makes is good, also where entries in it are left out
pub good_replayed : (setting : Setting) (stp_of : List ℕ → Option ℕ) (es : List Entry) → All IsPrintableEntry es → IsGood setting (replayed setting stp_of es)
good_replayed setting stp_of es p = good_after_all setting stp_of blank es (good_blank setting) p

taken_one : (setting : Setting) (stp_of : List ℕ → Option ℕ) (s : State) (e : Entry) → (after setting stp_of s e).state.taken ≤ s.taken + 1
unfolding after
taken_one setting stp_of s e = by_may (may_take s e)
  where
    by_may : (b : Bool) → (after_if b setting stp_of s e).state.taken ≤ s.taken + 1
    by_may false = omega arith
    by_may true = omega (arith, step_taken e.input e.second setting stp_of s)

taken_among : (setting : Setting) (stp_of : List ℕ → Option ℕ) (s : State) (es : List Entry) → (after_all setting stp_of s es).state.taken ≤ s.taken + length es
unfolding after_all
taken_among setting stp_of s [] = omega arith
taken_among setting stp_of s (e ∷ es) = omega (arith, taken_one setting stp_of s e, taken_among setting stp_of (after setting stp_of s e).state es)

-- An entry that may be entered is taken.
pub may_enter : (setting : Setting) (stp_of : List ℕ → Option ℕ) (j : Journal) (e : Entry) → MayEnter setting stp_of j e → may_take (replayed setting stp_of j.entries) e ≡ true
may_enter setting stp_of j e h =
    let s : State = replayed setting stp_of j.entries in
    let few : s.taken < most_entries = omega (arith, taken_among setting stp_of blank j.entries, h.room) in
    and_from (nat_lt s.taken most_entries) (is_for_provider e.input && is_on_time e.input e.second s.now) (lt-ltb s.taken most_entries few)
    (and_from (is_for_provider e.input) (is_on_time e.input e.second s.now) h.own h.on_time)

-- An entry that no provider takes is left out.
pub left_out : (setting : Setting) (stp_of : List ℕ → Option ℕ) (s : State) (front back : List Entry) (e : Entry) → may_take (after_all setting stp_of s front).state e ≡ false
    → after_all setting stp_of s (front ++ e ∷ back) ≡ after_all setting stp_of s (front ++ back)
unfolding after_all after
left_out setting stp_of s [] back e unfit = ap (λ b. then_rest (after_if b setting stp_of s e)) unfit
  where
    then_rest : Stepped → Stepped
    then_rest x = record { state = (after_all setting stp_of x.state back).state; out = x.out ++ (after_all setting stp_of x.state back).out }
left_out setting stp_of s (x ∷ front) back e unfit =
    let next : Stepped = after setting stp_of s x in
    ap (λ (y : Stepped). record { state = y.state; out = next.out ++ y.out }) (left_out setting stp_of next.state front back e unfit)

---- Journals

-- what is true of a journal in every state of a run
pub record IsSound (j : Journal) : Type 0 where
  pub within : j.synced ≤ length j.entries
  pub printable : All IsPrintableEntry j.entries

pub sound_synced : (es : List Entry) → All IsPrintableEntry es → IsSound (all_synced es)
sound_synced es p = record { within = le_refl (length es); printable = p }

happens_sound : (setting : Setting) (stp_of : List ℕ → Option ℕ) (j : Journal) (x : Happening) → IsSound j → IsAllowed setting stp_of j x → IsSound (happens j x)
happens_sound setting stp_of j (Happening.Entry e answer) h ok = record { within = omega (arith, length-append j.entries (e ∷ []), h.within); printable = All-push IsPrintableEntry j.entries e h.printable ok.0.printable }
happens_sound setting stp_of j (Happening.Sync count) h ok = record { within = omega (arith, ok); printable = h.printable }
happens_sound setting stp_of j (Happening.Restart count) h ok = sound_synced (cut j count) (All-take IsPrintableEntry count j.entries h.printable)

-- a sound journal behind which what is left is allowed
pub record IsUnderWay (setting : Setting) (stp_of : List ℕ → Option ℕ) (j : Journal) (rest : List Happening) : Type 0 where
  pub sound : IsSound j
  pub allowed : AreAllowed setting stp_of j rest

pub under_way : (setting : Setting) (stp_of : List ℕ → Option ℕ) (j : Journal) (front back : List Happening) → IsSound j → AreAllowed setting stp_of j (front ++ back) → IsUnderWay setting stp_of (journal_after j front) back
unfolding journal_after
under_way setting stp_of j [] back h a = record { sound = h; allowed = a }
under_way setting stp_of j (x ∷ front) back h a = under_way setting stp_of (happens j x) front back (happens_sound setting stp_of j x h a.0) a.1

-- what is synced in one journal is a front of each cut of the other
record IsBehind (j later : Journal) : Type 0 where
  most : j.synced ≤ later.synced
  front : take j.synced later.entries ≡ take j.synced j.entries

happens_behind : (setting : Setting) (stp_of : List ℕ → Option ℕ) (j : Journal) (x : Happening) → IsSound j → IsAllowed setting stp_of j x → IsBehind j (happens j x)
happens_behind setting stp_of j (Happening.Entry e answer) h ok = record { most = le_refl j.synced; front = take-append-le j.synced j.entries (e ∷ []) h.within }
happens_behind setting stp_of j (Happening.Sync count) h ok = record { most = omega (arith, ok, h.within); front = refl }
happens_behind setting stp_of j (Happening.Restart count) h ok = record {
  most = omega (arith, ok.synced, length-take-le count j.entries ok.within);
  front = take-take j.synced count j.entries ok.synced;
}

behind_behind : (a b c : Journal) → IsBehind a b → IsBehind b c → IsBehind a c
behind_behind a b c p q = record {
  most = le_trans p.most q.most;
  front = sym (take-take a.synced b.synced c.entries p.most) ∙ (ap (take a.synced) q.front ∙ (take-take a.synced b.synced b.entries p.most ∙ p.front));
}

behind_after : (setting : Setting) (stp_of : List ℕ → Option ℕ) (j : Journal) (events : List Happening) → IsSound j → AreAllowed setting stp_of j events → IsBehind j (journal_after j events)
unfolding journal_after
behind_after setting stp_of j [] h a = record { most = le_refl j.synced; front = refl }
behind_after setting stp_of j (x ∷ xs) h a =
    behind_behind j (happens j x) (journal_after (happens j x) xs) (happens_behind setting stp_of j x h a.0) (behind_after setting stp_of (happens j x) xs (happens_sound setting stp_of j x h a.0) a.1)

front_allowed : (setting : Setting) (stp_of : List ℕ → Option ℕ) (j : Journal) (front back : List Happening) → AreAllowed setting stp_of j (front ++ back) → AreAllowed setting stp_of j front
front_allowed setting stp_of j [] back a = tt
front_allowed setting stp_of j (x ∷ front) back a = (a.0, front_allowed setting stp_of (happens j x) front back a.1)

pub journal_after_append : (j : Journal) (front back : List Happening) → journal_after j (front ++ back) ≡ journal_after (journal_after j front) back
unfolding journal_after
journal_after_append j [] back = refl
journal_after_append j (x ∷ front) back = journal_after_append (happens j x) front back

---- Cuts

good_cut : (setting : Setting) (stp_of : List ℕ → Option ℕ) (j : Journal) (k : ℕ) → IsSound j → IsGood setting (replayed setting stp_of (cut j k))
good_cut setting stp_of j k h = good_replayed setting stp_of (cut j k) (All-take IsPrintableEntry k j.entries h.printable)

-- what was synced earlier is the front of a later cut
front_of_cut : (j later : Journal) (k : ℕ) → IsBehind j later → IsCut later k → synced_part j ++ drop j.synced (cut later k) ≡ cut later k
front_of_cut j later k b c =
    let front : take j.synced (cut later k) ≡ synced_part j = take-take j.synced k later.entries (le_trans b.most c.synced) ∙ b.front in
    ap (λ (es : List Entry). es ++ drop j.synced (cut later k)) (sym front) ∙ take-append-drop j.synced (cut later k)

keeps_front : (setting : Setting) (stp_of : List ℕ → Option ℕ) (front back whole : List Entry) → front ++ back ≡ whole → Keeps (replayed setting stp_of front) (replayed setting stp_of whole)
keeps_front setting stp_of front back whole e =
    subst (λ x. Keeps (replayed setting stp_of front) x) (sym (after_all_append setting stp_of blank front back) ∙ ap (replayed setting stp_of) e) (keeps_after_all setting stp_of (replayed setting stp_of front) back)

causes_front : (setting : Setting) (stp_of : List ℕ → Option ℕ) (front back whole : List Entry) → front ++ back ≡ whole → AreFirstOf (replay setting stp_of front).out (replay setting stp_of whole).out
causes_front setting stp_of front back whole e =
    ((after_all setting stp_of (replayed setting stp_of front) back).out, ap (λ (es : List Entry). (replay setting stp_of es).out) (sym e) ∙ after_all_out setting stp_of blank front back)

-- two moments of a run, and a cut of the later one
two_moments : (setting : Setting) (stp_of : List ℕ → Option ℕ) (start : Journal) (events earlier middle later : List Happening) → IsSound start → AreAllowed setting stp_of start events → events ≡ earlier ++ (middle ++ later)
    → IsBehind (journal_after start earlier) (journal_after start (earlier ++ middle))
two_moments setting stp_of start events earlier middle later h a e =
    let j : Journal = journal_after start earlier in
    let here = under_way setting stp_of start earlier (middle ++ later) h (subst (λ (xs : List Happening). AreAllowed setting stp_of start xs) e a) in
    subst (λ (x : Journal). IsBehind j x) (sym (journal_after_append start earlier middle)) (behind_after setting stp_of j middle here.sound (front_allowed setting stp_of j middle later here.allowed))

-- Every run from a sound journal is safe.
pub events_safe : (setting : Setting) (stp_of : List ℕ → Option ℕ) (start : Journal) (events : List Happening) → IsSound start → AreAllowed setting stp_of start events → AreSafe setting stp_of start events
events_safe setting stp_of start events h a = record {
  capped = λ earlier later e k c. (good_cut setting stp_of (journal_after start earlier) k (way earlier later e).sound).capped;
  rising = λ earlier later e k c n r at. ((good_cut setting stp_of (journal_after start earlier) k (way earlier later e).sound).records n r at).rising;
  keeps = λ earlier middle later e k c.
      let j : Journal = journal_after start earlier in
      let now : Journal = journal_after start (earlier ++ middle) in
      keeps_front setting stp_of (synced_part j) (drop j.synced (cut now k)) (cut now k) (front_of_cut j now k (two_moments setting stp_of start events earlier middle later h a e) c);
  honest = λ earlier later x answer e.
      let j : Journal = journal_after start earlier in
      let here = way earlier (Happening.Entry x answer ∷ later) e in
      honest_after setting stp_of (replayed setting stp_of j.entries) x (good_replayed setting stp_of j.entries here.sound.printable) (may_enter setting stp_of j x here.allowed.0.0);
}
  where
    way : (earlier later : List Happening) → events ≡ earlier ++ later → IsUnderWay setting stp_of (journal_after start earlier) later
    way earlier later e = under_way setting stp_of start earlier later h (subst (λ (xs : List Happening). AreAllowed setting stp_of start xs) e a)

-- Every agent run is safe.
pub agent_run_safe : (setting : Setting) (stp_of : List ℕ → Option ℕ) (stated : List Entry) (events : List Happening) → IsAgentRun setting stp_of stated events → AreSafe setting stp_of (all_synced stated) events
agent_run_safe setting stp_of stated events run = events_safe setting stp_of (all_synced stated) events (sound_synced stated run.printable) run.allowed

pub allowed_safe : (setting : Setting) (stp_of : List ℕ → Option ℕ) (stated : List Entry) (events : List Happening) → All IsPrintableEntry stated → AreAllowed setting stp_of (all_synced stated) events → AreSafe setting stp_of (all_synced stated) events
allowed_safe setting stp_of stated events p a = events_safe setting stp_of (all_synced stated) events (sound_synced stated p) a

-- What synced entries cause, every later cut causes first.
pub stays_caused : (setting : Setting) (stp_of : List ℕ → Option ℕ) (stated : List Entry) (events : List Happening) → All IsPrintableEntry stated → AreAllowed setting stp_of (all_synced stated) events → StaysCaused setting stp_of (all_synced stated) events
stays_caused setting stp_of stated events p a = λ earlier middle later e k c.
    let start : Journal = all_synced stated in
    let j : Journal = journal_after start earlier in
    let now : Journal = journal_after start (earlier ++ middle) in
    causes_front setting stp_of (synced_part j) (drop j.synced (cut now k)) (cut now k) (front_of_cut j now k (two_moments setting stp_of start events earlier middle later (sound_synced stated p) a e) c)

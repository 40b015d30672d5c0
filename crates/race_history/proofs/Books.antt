-- What is true of a history whatever the network of its book.
use Rattle.std.proofs.Common.{◌≡◌, ◌≤◌, ℕ, ◌+◌, ◌*◌, List, [], ◌∷◌, length, Bool, true, false, All, Option, refl, sym, ap, ◌∙◌, subst, arith, length-append}
use Rattle.std.proofs.lemmas.List.{length-map}
use Rattle.std.specs.Prelude.{◌&&◌, nat_lt, if◌then◌else◌}
use Rattle.nsi_primitive.specs.Messages.{is_request}
use Rattle.nsi_primitive.specs.declared.entry.Entry.{Entry}
use Rattle.nsi_primitive.specs.declared.entry.Event.{Event}
use Rattle.nsi_primitive.specs.declared.entry.Happening.{Happening}
use Rattle.nsi_primitive.specs.declared.entry.Input.{Input}
use Rattle.nsi_primitive.specs.declared.message.Message.{Message}
use Rattle.nsi_primitive.specs.declared.state.Machine.{Machine}
use Rattle.message_retry.specs.Taken.{is_taken}
use Rattle.agent_state.specs.Entries.{is_on_time, most_entries}
use Rattle.stp_topology.specs.declared.network.Network.{Network}
use Rattle.provider_agent.specs.Setting.{Setting, setting_of, own_stp}
use Rattle.provider_agent.specs.State.{State, Stepped, blank}
use Rattle.provider_agent.specs.Steps.{step, receives, works, forces, ticks, is_waiting, is_forcible, is_for_provider, may_take, after}
use Rattle.provider_agent.specs.Runs.{after_all}
use Rattle.provider_agent.specs.Events.{all_synced, happens}
use Rattle.provider_agent.specs.Cuts.{Journal}
use Rattle.provider_agent.specs.AgentRuns.{MayEnter, IsAllowed, AreAllowed}
use Rattle.provider_agent.specs.Replay.{replayed}
use Rattle.provider_agent.specs.Good.{IsGood}
use Rattle.provider_agent.specs.Safety.{IsCapped}
use Rattle.provider_agent.proofs.GoodAfter.{good_after, good_blank}
use Rattle.provider_agent.proofs.Counting.{taken_is, step_taken}
use Rattle.provider_agent.proofs.Entering.{after_unfit, replayed_one}
use Rattle.provider_agent.proofs.EventsSafe.{may_enter}
use Rattle.shared_provider.specs.History.{what_of, IsHistory, IsOf, IsInTurn, AreInTurn, happenings}
use Rattle.race_run.specs.Found.{after_at, is_tick, state_by, state_gone}
use Rattle.race_run.specs.Replay.{MayBeAt, MayAll}

---- The clock is the history's alone

received_now : (is_request is_taken : Bool) (setting : Setting) (stp_of : List ℕ → Option ℕ) (s : State) (m : Message) → (receives is_request is_taken setting stp_of s m).state.now ≡ s.now
unfolding receives
received_now is_request is_taken setting stp_of s m = grind arith

worked_now : (is_waiting : Bool) (setting : Setting) (s : State) (n : ℕ) (machine : Machine) → (works is_waiting setting s n machine).state.now ≡ s.now
unfolding works
worked_now is_waiting setting s n machine = grind arith

forced_now : (is_forcible : Bool) (setting : Setting) (s : State) (n : ℕ) → (forces is_forcible setting s n).state.now ≡ s.now
unfolding forces
forced_now is_forcible setting s n = grind arith

ticked_now : (setting : Setting) (now : ℕ) (s : State) → (ticks setting now s).state.now ≡ now
unfolding ticks
ticked_now setting now s = refl

step_now : (input : Input) (second : ℕ) (setting : Setting) (stp_of : List ℕ → Option ℕ) (s : State) → (step input second setting stp_of s).state.now ≡ (if is_tick input then second else s.now)
unfolding step
step_now (Input.Got m) second setting stp_of s = received_now (is_request m.body) (is_taken m.header s.seen) setting stp_of s m
step_now (Input.Work n machine) second setting stp_of s = worked_now (is_waiting s n machine) setting s n machine
step_now (Input.Force n) second setting stp_of s = forced_now (is_forcible s n) setting s n
step_now Input.Tick second setting stp_of s = ticked_now setting second s
step_now (Input.Acked i) second setting stp_of s = refl
step_now (Input.Ask n ask) second setting stp_of s = refl

-- two states of one second, behind as many entries
record AreAlike (s u : State) : Type 0 where
  pub now : s.now ≡ u.now
  pub taken : s.taken ≡ u.taken

taken_now : (set : Setting) (f : List ℕ → Option ℕ) (s : State) (e : Entry) → may_take s e ≡ true → (after set f s e).state.now ≡ (if is_tick e.input then e.second else s.now)
taken_now set f s e may = ap (λ (x : Stepped). x.state.now) (taken_is set f s e may) ∙ step_now e.input e.second set f s

taken_one : (set : Setting) (f : List ℕ → Option ℕ) (s : State) (e : Entry) → may_take s e ≡ true → (after set f s e).state.taken ≡ s.taken + 1
taken_one set f s e may = ap (λ (x : Stepped). x.state.taken) (taken_is set f s e may) ∙ ap (λ n. n + 1) (step_taken e.input e.second set f s)

one_alike : (set one : Setting) (f g : List ℕ → Option ℕ) (s u : State) (e : Entry) → AreAlike s u → AreAlike (after set f s e).state (after one g u e).state
one_alike set one f g s u e h = go (may_take s e) refl
  where
    same : may_take s e ≡ may_take u e
    same = λ i. nat_lt (h.taken i) most_entries && (is_for_provider e.input && is_on_time e.input e.second (h.now i))

    go : (b : Bool) → may_take s e ≡ b → AreAlike (after set f s e).state (after one g u e).state
    go true may = record {
      now = taken_now set f s e may ∙ ap (λ n. if is_tick e.input then e.second else n) h.now ∙ sym (taken_now one g u e (sym same ∙ may));
      taken = taken_one set f s e may ∙ ap (λ n. n + 1) h.taken ∙ sym (taken_one one g u e (sym same ∙ may));
    }
    go false may = record {
      now = ap (λ (x : Stepped). x.state.now) (after_unfit set f s e may) ∙ h.now ∙ sym (ap (λ (x : Stepped). x.state.now) (after_unfit one g u e (sym same ∙ may)));
      taken = ap (λ (x : Stepped). x.state.taken) (after_unfit set f s e may) ∙ h.taken ∙ sym (ap (λ (x : Stepped). x.state.taken) (after_unfit one g u e (sym same ∙ may)));
    }

all_alike : (set one : Setting) (f g : List ℕ → Option ℕ) (es : List Entry) (s u : State) → AreAlike s u → AreAlike (after_all set f s es).state (after_all one g u es).state
unfolding after_all
all_alike set one f g [] s u h = h
all_alike set one f g (e ∷ es) s u h = all_alike set one f g es (after set f s e).state (after one g u e).state (one_alike set one f g s u e h)

replayed_alike : (set one : Setting) (f g : List ℕ → Option ℕ) (es : List Entry) → (replayed set f es).now ≡ (replayed one g es).now
replayed_alike set one f g es = (all_alike set one f g es blank blank (record { now = refl; taken = refl })).now

---- A history of one network's provider is one of any other's

enters_alike : (set one : Setting) (f g : List ℕ → Option ℕ) (j : Journal) (e : Entry) → MayEnter set f j e → MayEnter one g j e
enters_alike set one f g j e m = record {
  room = m.room;
  printable = m.printable;
  own = m.own;
  on_time = ap (is_on_time e.input e.second) (replayed_alike one set g f j.entries) ∙ m.on_time;
}

allowed_one : (set one : Setting) (f g : List ℕ → Option ℕ) (j : Journal) (x : Happening) → IsAllowed set f j x → IsAllowed one g j x
allowed_one set one f g j (Happening.Entry e answer) m = (enters_alike set one f g j e m.0, m.1)
allowed_one set one f g j (Happening.Sync count) m = m
allowed_one set one f g j (Happening.Restart count) m = m

allowed_alike : (set one : Setting) (f g : List ℕ → Option ℕ) (j : Journal) (xs : List Happening) → AreAllowed set f j xs → AreAllowed one g j xs
allowed_alike set one f g j [] m = tt
allowed_alike set one f g j (x ∷ xs) m = (allowed_one set one f g j x m.0, allowed_alike set one f g (happens j x) xs m.1)

pub history_alike : (set one : Setting) (f g : List ℕ → Option ℕ) (events : List Event) → set.number ≡ one.number → IsHistory set f events → IsHistory one g events
history_alike set one f g events number h = record {
  own = subst (λ n. All (IsOf n) events) number h.own;
  run = record { printable = h.run.printable; allowed = allowed_alike set one f g (all_synced []) (happenings events) h.run.allowed; inputs = h.run.inputs };
  in_turn = h.in_turn;
}

---- Its entries may be taken again

may_from : (t : Network) (p : ℕ) (j : Journal) (xs : List Event) (s : State) → AreAllowed (setting_of t p) (own_stp t p) j (happenings xs) → AreInTurn j (happenings xs) → s ≡ replayed (setting_of t p) (own_stp t p) j.entries → MayAll t p s xs
unfolding MayAll
may_from t p j [] s a i is = tt
may_from t p j (x ∷ xs) s a i is = (here x.what a.0, may_from t p (happens j x.what) xs (state_by t p s x.what) a.1 i.1 (behind x.what i.0))
  where
    here : (w : Happening) → IsAllowed (setting_of t p) (own_stp t p) j w → MayBeAt s w
    here (Happening.Entry e answer) m = (subst (λ (u : State). may_take u e ≡ true) (sym is) (may_enter (setting_of t p) (own_stp t p) j e m.0), m.0.printable)
    here (Happening.Sync count) m = tt
    here (Happening.Restart count) m = tt

    behind : (w : Happening) → IsInTurn j w → state_by t p s w ≡ replayed (setting_of t p) (own_stp t p) (happens j w).entries
    behind (Happening.Entry e answer) m = ap (λ (u : State). (after_at t p u e).state) is ∙ sym (replayed_one (setting_of t p) (own_stp t p) j.entries e)
    behind (Happening.Sync count) m = is
    behind (Happening.Restart count) m = absurd m

replayed_nothing : (t : Network) (p : ℕ) → blank ≡ replayed (setting_of t p) (own_stp t p) []
unfolding after_all
replayed_nothing t p = refl

pub may_all : (t : Network) (p : ℕ) (events : List Event) → IsHistory (setting_of t p) (own_stp t p) events → MayAll t p blank events
may_all t p events h = may_from t p (all_synced []) events blank h.run.allowed h.in_turn (replayed_nothing t p)

---- No load passes a capacity behind it

good_by : (t : Network) (p : ℕ) (s : State) (w : Happening) → IsGood (setting_of t p) s → MayBeAt s w → IsGood (setting_of t p) (state_by t p s w)
good_by t p s (Happening.Entry e answer) g k = good_after (setting_of t p) (own_stp t p) s e g k.1
good_by t p s (Happening.Sync count) g k = g
good_by t p s (Happening.Restart count) g k = g

good_gone : (t : Network) (p : ℕ) (s : State) (xs : List Event) → IsGood (setting_of t p) s → MayAll t p s xs → IsGood (setting_of t p) (state_gone t p s xs)
unfolding MayAll state_gone
good_gone t p s [] g m = g
good_gone t p s (x ∷ xs) g m = good_gone t p (state_by t p s x.what) xs (good_by t p s x.what g m.0) m.1

pub capped_gone : (t : Network) (p : ℕ) (events : List Event) → IsHistory (setting_of t p) (own_stp t p) events → IsCapped (setting_of t p) (state_gone t p blank events)
capped_gone t p events h = (good_gone t p blank events (good_blank (setting_of t p)) (may_all t p events h)).capped

---- It has no event at the place of those who ended early

-- twice as many events as entries, but for one that isn't synced
bounded : (set : Setting) (f : List ℕ → Option ℕ) (j : Journal) (xs : List Happening) → AreAllowed set f j xs → AreInTurn j xs → j.synced ≤ length j.entries → length j.entries ≤ most_entries
    → (length xs + 2 * length j.entries ≤ 2 * most_entries + 1) × (j.synced ≡ length j.entries → length xs + 2 * length j.entries ≤ 2 * most_entries)
bounded set f j [] a i h few = (omega arith, λ e. omega arith)
bounded set f j (x ∷ xs) a i h few = go x a.0 i.0 (bounded set f (happens j x) xs a.1 i.1)
  where
    go : (x : Happening) → IsAllowed set f j x → IsInTurn j x
        → ((happens j x).synced ≤ length (happens j x).entries → length (happens j x).entries ≤ most_entries
        → (length xs + 2 * length (happens j x).entries ≤ 2 * most_entries + 1) × ((happens j x).synced ≡ length (happens j x).entries → length xs + 2 * length (happens j x).entries ≤ 2 * most_entries))
        → (length (x ∷ xs) + 2 * length j.entries ≤ 2 * most_entries + 1) × (j.synced ≡ length j.entries → length (x ∷ xs) + 2 * length j.entries ≤ 2 * most_entries)
    go (Happening.Entry e answer) m t more =
        let l = length-append j.entries (e ∷ []) in
        let room = m.0.room in
        let k = (more (omega (arith, l, h)) (omega (arith, l, room))).0 in
        (omega (arith, l, k), λ e. omega (arith, l, k))
    go (Happening.Sync count) m t more =
        let k = (more (omega (arith, m)) few).1 m in
        (omega (arith, k), λ e. absurd (omega (arith, t, m, e)))
    go (Happening.Restart count) m t more = absurd t

pub few_events : (set : Setting) (f : List ℕ → Option ℕ) (events : List Event) → IsHistory set f events → length events ≤ 8388608
few_events set f events h =
    let b = (bounded set f (all_synced []) (happenings events) h.run.allowed h.in_turn (omega arith) (omega arith)).1 refl in
    let l : length (happenings events) ≡ length events = length-map events what_of in
    omega (arith, l, b)

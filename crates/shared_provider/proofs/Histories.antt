-- A history goes on, and what follows of it.
use Rattle.std.proofs.Common.{◌≡◌, ◌∙◌, ◌≤◌, ◌<◌, ◌+◌, ℕ, Bool, true, ◌&&◌, nat_lt, List, [], ◌∷◌, ◌++◌, Option, None, refl, sym, ap, subst, arith, length, length-append}
use Rattle.std.specs.List.{All}
use Rattle.std.proofs.lemmas.Bool.{and_parts}
use Rattle.std.proofs.lemmas.List.{map-append}
use Rattle.std.proofs.lemmas.List.Elements.{All-push}
use Rattle.nsi_primitive.specs.declared.entry.Entry.{Entry}
use Rattle.nsi_primitive.specs.declared.entry.Event.{Event}
use Rattle.nsi_primitive.specs.declared.entry.Happening.{Happening}
use Rattle.agent_state.specs.Entries.{is_on_time, most_entries}
use Rattle.provider_agent.specs.Setting.{Setting}
use Rattle.provider_agent.specs.State.{State, Stepped, blank}
use Rattle.provider_agent.specs.Steps.{is_for_provider, may_take, after}
use Rattle.provider_agent.specs.Events.{all_synced, happens, journal_after}
use Rattle.provider_agent.specs.Cuts.{Journal}
use Rattle.provider_agent.specs.AgentRuns.{MayEnter, IsAllowed, AreAllowed, IsOfAgentRun}
use Rattle.provider_agent.specs.Replay.{replayed}
use Rattle.provider_agent.proofs.Counting.{taken_is, step_taken}
use Rattle.provider_agent.proofs.EventsSafe.{journal_after_append}
use Rattle.provider_agent.proofs.Entering.{replayed_one, allowed_append}
use Rattle.shared_provider.specs.History.{what_of, happenings, journal_of, IsOf, IsInTurn, AreInTurn, IsHistory}
use Rattle.shared_provider.specs.Book.{enter, sync}
use Rattle.shared_provider.specs.Asked.{MayBeAsked}

happened_more : (events : List Event) (x : Event) → happenings (events ++ x ∷ []) ≡ happenings events ++ x.what ∷ []
happened_more events x = map-append what_of events (x ∷ [])

pub journal_more : (events : List Event) (x : Event) → journal_of (events ++ x ∷ []) ≡ happens (journal_of events) x.what
unfolding journal_after
journal_more events x = ap (journal_after (all_synced [])) (happened_more events x) ∙ journal_after_append (all_synced []) (happenings events) (x.what ∷ [])

in_turn_append : (j : Journal) (front back : List Happening) → AreInTurn j front → AreInTurn (journal_after j front) back → AreInTurn j (front ++ back)
unfolding journal_after
in_turn_append j [] back p q = q
in_turn_append j (x ∷ front) back p q = (p.0, in_turn_append (happens j x) front back p.1 q)

-- one event more
pub record MayFollow (setting : Setting) (stp_of : List ℕ → Option ℕ) (events : List Event) (x : Event) : Type 0 where
  pub own : IsOf setting.number x
  pub allowed : IsAllowed setting stp_of (journal_of events) x.what
  pub input : IsOfAgentRun x.what
  pub in_turn : IsInTurn (journal_of events) x.what

pub history_more : (setting : Setting) (stp_of : List ℕ → Option ℕ) (events : List Event) (x : Event) → IsHistory setting stp_of events → MayFollow setting stp_of events x → IsHistory setting stp_of (events ++ x ∷ [])
history_more setting stp_of events x h may =
    let same = sym (happened_more events x) in
    record {
      own = All-push (IsOf setting.number) events x h.own may.own;
      run = record {
        printable = h.run.printable;
        allowed = subst (λ (xs : List Happening). AreAllowed setting stp_of (all_synced []) xs) same (allowed_append setting stp_of (all_synced []) (happenings events) (x.what ∷ []) h.run.allowed (may.allowed, tt));
        inputs = subst (λ (xs : List Happening). All IsOfAgentRun xs) same (All-push IsOfAgentRun (happenings events) x.what h.run.inputs may.input);
      };
      in_turn = subst (λ (xs : List Happening). AreInTurn (all_synced []) xs) same (in_turn_append (all_synced []) (happenings events) (x.what ∷ []) h.in_turn (may.in_turn, tt));
    }

---- An entry more

-- the state is that of the history, in which all is synced, and there is room
pub record IsAt (setting : Setting) (stp_of : List ℕ → Option ℕ) (events : List Event) (s : State) : Type 0 where
  pub state : s ≡ replayed setting stp_of (journal_of events).entries
  pub taken : s.taken ≡ length (journal_of events).entries
  pub synced : (journal_of events).synced ≡ length (journal_of events).entries
  pub room : s.taken < most_entries

pub entry_may_follow : (setting : Setting) (stp_of : List ℕ → Option ℕ) (events : List Event) (s : State) (e : Entry) → IsAt setting stp_of events s → MayBeAsked s e → MayFollow setting stp_of events (enter setting.number e)
entry_may_follow setting stp_of events s e at may =
    let fits = and_parts (nat_lt s.taken most_entries) (is_for_provider e.input && is_on_time e.input e.second s.now) may.may_take in
    let own = and_parts (is_for_provider e.input) (is_on_time e.input e.second s.now) fits.1 in
    let enters : MayEnter setting stp_of (journal_of events) e = record {
      room = omega (arith, at.taken, at.room);
      printable = may.printable;
      own = own.0;
      on_time = subst (λ (x : State). is_on_time e.input e.second x.now ≡ true) at.state own.1;
    } in
    record { own = refl; allowed = (enters, refl); input = may.own; in_turn = at.synced }

pub state_more : (setting : Setting) (stp_of : List ℕ → Option ℕ) (events : List Event) (s : State) (e : Entry) → s ≡ replayed setting stp_of (journal_of events).entries
    → (after setting stp_of s e).state ≡ replayed setting stp_of (journal_of (events ++ enter setting.number e ∷ [])).entries
state_more setting stp_of events s e is =
    ap (λ (x : State). (after setting stp_of x e).state) is
    ∙ (sym (replayed_one setting stp_of (journal_of events).entries e) ∙ ap (λ (j : Journal). replayed setting stp_of j.entries) (sym (journal_more events (enter setting.number e))))

pub taken_more : (setting : Setting) (stp_of : List ℕ → Option ℕ) (s : State) (e : Entry) → may_take s e ≡ true → (after setting stp_of s e).state.taken ≡ s.taken + 1
taken_more setting stp_of s e may = ap (λ (x : Stepped). x.state.taken) (taken_is setting stp_of s e may) ∙ ap (λ n. n + 1) (step_taken e.input e.second setting stp_of s)

---- A sync more

pub sync_may_follow : (setting : Setting) (stp_of : List ℕ → Option ℕ) (events : List Event) (count : ℕ) → count ≡ length (journal_of events).entries → (journal_of events).synced < count → MayFollow setting stp_of events (sync setting.number count)
sync_may_follow setting stp_of events count all some = record { own = refl; allowed = all; input = tt; in_turn = some }

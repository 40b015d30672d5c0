-- What is true of a book stays true, whatever a call does.
use Rattle.std.proofs.Common.{◌≡◌, ◌∙◌, ◌⊎◌, inl, inr, ⊎_elim, ◌≤◌, ◌<◌, ◌+◌, ℕ, zero, suc, Bool, true, false, List, [], ◌∷◌, ◌++◌, Option, Some, None, Result, Ok, refl, sym, ap, subst, arith, length, length-append, take}
use Rattle.std.specs.Prelude.{IfSome}
use Rattle.std.proofs.lemmas.List.{take_all, append_assoc, take-append-le}
use Rattle.nsi_primitive.specs.declared.entry.Entry.{Entry}
use Rattle.nsi_primitive.specs.declared.entry.Event.{Event}
use Rattle.nsi_disk.specs.Disk.{History, Meter, MayLeave}
use Rattle.nsi_disk.proofs.Moments.{weaker}
use Rattle.journal_entry.specs.Journal.{Kept, MayLeaveSynced}
use Rattle.stp_topology.specs.declared.network.Network.{Network}
use Rattle.provider_agent.specs.Setting.{Setting, setting_of, own_stp}
use Rattle.provider_agent.specs.State.{State}
use Rattle.provider_agent.specs.Steps.{after}
use Rattle.provider_agent.specs.Replay.{replayed}
use Rattle.provider_agent.specs.Safety.{IsCapped}
use Rattle.provider_agent.specs.Good.{IsGood}
use Rattle.provider_agent.specs.Events.{happens, synced_part}
use Rattle.provider_agent.specs.Cuts.{Journal}
use Rattle.shared_provider.specs.History.{journal_of, IsHistory}
use Rattle.shared_provider.specs.Book.{Book, Held, counted, steps, enter, sync, with_entry, entered, closed, IsOpen, IsRead, Recovers, IsBook}
use Rattle.shared_provider.specs.Asked.{MayBeAsked}
use Rattle.shared_provider.specs.Sound.{Keeps, LeavesThese, LeavesOneOf, IsRunning, IsShut, IsSound}
use Rattle.shared_provider.proofs.Kept.{leaves_now}
use Rattle.shared_provider.proofs.Histories.{journal_more, history_more, IsAt, entry_may_follow, sync_may_follow, state_more, taken_more}

-- one of the two, by its count of faults
none_or_some : (n : ℕ) → (n ≡ 0) ⊎ (0 < n)
none_or_some zero = inl refl
none_or_some (suc n) = inr (omega arith)

-- what leaves the synced entries lets the book be read
read_synced : (reading : List ℕ → Result (List Entry) ℕ) (b : Book) (disk : Option History) (es : List Entry) → synced_part (journal_of b.events) ≡ es → LeavesThese reading disk es → Recovers reading b disk
read_synced reading b disk es is left =
    weaker (λ h. (c : List ℕ) → MayLeave h c → reading c ≡ Ok es) (λ h. (c : List ℕ) → MayLeave h c → IsRead reading b c) disk
    (λ h each c may. inl (each c may ∙ ap Ok (sym is))) left

all_synced_part : (j : Journal) → j.synced ≡ length j.entries → synced_part j ≡ j.entries
all_synced_part j all = take_all j.synced j.entries (omega (arith, all))

---- An entry more

-- a history with a state that it makes
record Makes (setting : Setting) (stp_of : List ℕ → Option ℕ) (events : List Event) (state : State) : Type 0 where
  history : IsHistory setting stp_of events
  state_is : state ≡ replayed setting stp_of (journal_of events).entries
  taken : state.taken ≡ length (journal_of events).entries

abbrev the_journal : List Entry → ℕ → Journal
the_journal es synced = record { entries = es; synced = synced }

journal_entered : (agent : ℕ) (events : List Event) (e : Entry) → journal_of (events ++ enter agent e ∷ []) ≡ the_journal ((journal_of events).entries ++ e ∷ []) (journal_of events).synced
journal_entered agent events e = journal_more events (enter agent e)

journal_synced : (agent : ℕ) (events : List Event) (count : ℕ) → journal_of (events ++ sync agent count ∷ []) ≡ the_journal (journal_of events).entries count
journal_synced agent events count = journal_more events (sync agent count)

module _ (setting : Setting) (stp_of : List ℕ → Option ℕ) (events : List Event) (s : State) (e : Entry) (history : IsHistory setting stp_of events) (at : IsAt setting stp_of events s) (may : MayBeAsked s e) where
  abbrev J : Journal
  J = journal_of events

  abbrev E : List Event
  E = events ++ enter setting.number e ∷ []

  in_journal : journal_of E ≡ the_journal (J.entries ++ e ∷ []) J.synced
  in_journal = journal_entered setting.number events e

  makes_entry : Makes setting stp_of E (after setting stp_of s e).state
  makes_entry = record {
    history = history_more setting stp_of events (enter setting.number e) history (entry_may_follow setting stp_of events s e at may);
    state_is = state_more setting stp_of events s e at.state;
    taken = taken_more setting stp_of s e may.may_take ∙ (ap (λ n. n + 1) at.taken ∙ (sym (length-append J.entries (e ∷ [])) ∙ ap (λ (j : Journal). length j.entries) (sym in_journal)));
  }

  part_is : synced_part (journal_of E) ≡ J.entries
  part_is = ap synced_part in_journal ∙ (take-append-le J.synced J.entries (e ∷ []) (omega (arith, at.synced)) ∙ take_all J.synced J.entries (omega (arith, at.synced)))

  all_are : (journal_of E).entries ≡ J.entries ++ e ∷ []
  all_are = ap (λ (j : Journal). j.entries) in_journal

  makes_sync : (count : ℕ) → count ≡ (after setting stp_of s e).state.taken → Makes setting stp_of (E ++ sync setting.number count ∷ []) (after setting stp_of s e).state
  makes_sync count is =
      let all : count ≡ length (journal_of E).entries = is ∙ makes_entry.taken in
      let most : length (journal_of E).entries ≡ length J.entries + 1 = ap length all_are ∙ length-append J.entries (e ∷ []) in
      let few : (journal_of E).synced ≡ J.synced = ap (λ (j : Journal). j.synced) in_journal in
      let same : (journal_of (E ++ sync setting.number count ∷ [])).entries ≡ (journal_of E).entries = ap (λ (j : Journal). j.entries) (journal_synced setting.number E count) in
      record {
        history = history_more setting stp_of E (sync setting.number count) makes_entry.history (sync_may_follow setting stp_of E count all (omega (arith, all, most, few, at.synced)));
        state_is = makes_entry.state_is ∙ ap (replayed setting stp_of) (sym same);
        taken = makes_entry.taken ∙ ap length (sym same);
      }

  entries_then : (count : ℕ) → (journal_of (E ++ sync setting.number count ∷ [])).entries ≡ J.entries ++ e ∷ []
  entries_then count = ap (λ (j : Journal). j.entries) (journal_synced setting.number E count) ∙ all_are

  synced_then : (count : ℕ) → (journal_of (E ++ sync setting.number count ∷ [])).synced ≡ count
  synced_then count = ap (λ (j : Journal). j.synced) (journal_synced setting.number E count)

---- What is true of every book

module _ (ready : Type 0) (waits : Bool) (kept : Option Kept) (disk : Option History) (reading : List ℕ → Result (List Entry) ℕ) (setting : Setting) (x : Held) (s : IsSound ready waits kept disk reading setting x) where
  pub book_facts : IsGood setting x.book.state → IsBook x
  book_facts good = record {
    within = s.within;
    provider = s.provider;
    history = s.history;
    state = s.state;
    taken = s.taken;
    capped = subst (λ (y : Setting). IsCapped y x.book.state) s.setting good.capped;
    synced = λ none. (s.runs none).synced;
    fault = ⊎_elim (λ none. inl (none, (s.runs none).calm)) (λ some. let shut = s.shut some in inr (shut.one, shut.counts)) (none_or_some x.book.faults);
  }

  pub left_now : (ready → MayLeaveSynced reading kept disk) → Recovers reading x.book disk
  left_now leaves = ⊎_elim
      (λ none. let r = s.runs none in read_synced reading x.book disk (journal_of x.book.events).entries (all_synced_part (journal_of x.book.events) r.synced) (leaves_now reading disk kept (journal_of x.book.events).entries [] (leaves r.usable) r.keeps))
      (λ some. (s.shut some).left) (none_or_some x.book.faults)

  ---- What calls leave

  module _ (opened : IsOpen x.book) (ready' : Type 0) (waits' : Bool) (kept' : Option Kept) (meter : Meter) (disk' : Option History) where
    -- nothing was added, and it may be used
    pub same_sound : ready' → waits' ≡ false → counted meter ≡ 0 → Keeps disk' kept' (journal_of x.book.events).entries [] → IsSound ready' waits' kept' disk' reading setting (record { book = x.book; meter = meter })
    same_sound is none calm keeps = record {
      setting = s.setting;
      within = s.within;
      provider = s.provider;
      history = s.history;
      state = s.state;
      taken = s.taken;
      most = s.most;
      runs = λ n. record { usable = is; none = none; keeps = keeps; synced = (s.runs n).synced; calm = calm };
      shut = λ some. absurd (omega (arith, some, opened.running));
    }

    -- nothing was added, and its disk has failed
    pub shut_sound : 0 < counted meter → LeavesThese reading disk' (journal_of x.book.events).entries → IsSound ready' waits' kept' disk' reading setting (record { book = closed x.book; meter = meter })
    shut_sound some left = record {
      setting = s.setting;
      within = s.within;
      provider = s.provider;
      history = s.history;
      state = s.state;
      taken = s.taken;
      most = s.most;
      runs = λ n. absurd (omega (arith, n));
      shut = λ _. record { one = refl; counts = some; left = read_synced reading (closed x.book) disk' (journal_of x.book.events).entries (all_synced_part (journal_of x.book.events) (s.runs opened.running).synced) left };
    }

    at_now : IsAt (setting_of x.book.network x.book.agent) (own_stp x.book.network x.book.agent) x.book.events x.book.state
    at_now = record { state = s.state; taken = s.taken; synced = (s.runs opened.running).synced; room = opened.room }

    -- an entry was added without its sync, and its disk has failed
    pub broken_sound : (e : Entry) → MayBeAsked x.book.state e → 0 < counted meter → LeavesOneOf reading disk' (journal_of x.book.events).entries (e ∷ [])
        → IsSound ready' waits' kept' disk' reading setting (record { book = closed (with_entry e x.book); meter = meter })
    broken_sound e may some left =
        let own = setting_of x.book.network x.book.agent in
        let stp_of = own_stp x.book.network x.book.agent in
        let makes = makes_entry own stp_of x.book.events x.book.state e s.history at_now may in
        let part = part_is own stp_of x.book.events x.book.state e s.history at_now may in
        let all = all_are own stp_of x.book.events x.book.state e s.history at_now may in
        record {
          setting = s.setting;
          within = s.within;
          provider = s.provider;
          history = makes.history;
          state = makes.state_is;
          taken = makes.taken;
          most = omega (arith, taken_more own stp_of x.book.state e may.may_take, opened.room);
          runs = λ n. absurd (omega (arith, n));
          shut = λ one. record {
            one = refl;
            counts = some;
            left = weaker
                (λ h. (c : List ℕ) → MayLeave h c → (reading c ≡ Ok (journal_of x.book.events).entries) ⊎ (reading c ≡ Ok ((journal_of x.book.events).entries ++ e ∷ [])))
                (λ h. (c : List ℕ) → MayLeave h c → IsRead reading (closed (with_entry e x.book)) c) disk'
                (λ h each c leaves. ⊎_elim (λ p. inl (p ∙ ap Ok (sym part))) (λ q. inr (one, q ∙ ap Ok (sym all))) (each c leaves))
                left;
          };
        }

    -- an entry and its sync were added
    pub entered_sound : (e : Entry) → MayBeAsked x.book.state e → ready' → waits' ≡ false → counted meter ≡ 0 → Keeps disk' kept' ((journal_of x.book.events).entries ++ e ∷ []) []
        → IsSound ready' waits' kept' disk' reading setting (record { book = entered e x.book; meter = meter })
    entered_sound e may is none calm keeps =
        let own = setting_of x.book.network x.book.agent in
        let stp_of = own_stp x.book.network x.book.agent in
        let count : ℕ = x.book.state.taken + 1 in
        let counts : count ≡ (after own stp_of x.book.state e).state.taken = sym (taken_more own stp_of x.book.state e may.may_take) in
        let makes = makes_sync own stp_of x.book.events x.book.state e s.history at_now may count counts in
        let entries_are = entries_then own stp_of x.book.events x.book.state e s.history at_now may count in
        let synced_are = synced_then own stp_of x.book.events x.book.state e s.history at_now may count in
        let same : (x.book.events ++ enter x.book.agent e ∷ []) ++ sync x.book.agent count ∷ [] ≡ x.book.events ++ enter x.book.agent e ∷ sync x.book.agent count ∷ [] = append_assoc x.book.events (enter x.book.agent e ∷ []) (sync x.book.agent count ∷ []) in
        subst (λ (events : List Event). IsSound ready' waits' kept' disk' reading setting (record { book = record { network = x.book.network; agent = x.book.agent; state = (steps x.book e).state; events = events; faults = x.book.faults }; meter = meter })) same
        (record {
          setting = s.setting;
          within = s.within;
          provider = s.provider;
          history = makes.history;
          state = makes.state_is;
          taken = makes.taken;
          most = omega (arith, taken_more own stp_of x.book.state e may.may_take, opened.room);
          runs = λ n. record {
            usable = is;
            none = none;
            keeps = subst (λ (es : List Entry). Keeps disk' kept' es []) (sym entries_are) keeps;
            synced = synced_are ∙ (counts ∙ makes.taken);
            calm = calm;
          };
          shut = λ some. absurd (omega (arith, some, opened.running));
        })

    pub synced_entered : (e : Entry) → MayBeAsked x.book.state e → (journal_of (entered e x.book).events).synced ≡ x.book.state.taken + 1
    synced_entered e may =
        ap (λ (events : List Event). (journal_of events).synced) (sym (append_assoc x.book.events (enter x.book.agent e ∷ []) (sync x.book.agent (x.book.state.taken + 1) ∷ [])))
        ∙ synced_then (setting_of x.book.network x.book.agent) (own_stp x.book.network x.book.agent) x.book.events x.book.state e s.history at_now may (x.book.state.taken + 1)

    pub synced_now : (journal_of x.book.events).synced ≡ x.book.state.taken
    synced_now = at_now.synced ∙ sym s.taken

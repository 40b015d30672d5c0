-- Entries, and batches of them, as events.
use Rattle.std.proofs.Common.{◌≡◌, ◌≤◌, ◌+◌, ◌∙◌, ℕ, false, ◌&&◌, nat_lt, List, [], ◌∷◌, ◌++◌, Option, arith, refl, sym, ap, subst, length, length-append, append-nil}
use Rattle.std.proofs.lemmas.Bool.{and_parts}
use Rattle.std.proofs.lemmas.List.{append_assoc}
use Rattle.nsi_primitive.specs.declared.entry.Entry.{Entry}
use Rattle.nsi_primitive.specs.declared.entry.Happening.{Happening}
use Rattle.provider_agent.specs.Setting.{Setting}
use Rattle.provider_agent.specs.State.{State, blank, unchanged}
use Rattle.agent_state.specs.Entries.{is_on_time, most_entries}
use Rattle.provider_agent.specs.Steps.{is_for_provider, may_take, after, after_if}
use Rattle.provider_agent.specs.Runs.{after_all}
use Rattle.provider_agent.specs.Safety.{IsRun}
use Rattle.provider_agent.specs.Events.{all_synced, happens, journal_after, enter, entered, batch}
use Rattle.provider_agent.specs.Cuts.{Journal}
use Rattle.provider_agent.specs.AgentRuns.{MayEnter, AreAllowed, caused, caused_by}
use Rattle.provider_agent.specs.Replay.{replayed}
use Rattle.provider_agent.proofs.RunsSafe.{after_all_append}
use Rattle.provider_agent.proofs.EventsSafe.{journal_after_append}

abbrev the_journal : List Entry → ℕ → Journal
the_journal es synced = record { entries = es; synced = synced }

---- One entry more

pub after_unfit : (setting : Setting) (stp_of : List ℕ → Option ℕ) (s : State) (e : Entry) → may_take s e ≡ false → after setting stp_of s e ≡ unchanged s
unfolding after
after_unfit setting stp_of s e unfit = ap (λ b. after_if b setting stp_of s e) unfit

pub replayed_one : (setting : Setting) (stp_of : List ℕ → Option ℕ) (es : List Entry) (e : Entry) → replayed setting stp_of (es ++ e ∷ []) ≡ (after setting stp_of (replayed setting stp_of es) e).state
unfolding after_all
replayed_one setting stp_of es e = after_all_append setting stp_of blank es (e ∷ [])

---- One list of events after another

pub allowed_append : (setting : Setting) (stp_of : List ℕ → Option ℕ) (j : Journal) (front back : List Happening) → AreAllowed setting stp_of j front → AreAllowed setting stp_of (journal_after j front) back → AreAllowed setting stp_of j (front ++ back)
unfolding journal_after
allowed_append setting stp_of j [] back p q = q
allowed_append setting stp_of j (x ∷ front) back p q = (p.0, allowed_append setting stp_of (happens j x) front back p.1 q)

pub caused_append : (setting : Setting) (stp_of : List ℕ → Option ℕ) (j : Journal) (front back : List Happening) → caused setting stp_of j (front ++ back) ≡ caused setting stp_of j front ++ caused setting stp_of (journal_after j front) back
unfolding journal_after caused
caused_append setting stp_of j [] back = refl
caused_append setting stp_of j (x ∷ front) back =
    ap (λ out. caused_by setting stp_of j x ++ out) (caused_append setting stp_of (happens j x) front back)
    ∙ sym (append_assoc (caused_by setting stp_of j x) (caused setting stp_of (happens j x) front) (caused setting stp_of (journal_after (happens j x) front) back))

---- Entries

entered_journal : (j : Journal) (es : List Entry) → journal_after j (entered es) ≡ the_journal (j.entries ++ es) j.synced
unfolding journal_after
entered_journal j [] = ap (λ (es : List Entry). the_journal es j.synced) (sym (append-nil j.entries))
entered_journal j (e ∷ es) = entered_journal (happens j (enter e)) es ∙ ap (λ (xs : List Entry). the_journal xs j.synced) (append_assoc j.entries (e ∷ []) es)

entered_allowed : (setting : Setting) (stp_of : List ℕ → Option ℕ) (j : Journal) (es : List Entry) → IsRun setting stp_of (replayed setting stp_of j.entries) es → length j.entries + length es ≤ most_entries → AreAllowed setting stp_of j (entered es)
entered_allowed setting stp_of j [] run few = tt
entered_allowed setting stp_of j (e ∷ es) run few =
    let s : State = replayed setting stp_of j.entries in
    let fits = and_parts (nat_lt s.taken most_entries) (is_for_provider e.input && is_on_time e.input e.second s.now) run.1 in
    let own = and_parts (is_for_provider e.input) (is_on_time e.input e.second s.now) fits.1 in
    let may : MayEnter setting stp_of j e = record { room = omega (arith, few); printable = run.0; own = own.0; on_time = own.1 } in (
      (may, refl),
      entered_allowed setting stp_of (happens j (enter e)) es
          (subst (λ (x : State). IsRun setting stp_of x es) (sym (replayed_one setting stp_of j.entries e)) run.2)
          (omega (arith, few, length-append j.entries (e ∷ []))),
    )

entered_caused : (setting : Setting) (stp_of : List ℕ → Option ℕ) (j : Journal) (es : List Entry) → caused setting stp_of j (entered es) ≡ (after_all setting stp_of (replayed setting stp_of j.entries) es).out
unfolding caused after_all
entered_caused setting stp_of j [] = refl
entered_caused setting stp_of j (e ∷ es) =
    ap (λ out. (after setting stp_of (replayed setting stp_of j.entries) e).out ++ out)
    (entered_caused setting stp_of (happens j (enter e)) es ∙ ap (λ (x : State). (after_all setting stp_of x es).out) (replayed_one setting stp_of j.entries e))

---- Batches

-- Entries that are a run from what the journal makes, and a sync behind them, are allowed.
pub batch_allowed : (setting : Setting) (stp_of : List ℕ → Option ℕ) (j : Journal) (es : List Entry) → IsRun setting stp_of (replayed setting stp_of j.entries) es → length j.entries + length es ≤ most_entries → AreAllowed setting stp_of j (batch j es)
batch_allowed setting stp_of j es run few =
    let count : ℕ = length j.entries + length es in
    let synced : AreAllowed setting stp_of (the_journal (j.entries ++ es) j.synced) (Happening.Sync count ∷ []) = (sym (length-append j.entries es), tt) in
    allowed_append setting stp_of j (entered es) (Happening.Sync count ∷ []) (entered_allowed setting stp_of j es run few)
    (subst (λ (x : Journal). AreAllowed setting stp_of x (Happening.Sync count ∷ [])) (sym (entered_journal j es)) synced)

-- All is synced then.
pub batch_journal : (j : Journal) (es : List Entry) → journal_after j (batch j es) ≡ all_synced (j.entries ++ es)
unfolding journal_after
batch_journal j es =
    let count : ℕ = length j.entries + length es in
    journal_after_append j (entered es) (Happening.Sync count ∷ [])
    ∙ (ap (λ (x : Journal). happens x (Happening.Sync count)) (entered_journal j es) ∙ ap (the_journal (j.entries ++ es)) (sym (length-append j.entries es)))

-- They cause the messages of the entries.
pub batch_caused : (setting : Setting) (stp_of : List ℕ → Option ℕ) (j : Journal) (es : List Entry) → caused setting stp_of j (batch j es) ≡ (after_all setting stp_of (replayed setting stp_of j.entries) es).out
unfolding caused
batch_caused setting stp_of j es =
    caused_append setting stp_of j (entered es) (Happening.Sync (length j.entries + length es) ∷ [])
    ∙ (append-nil (caused setting stp_of j (entered es)) ∙ entered_caused setting stp_of j es)

-- Events that are due are few where journals are short.
use Rattle.std.proofs.Common.{◌≤◌, ◌≡◌, ◌+◌, ◌*◌, ℕ, List, [], ◌∷◌, ◌++◌, inl, inr, refl, sym, ap, subst, arith, length, length-append, append-nil, take}
use Rattle.std.specs.List.{Contains, sum_by}
use Rattle.std.proofs.lemmas.Bool.{cases_eq}
use Rattle.std.proofs.lemmas.List.{length-take-le}
use Rattle.std.proofs.lemmas.List.Sums.{sum_by-le-sum_by}
use Rattle.nsi_primitive.specs.declared.entry.Event.{Event}
use Rattle.nsi_primitive.specs.declared.entry.Happening.{Happening}
use Rattle.nsi_world.specs.Worlds.{Homes, World, empty, IsAgent}
use Rattle.nsi_world.specs.Runs.{at, happens_at, happens, world_after}
use Rattle.nsi_world.specs.Seats.{MayBe, AreFree}
use Rattle.nsi_world.proofs.Later.{at_same, at_other}
use Rattle.stopped_play.specs.Counts.{one_restart, restarts_in}
use Rattle.due_events.specs.Counts.{held}
use Rattle.due_events.specs.Due.{IsDueAt, AreDue}
use Rattle.due_events.specs.Laws.{EventsAreFew}
use Rattle.due_events.proofs.Sums.{sum_more}

---- Each event is one of three

abbrev one_entry : Happening → ℕ
one_entry (Happening.Entry e answer) = 1
one_entry what = 0

abbrev entries_made : List Event → ℕ
entries_made [] = 0
entries_made (e ∷ es) = one_entry e.what + entries_made es

abbrev one_sync : Happening → ℕ
one_sync (Happening.Sync count) = 1
one_sync what = 0

abbrev syncs_made : List Event → ℕ
syncs_made [] = 0
syncs_made (e ∷ es) = one_sync e.what + syncs_made es

one_of_three : (what : Happening) → one_entry what + (one_sync what + one_restart what) ≡ 1
one_of_three (Happening.Entry e answer) = refl
one_of_three (Happening.Sync count) = refl
one_of_three (Happening.Restart count) = refl

all_of_three : (es : List Event) → length es ≡ entries_made es + (syncs_made es + restarts_in es)
all_of_three [] = refl
all_of_three (e ∷ es) = omega (arith, one_of_three e.what, all_of_three es)

---- What is synced

abbrev IsWithin : World → Type 0
IsWithin w = (a : ℕ) → w.synced a ≤ length (w.journal a)

-- how much of these agents' journals is synced
abbrev kept : World → List ℕ → ℕ
kept w agents = sum_by w.synced agents

within_event : (homes : Homes) (w : World) (a : ℕ) (what : Happening) → MayBe homes w a what → IsWithin w → IsWithin (happens_at w a what)
within_event homes w a (Happening.Entry e answer) may low b = elim (cases_eq b a) [
  | inl q ↦ subst (λ c. w.synced c ≤ length (at a (w.journal a ++ e ∷ []) w.journal c)) (sym q) (omega (arith, low a, ap length (at_same a (w.journal a ++ e ∷ []) w.journal), length-append (w.journal a) (e ∷ [])))
  | inr n ↦ omega (arith, low b, ap length (at_other a b (w.journal a ++ e ∷ []) w.journal n))
]
within_event homes w a (Happening.Sync count) may low b = elim (cases_eq b a) [
  | inl q ↦ subst (λ c. at a count w.synced c ≤ length (w.journal c)) (sym q) (omega (arith, may, at_same a count w.synced))
  | inr n ↦ omega (arith, low b, at_other a b count w.synced n)
]
within_event homes w a (Happening.Restart count) may low b = let high = may.1 in elim (cases_eq b a) [
  | inl q ↦ subst (λ c. at a count w.synced c ≤ length (at a (take count (w.journal a)) w.journal c)) (sym q)
      (omega (arith, at_same a count w.synced, ap length (at_same a (take count (w.journal a)) w.journal), length-take-le count (w.journal a) high))
  | inr n ↦ omega (arith, low b, at_other a b count w.synced n, ap length (at_other a b (take count (w.journal a)) w.journal n))
]

-- no less is synced behind an event, and more behind a sync
kept_more : (homes : Homes) (w : World) (a : ℕ) (what : Happening) (ns : List ℕ) → MayBe homes w a what → IsDueAt homes w a what → Contains ns a → one_sync what + kept w ns ≤ kept (happens_at w a what) ns
kept_more homes w a (Happening.Entry e answer) ns may due c = omega arith
kept_more homes w a (Happening.Sync count) ns may due c =
    let here : w.synced a + 1 ≤ at a count w.synced a = omega (arith, due, may, at_same a count w.synced) in
    let low : (b : ℕ) → w.synced b ≤ at a count w.synced b = λ b. elim (cases_eq b a) [
      | inl q ↦ subst (λ d. w.synced d ≤ at a count w.synced d) (sym q) (omega (arith, here))
      | inr n ↦ omega (arith, at_other a b count w.synced n)
    ] in
    omega (arith, sum_more w.synced (at a count w.synced) a ns low here c)
kept_more homes w a (Happening.Restart count) ns may due c =
    let first = may.0 in
    let low : (b : ℕ) → w.synced b ≤ at a count w.synced b = λ b. elim (cases_eq b a) [
      | inl q ↦ subst (λ d. w.synced d ≤ at a count w.synced d) (sym q) (omega (arith, first, at_same a count w.synced))
      | inr n ↦ omega (arith, at_other a b count w.synced n)
    ] in
    omega (arith, sum_by-le-sum_by w.synced (at a count w.synced) ns low)

kept_held : (w : World) (ns : List ℕ) → IsWithin w → kept w ns ≤ held w ns
kept_held w ns low = sum_by-le-sum_by w.synced (λ a. length (w.journal a)) ns low

---- What is entered

-- behind an entry there is one more, and a restart takes away no more than there is
held_more : (w : World) (a most : ℕ) (what : Happening) (ns : List ℕ) → Contains ns a → held w ns ≤ most → one_entry what + held w ns ≤ held (happens_at w a what) ns + one_restart what * most
held_more w a most (Happening.Entry e answer) ns c few =
    let more = at a (w.journal a ++ e ∷ []) w.journal in
    let here : length (w.journal a) + 1 ≤ length (more a) = omega (arith, ap length (at_same a (w.journal a ++ e ∷ []) w.journal), length-append (w.journal a) (e ∷ [])) in
    let low : (b : ℕ) → length (w.journal b) ≤ length (more b) = λ b. elim (cases_eq b a) [
      | inl q ↦ subst (λ d. length (w.journal d) ≤ length (more d)) (sym q) (omega (arith, here))
      | inr n ↦ omega (arith, ap length (at_other a b (w.journal a ++ e ∷ []) w.journal n))
    ] in
    omega (arith, sum_more (λ b. length (w.journal b)) (λ b. length (more b)) a ns low here c)
held_more w a most (Happening.Sync count) ns c few = omega arith
held_more w a most (Happening.Restart count) ns c few = omega (arith, few)

---- All of them

-- what is known of events and of the world before them
record AreCounted (w : World) (es : List Event) (ns : List ℕ) (most : ℕ) : Type 0 where
  pub made : entries_made es + held w ns ≤ held (world_after w es) ns + restarts_in es * most
  pub synced : syncs_made es + kept w ns ≤ kept (world_after w es) ns
  pub within : IsWithin (world_after w es)

counted : (homes : Homes) (ns : List ℕ) (most : ℕ) → ((a : ℕ) → IsAgent homes a → Contains ns a) → (w : World) (es : List Event) → IsWithin w → AreFree homes w es → AreDue homes w es
    → ((front rest : List Event) → es ≡ front ++ rest → held (world_after w front) ns ≤ most) → AreCounted w es ns most
unfolding world_after AreFree AreDue
counted homes ns most all w [] low free due few = record { made = omega arith; synced = omega arith; within = low }
counted homes ns most all w (e ∷ es) low free due few =
    let v : World = happens w e in
    let c : Contains ns e.agent = all e.agent free.0.0 in
    let rest = counted homes ns most all v es (within_event homes w e.agent e.what free.0.1 low) free.1 due.1 (λ front rest q. few (e ∷ front) rest (ap (λ zs. e ∷ zs) q)) in
    let now : held w ns ≤ most = few [] (e ∷ es) refl in
    record {
      made = omega (arith, rest.made, held_more w e.agent most e.what ns c now);
      synced = omega (arith, rest.synced, kept_more homes w e.agent e.what ns free.0.1 due.0 c);
      within = rest.within;
    }

pub events_are_few : EventsAreFew
events_are_few homes es ns most free due all few =
    let c : AreCounted empty es ns most = counted homes ns most all empty es (λ a. omega arith) free due few in
    let end : held (world_after empty es) ns ≤ most = few es [] (sym (append-nil es)) in
    omega (arith, all_of_three es, c.made, c.synced, kept_held (world_after empty es) ns c.within, end)

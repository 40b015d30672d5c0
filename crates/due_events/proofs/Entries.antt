-- Each entry in a journal is of an event.
use Rattle.std.proofs.Common.{◌≤◌, ◌≡◌, ◌≢◌, ◌+◌, ℕ, Bool, cond, List, [], ◌∷◌, ◌++◌, refl, ap, arith, take}
use Rattle.std.specs.List.{sum_by}
use Rattle.std.proofs.lemmas.List.Sums.{sum_by-cons, sum_by_push, sum_by-take-le}
use Rattle.nsi_primitive.specs.declared.entry.Entry.{Entry}
use Rattle.nsi_primitive.specs.declared.entry.Event.{Event}
use Rattle.nsi_primitive.specs.declared.entry.Happening.{Happening}
use Rattle.nsi_primitive.specs.declared.entry.Input.{Input}
use Rattle.nsi_world.specs.Worlds.{World, empty}
use Rattle.nsi_world.specs.Runs.{happens_at, happens, world_after}
use Rattle.nsi_world.specs.Nets.{AreDistinct}
use Rattle.nsi_world.proofs.Later.{at_same, at_other}
use Rattle.due_events.specs.Counts.{has_kind, enters, is_entry_of, events_in}
use Rattle.due_events.specs.Laws.{EntriesAreEvents}
use Rattle.due_events.proofs.Sums.{sum_one}

-- one where it is so
abbrev pub one_if : Bool → ℕ
one_if b = cond b 1 0

-- an entry is worth so much, by whose it is
abbrev pub Weight : Type 0
Weight = ℕ → Entry → ℕ

-- what happens at an agent, where nothing but entries is worth anything
abbrev pub weight_at : Weight → ℕ → Happening → ℕ
weight_at weight a (Happening.Entry e answer) = weight a e
weight_at weight a what = 0

-- the entries of these agents
abbrev pub weight_among : Weight → World → List ℕ → ℕ
weight_among weight w ns = sum_by (λ a. sum_by (weight a) (w.journal a)) ns

-- all events
abbrev pub weight_of : Weight → List Event → ℕ
weight_of weight events = sum_by (λ (e : Event). weight_at weight e.agent e.what) events

at_agent : (weight : Weight) (w : World) (a : ℕ) (what : Happening) → sum_by (weight a) ((happens_at w a what).journal a) ≤ sum_by (weight a) (w.journal a) + weight_at weight a what
at_agent weight w a (Happening.Entry e answer) = omega (arith, ap (sum_by (weight a)) (at_same a (w.journal a ++ e ∷ []) w.journal), sum_by_push (weight a) (w.journal a) e)
at_agent weight w a (Happening.Sync count) = omega arith
at_agent weight w a (Happening.Restart count) = omega (arith, ap (sum_by (weight a)) (at_same a (take count (w.journal a)) w.journal), sum_by-take-le (weight a) (w.journal a) count)

at_others : (weight : Weight) (w : World) (a : ℕ) (what : Happening) (b : ℕ) → b ≢ a → sum_by (weight b) ((happens_at w a what).journal b) ≤ sum_by (weight b) (w.journal b)
at_others weight w a (Happening.Entry e answer) b n = omega (arith, ap (sum_by (weight b)) (at_other a b (w.journal a ++ e ∷ []) w.journal n))
at_others weight w a (Happening.Sync count) b n = omega arith
at_others weight w a (Happening.Restart count) b n = omega (arith, ap (sum_by (weight b)) (at_other a b (take count (w.journal a)) w.journal n))

weight_from : (weight : Weight) (ns : List ℕ) → AreDistinct ns → (w : World) (events : List Event) → weight_among weight (world_after w events) ns ≤ weight_among weight w ns + weight_of weight events
unfolding world_after
weight_from weight ns apart w [] = omega arith
weight_from weight ns apart w (e ∷ es) =
    let more : ℕ = weight_at weight e.agent e.what in
    let here : weight_among weight (happens w e) ns ≤ weight_among weight w ns + more =
    sum_one (λ b. sum_by (weight b) (w.journal b)) (λ b. sum_by (weight b) ((happens w e).journal b)) e.agent more ns apart (at_others weight w e.agent e.what) (at_agent weight w e.agent e.what)
    in
    omega (arith, here, weight_from weight ns apart (happens w e) es, sum_by-cons (λ (x : Event). weight_at weight x.agent x.what) e es)

none_at_first : (weight : Weight) (ns : List ℕ) → weight_among weight empty ns ≡ 0
none_at_first weight [] = refl
none_at_first weight (n ∷ ns) = omega (arith, sum_by-cons (λ b. sum_by (weight b) (empty.journal b)) n ns, none_at_first weight ns)

-- what stands in journals is worth no more than the events
pub weight_was_entered : (weight : Weight) (events : List Event) (ns : List ℕ) → AreDistinct ns → weight_among weight (world_after empty events) ns ≤ weight_of weight events
weight_was_entered weight events ns apart = omega (arith, weight_from weight ns apart empty events, none_at_first weight ns)

---- Entries of a kind

-- each is worth one
abbrev one_each : (Input → Bool) → Weight
one_each kind a e = one_if (has_kind kind e)

kind_counts : (kind : Input → Bool) (a : ℕ) (what : Happening) → weight_at (one_each kind) a what ≡ one_if (enters kind what)
kind_counts kind a (Happening.Entry e answer) = refl
kind_counts kind a (Happening.Sync count) = refl
kind_counts kind a (Happening.Restart count) = refl

kinds_count : (kind : Input → Bool) (events : List Event) → weight_of (one_each kind) events ≡ events_in kind events
kinds_count kind [] = refl
kinds_count kind (e ∷ es) =
    omega (
      arith,
      sum_by-cons (λ (x : Event). weight_at (one_each kind) x.agent x.what) e es,
      sum_by-cons (λ (x : Event). one_if (is_entry_of kind x)) e es,
      kind_counts kind e.agent e.what,
      kinds_count kind es,
    )

pub entries_are_events : EntriesAreEvents
entries_are_events events kind ns apart = omega (arith, weight_was_entered (one_each kind) events ns apart, kinds_count kind events)

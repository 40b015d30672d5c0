-- Where there are few events, there is room for each entry.
use Rattle.std.proofs.Common.{ℕ, ◌+◌, ◌<◌, ◌≤◌, List, [], ◌∷◌, ◌++◌, inl, inr, sym, ap, subst, arith, length, take, length-append}
use Rattle.std.proofs.lemmas.Bool.{cases_eq}
use Rattle.std.proofs.lemmas.List.{length-take-le}
use Rattle.nsi_primitive.specs.declared.entry.Event.{Event}
use Rattle.nsi_primitive.specs.declared.entry.Happening.{Happening}
use Rattle.agent_state.specs.Entries.{most_entries}
use Rattle.nsi_world.specs.Worlds.{Homes, World}
use Rattle.nsi_world.specs.Runs.{MayHappen, at, happens_at, happens, AreAllowed}
use Rattle.nsi_world.specs.Seats.{MayBe, AreFree}
use Rattle.nsi_world.proofs.Later.{at_same, at_other}

grown : (homes : Homes) (w : World) (a : ℕ) (what : Happening) (b : ℕ) → MayBe homes w a what → length ((happens_at w a what).journal b) ≤ length (w.journal b) + 1
grown homes w a (Happening.Entry e answer) b may = elim (cases_eq b a) [
  | inl q ↦ subst (λ c. length (at a (w.journal a ++ e ∷ []) w.journal c) ≤ length (w.journal c) + 1) (sym q) (omega (arith, ap length (at_same a (w.journal a ++ e ∷ []) w.journal), length-append (w.journal a) (e ∷ [])))
  | inr n ↦ omega (arith, ap length (at_other a b (w.journal a ++ e ∷ []) w.journal n))
]
grown homes w a (Happening.Sync count) b may = omega arith
grown homes w a (Happening.Restart count) b may = elim (cases_eq b a) [
  | inl q ↦ subst (λ c. length (at a (take count (w.journal a)) w.journal c) ≤ length (w.journal c) + 1) (sym q)
      (let few = may.1 in omega (arith, ap length (at_same a (take count (w.journal a)) w.journal), length-take-le count (w.journal a) few, few))
  | inr n ↦ omega (arith, ap length (at_other a b (take count (w.journal a)) w.journal n))
]

one_allowed : (homes : Homes) (w : World) (a : ℕ) (what : Happening) → length (w.journal a) < most_entries → MayBe homes w a what → MayHappen homes w a what
one_allowed homes w a (Happening.Entry e answer) few may = (few, may)
one_allowed homes w a (Happening.Sync count) few may = may
one_allowed homes w a (Happening.Restart count) few may = may

pub allowed_of_free : (homes : Homes) (w : World) (es : List Event) → ((a : ℕ) → length (w.journal a) + length es ≤ most_entries) → AreFree homes w es → AreAllowed homes w es
unfolding AreFree AreAllowed
allowed_of_free homes w [] few h = tt
allowed_of_free homes w (e ∷ es) few h =
    let now = few e.agent in (
      (h.0.0, one_allowed homes w e.agent e.what (omega (arith, now)) h.0.1),
      allowed_of_free homes (happens w e) es (λ b. let before = few b in let more = grown homes w e.agent e.what b h.0.1 in omega (arith, before, more)) h.1,
    )

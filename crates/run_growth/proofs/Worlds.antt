-- What is true of an agent's journal in every world of a run.
use Rattle.std.proofs.Common.{ℕ, ◌≤◌, ◌≡◌, List, [], ◌∷◌, ◌++◌, Option, inl, inr, refl, sym, subst, length, take, eq-eqb, ne_eqb}
use Rattle.std.proofs.lemmas.Bool.{cases_eq}
use Rattle.nsi_primitive.specs.declared.ask.AskAnswer.{AskAnswer}
use Rattle.nsi_primitive.specs.declared.entry.Entry.{Entry}
use Rattle.nsi_primitive.specs.declared.entry.Event.{Event}
use Rattle.nsi_primitive.specs.declared.entry.Happening.{Happening}
use Rattle.nsi_world.specs.Worlds.{Homes, IsAgent, World}
use Rattle.nsi_world.specs.Runs.{MayHappen, at, happens_at, happens, world_after, AreAllowed}

---- Lists of events

pub after_append : (w : World) (es fs : List Event) → world_after w (es ++ fs) ≡ world_after (world_after w es) fs
unfolding world_after
after_append w [] fs = refl
after_append w (e ∷ es) fs = after_append (happens w e) es fs

pub allowed_front : (homes : Homes) (w : World) (es fs : List Event) → AreAllowed homes w (es ++ fs) → AreAllowed homes w es
unfolding AreAllowed
allowed_front homes w [] fs h = tt
allowed_front homes w (e ∷ es) fs h = (h.0, allowed_front homes (happens w e) es fs h.1)

pub allowed_rest : (homes : Homes) (w : World) (es fs : List Event) → AreAllowed homes w (es ++ fs) → AreAllowed homes (world_after w es) fs
unfolding world_after AreAllowed
allowed_rest homes w [] fs h = h
allowed_rest homes w (e ∷ es) fs h = allowed_rest homes (happens w e) es fs h.1

---- One journal

here : {X : Type 0} (a : ℕ) (x : X) (f : ℕ → X) → at a x f a ≡ x
here a x f = rw (eq-eqb a a refl) refl

elsewhere : {X : Type 0} (a b : ℕ) (x : X) (f : ℕ → X) → (b ≡ a → ⊥) → at a x f b ≡ f b
elsewhere a b x f n = rw (ne_eqb b a n) refl

-- entries, of which so many are synced
abbrev pub OfJournal : Type 1
OfJournal = List Entry → ℕ → Type 0

abbrev Holds : OfJournal → World → ℕ → Type 0
Holds P w a = P (w.journal a) (w.synced a)

-- what may happen at an agent keeps what is true of its journal
pub record Keeps (homes : Homes) (a : ℕ) (P : OfJournal) : Type 0 where
  pub entry : (w : World) (e : Entry) (answer : Option AskAnswer) → IsAgent homes a → MayHappen homes w a (Happening.Entry e answer) → P (w.journal a) (w.synced a) → P (w.journal a ++ e ∷ []) (w.synced a)
  pub sync : (es : List Entry) (old new : ℕ) → new ≡ length es → P es old → P es new
  pub restart : (es : List Entry) (old new : ℕ) → old ≤ new → new ≤ length es → P es old → P (take new es) new

module _ (homes : Homes) (a : ℕ) (P : OfJournal) (keeps : Keeps homes a P) where
  at_agent : (w : World) (what : Happening) → IsAgent homes a → MayHappen homes w a what → Holds P w a → Holds P (happens_at w a what) a
  at_agent w (Happening.Entry e answer) is may p = subst (λ es. P es (w.synced a)) (sym (here a (w.journal a ++ e ∷ []) w.journal)) (keeps.entry w e answer is may p)
  at_agent w (Happening.Sync count) is may p = subst (λ n. P (w.journal a) n) (sym (here a count w.synced)) (keeps.sync (w.journal a) (w.synced a) count may p)
  at_agent w (Happening.Restart count) is may p =
      subst (λ es. P es (at a count w.synced a)) (sym (here a (take count (w.journal a)) w.journal))
      (subst (λ n. P (take count (w.journal a)) n) (sym (here a count w.synced)) (keeps.restart (w.journal a) (w.synced a) count may.0 may.1 p))

  at_other : (w : World) (b : ℕ) (what : Happening) → (a ≡ b → ⊥) → Holds P w a → Holds P (happens_at w b what) a
  at_other w b (Happening.Entry e answer) n p = subst (λ es. P es (w.synced a)) (sym (elsewhere b a (w.journal b ++ e ∷ []) w.journal n)) p
  at_other w b (Happening.Sync count) n p = subst (λ k. P (w.journal a) k) (sym (elsewhere b a count w.synced n)) p
  at_other w b (Happening.Restart count) n p =
      subst (λ es. P es (at b count w.synced a)) (sym (elsewhere b a (take count (w.journal b)) w.journal n))
      (subst (λ k. P (w.journal a) k) (sym (elsewhere b a count w.synced n)) p)

  at_event : (w : World) (b : ℕ) (what : Happening) → IsAgent homes b → MayHappen homes w b what → Holds P w a → Holds P (happens_at w b what) a
  at_event w b what is may p = elim (cases_eq a b) [
    | inl q ↦ subst (λ c. Holds P (happens_at w c what) a) q (at_agent w what (subst (IsAgent homes) (sym q) is) (subst (λ c. MayHappen homes w c what) (sym q) may) p)
    | inr n ↦ at_other w b what n p
  ]

  -- so it is true after any events
  pub by_journal : (w : World) (es : List Event) → AreAllowed homes w es → Holds P w a → Holds P (world_after w es) a
  unfolding world_after AreAllowed
  by_journal w [] h p = p
  by_journal w (e ∷ es) h p = by_journal (happens w e) es h.1 (at_event w e.agent e.what h.0.0 h.0.1 p)

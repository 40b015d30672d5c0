-- A step is noted at all its entries.
use Rattle.std.proofs.Common.{◌≡◌, ℕ, zero, suc, ◌+◌, ◌<◌, ◌≤◌, inl, inr, List, [], ◌∷◌, Bool, true, false, Option, Some, None, length, refl, ap, arith}
use Rattle.std.proofs.lemmas.List.Sums.{sum_by-cons}
use Rattle.path_segments.specs.declared.search.Step.{Step}
use Rattle.path_segments.specs.Steps.{at, is_open, open_places}
use Rattle.path_segments.specs.Searches.{Changes, IsNoted, Grows}
use Rattle.path_segments.proofs.Searches.{grows_same}
use Rattle.least_routes.proofs.Deciding.{Decided}

-- the table with the step at all points of which that is so and that had none
pub record Marked (entry : ℕ → Type 0) (step : Step) (old : List (Option Step)) : Type 0 where
  pub steps : List (Option Step)
  pub grew : Bool
  pub grows : Grows grew old steps
  pub changes : Changes entry step (at old) (at steps)
  pub noted : (p : ℕ) → entry p → p < length old → IsNoted (at steps) p

never_both : true ≡ false → ⊥
never_both e = cc

no_more_open : (grew : Bool) (old new : List (Option Step)) → Grows grew old new → open_places new ≤ open_places old
no_more_open true old new g = let f = g.fewer refl in omega (arith, f)
no_more_open false old new g = let e = ap open_places (g.same refl) in omega (arith, e)

open_front : (o : Option Step) (steps : List (Option Step)) → open_places (o ∷ steps) ≡ is_open o + open_places steps
open_front o steps = sum_by-cons is_open o steps

grows_kept : (grew : Bool) (o : Option Step) (old new : List (Option Step)) → Grows grew old new → Grows grew (o ∷ old) (o ∷ new)
grows_kept grew o old new g = record {
  same_length = ap suc g.same_length;
  fewer = λ e. let f = g.fewer e in let a = open_front o old in let b = open_front o new in omega (arith, f, a, b);
  same = λ e. ap (λ (z : List (Option Step)). o ∷ z) (g.same e);
}

grows_here : (grew : Bool) (s : Step) (old new : List (Option Step)) → Grows grew old new → Grows true (None ∷ old) (Some s ∷ new)
grows_here grew s old new g = record {
  same_length = ap suc g.same_length;
  fewer = λ e. let f = no_more_open grew old new g in let a = open_front None old in let b = open_front (Some s) new in omega (arith, f, a, b);
  same = λ e. absurd (never_both e);
}

changes_front : (entry : ℕ → Type 0) (s : Step) (o : Option Step) (old new : List (Option Step)) → Changes (λ p. entry (suc p)) s (at old) (at new) → Changes entry s (at (o ∷ old)) (at (o ∷ new))
changes_front entry s o old new c zero = inl refl
changes_front entry s o old new c (suc p) = c p

changes_here : (entry : ℕ → Type 0) (s : Step) (old new : List (Option Step)) → entry 0 → Changes (λ p. entry (suc p)) s (at old) (at new) → Changes entry s (at (None ∷ old)) (at (Some s ∷ new))
changes_here entry s old new h c zero = inr (refl, refl, h)
changes_here entry s old new h c (suc p) = c p

noted_front : (entry : ℕ → Type 0) (o : Option Step) (old new : List (Option Step)) → (entry 0 → (e : Step) × (o ≡ Some e)) → ((p : ℕ) → entry (suc p) → p < length old → IsNoted (at new) p)
    → (p : ℕ) → entry p → p < suc (length old) → IsNoted (at (o ∷ new)) p
noted_front entry o old new here rest zero h l = here h
noted_front entry o old new here rest (suc p) h l = rest p h (omega arith)

keep : (entry : ℕ → Type 0) (s : Step) (o : Option Step) (old : List (Option Step)) → (entry 0 → (e : Step) × (o ≡ Some e)) → Marked (λ p. entry (suc p)) s old → Marked entry s (o ∷ old)
keep entry s o old here m = record {
  steps = o ∷ m.steps;
  grew = m.grew;
  grows = grows_kept m.grew o old m.steps m.grows;
  changes = changes_front entry s o old m.steps m.changes;
  noted = noted_front entry o old m.steps here m.noted;
}

note : (entry : ℕ → Type 0) (s : Step) (old : List (Option Step)) → entry 0 → Marked (λ p. entry (suc p)) s old → Marked entry s (None ∷ old)
note entry s old h m = record {
  steps = Some s ∷ m.steps;
  grew = true;
  grows = grows_here m.grew s old m.steps m.grows;
  changes = changes_here entry s old m.steps h m.changes;
  noted = noted_front entry (Some s) old m.steps (λ k. (s, refl)) m.noted;
}

pub mark_all : (s : Step) (old : List (Option Step)) (entry : ℕ → Type 0) → ((p : ℕ) → Decided (entry p)) → Marked entry s old
mark_all s [] entry decide = record { steps = []; grew = false; grows = grows_same []; changes = λ p. inl refl; noted = λ p h l. absurd (omega arith) }
mark_all s (None ∷ old) entry decide =
    let m = mark_all s old (λ p. entry (suc p)) (λ p. decide (suc p)) in
    elim (decide 0) [ inl h ↦ note entry s old h m | inr n ↦ keep entry s None old (λ h. absurd (n h)) m ]
mark_all s (Some e ∷ old) entry decide = keep entry s (Some e) old (λ h. (e, refl)) (mark_all s old (λ p. entry (suc p)) (λ p. decide (suc p)))

-- Numbers of events one after another.
use Rattle.std.proofs.Common.{ℕ, ◌+◌, ◌≡◌, List, ◌++◌, Bool, ap, ◌∙◌, length-append}
use Rattle.std.specs.Prelude.{count_by, cond}
use Rattle.std.proofs.lemmas.List.Sums.{sum_by-append}
use Rattle.nsi_primitive.specs.declared.entry.Event.{Event}
use Rattle.stp_topology.specs.declared.network.Network.{Network}
use Rattle.run_totals.specs.Totals.{is_confirmed, is_committed, is_failed, kind_got, plus, totals_of}
use Rattle.run_totals.specs.declared.totals.Totals.{Totals}

count_append : {A : Type 0} (p : A → Bool) (xs ys : List A) → count_by p (xs ++ ys) ≡ count_by p xs + count_by p ys
count_append p xs ys = sum_by-append (λ x. cond (p x) 1 0) xs ys

abbrev made : (events confirmed committed failed : ℕ) → Totals
made events confirmed committed failed = record { events = events; confirmed = confirmed; committed = committed; failed = failed }

same : (e f c d p q g h : ℕ) → e ≡ f → c ≡ d → p ≡ q → g ≡ h → made e c p g ≡ made f d q h
same e f c d p q g h is_e is_c is_p is_g = ap (λ x. made x c p g) is_e ∙ (ap (λ x. made f x p g) is_c ∙ (ap (λ x. made f d x g) is_p ∙ ap (λ x. made f d q x) is_g))

pub totals_append : (t : Network) (xs ys : List Event) → totals_of t (xs ++ ys) ≡ plus (totals_of t xs) (totals_of t ys)
totals_append t xs ys =
    same _ _ _ _ _ _ _ _ (length-append xs ys) (count_append (λ e. is_confirmed (kind_got t e)) xs ys) (count_append (λ e. is_committed (kind_got t e)) xs ys)
    (count_append (λ e. is_failed (kind_got t e)) xs ys)

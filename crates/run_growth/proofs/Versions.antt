-- What is in step with rising versions rises.
use Rattle.std.proofs.Common.{ℕ, zero, suc, ◌+◌, ◌<◌, ◌≡◌, List, [], ◌∷◌, ◌++◌, inl, inr, sym, subst, arith, length, length-append, map}
use Rattle.std.specs.List.{slice_index}
use Rattle.std.proofs.lemmas.List.{get_or_append_left}
use Rattle.std.specs.List.Sorted.{IsStrictlyIncreasing}
use Rattle.nsi_primitive.specs.declared.message.Criteria.{Criteria}
use Rattle.connection_record.specs.Rising.{AreRising}
use Rattle.run_growth.specs.InStep.{version_of, InStepRises}

increasing_more : (a b : ℕ) (ns : List ℕ) → a < b → IsStrictlyIncreasing (b ∷ ns) → IsStrictlyIncreasing (a ∷ b ∷ ns)
increasing_more a b ns l h zero lt = l
increasing_more a b ns l h (suc k) lt =
    let next : suc k + 1 ≡ suc (k + 1) = omega arith in
    let less : k + 1 < length (b ∷ ns) = omega (arith, lt) in
    subst (λ n. slice_index (b ∷ ns) k < slice_index (a ∷ b ∷ ns) n) (sym next) (h k less)

pub versions_increase : (cs : List Criteria) → AreRising cs → IsStrictlyIncreasing (map version_of cs)
versions_increase [] h = λ k lt. absurd (omega (arith, lt))
versions_increase (c ∷ []) h = λ k lt. absurd (omega (arith, lt))
versions_increase (c ∷ d ∷ cs) h = increasing_more c.version d.version (map version_of cs) h.0 (versions_increase (d ∷ cs) h.1)

front_increases : (ns : List ℕ) (v : ℕ) → IsStrictlyIncreasing (ns ++ v ∷ []) → IsStrictlyIncreasing ns
front_increases ns v h k lt =
    let first : k < length ns = omega (arith, lt) in
    let longer : k + 1 < length (ns ++ v ∷ []) = omega (arith, lt, length-append ns (v ∷ [])) in
    let rise : slice_index (ns ++ v ∷ []) k < slice_index (ns ++ v ∷ []) (k + 1) = h k longer in
    omega (arith, rise, get_or_append_left ns (v ∷ []) 0 k first, get_or_append_left ns (v ∷ []) 0 (k + 1) lt)

pub in_step_rises : InStepRises
in_step_rises versions r (inl e) h = subst IsStrictlyIncreasing e (versions_increase r.committed h)
in_step_rises versions r (inr (v, e)) h = front_increases versions v (subst IsStrictlyIncreasing e (versions_increase r.committed h))

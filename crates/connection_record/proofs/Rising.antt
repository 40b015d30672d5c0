-- Versions that rise.
use Rattle.std.proofs.Common.{◌≡◌, ◌<◌, ◌-◌, ◌∙◌, ap, arith, suc, subst, length, List, [], ◌∷◌, ◌++◌, IfSome, slice_get}
use Rattle.nsi_primitive.specs.declared.message.Criteria.{Criteria}
use Rattle.connection_record.specs.Demand.{last}
use Rattle.connection_record.specs.Rising.{AreRising}

-- what stands in front doesn't change the last
last_behind : (a b : Criteria) (cs : List Criteria) → last (a ∷ b ∷ cs) ≡ last (b ∷ cs)
last_behind a b cs =
    let long : suc (suc (length cs)) - 1 ≡ suc (length cs) = omega arith in
    let short : length cs ≡ suc (length cs) - 1 = omega arith in
    ap (λ k. slice_get (a ∷ b ∷ cs) k) long ∙ ap (λ k. slice_get (b ∷ cs) k) short

-- a version above the last makes one more
pub rising_more : (cs : List Criteria) (c : Criteria) → AreRising cs → IfSome (last cs) (λ b. b.version < c.version) → AreRising (cs ++ c ∷ [])
rising_more [] c rising above = tt
rising_more (b ∷ []) c rising above = (above, tt)
rising_more (a ∷ b ∷ cs) c rising above = (rising.0, rising_more (b ∷ cs) c rising.1 (subst (λ o. IfSome o (λ x. x.version < c.version)) (last_behind a b cs) above))

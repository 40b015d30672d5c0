-- Stops that are planned for calls that are still to come.
use Rattle.std.proofs.Common.{◌≡◌, ℕ, ◌+◌, ◌≤◌, nat_eq, List, [], ◌∷◌, length, Some, Bool, true, false, refl, arith, eqb-true, if◌then◌else◌}
use Rattle.nsi_disk.specs.declared.plan.Image.{Image}
use Rattle.nsi_disk.specs.declared.plan.Stop.{Stop}
use Rattle.nsi_disk.specs.Plan.{planned_image, to_come}

pub few_to_come : (calls : ℕ) (stops : List Stop) → to_come calls stops ≤ length stops
few_to_come calls [] = omega arith
few_to_come calls (s ∷ stops) = let rest = few_to_come calls stops in omega (arith, rest)

-- a call more, and no more are to come
pub no_more : (calls : ℕ) (stops : List Stop) → to_come (calls + 1) stops ≤ to_come calls stops
no_more calls [] = omega arith
no_more calls (s ∷ stops) = let rest = no_more calls stops in omega (arith, rest)

-- and where it stops, fewer
pub one_less : (calls : ℕ) (stops : List Stop) (image : Image) → planned_image (calls + 1) stops ≡ Some image → to_come (calls + 1) stops + 1 ≤ to_come calls stops
one_less calls [] image is = absurd (cc)
one_less calls (s ∷ stops) image is = go (nat_eq s.call (calls + 1)) refl is (λ e. one_less calls stops image e)
  where
    go : (here : Bool) → nat_eq s.call (calls + 1) ≡ here → (if here then Some s.image else planned_image (calls + 1) stops) ≡ Some image
        → (planned_image (calls + 1) stops ≡ Some image → to_come (calls + 1) stops + 1 ≤ to_come calls stops) → to_come (calls + 1) (s ∷ stops) + 1 ≤ to_come calls (s ∷ stops)
    go true at e less = let same = eqb-true s.call (calls + 1) at in let rest = no_more calls stops in omega (arith, same, rest)
    go false at e less = let rest = less e in omega (arith, rest)

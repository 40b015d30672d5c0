-- Records after a tick, each at its place.
use Rattle.std.proofs.Common.{◌≡◌, ◌≤◌, ◌+◌, ℕ, zero, suc, Bool, true, false, List, [], ◌∷◌, Some, arith, refl, ap, subst, length, slice_get, sum_by}
use Rattle.std.proofs.lemmas.List.Sums.{sum_by-cons}
use Rattle.std.proofs.lemmas.Option.{none-some, same_Some}
use Rattle.nsi_primitive.specs.Ids.{id_of}
use Rattle.connection_record.specs.declared.record.Record.{Record}
use Rattle.provider_agent.specs.declared.agent.Agent.{Agent}
use Rattle.provider_agent.specs.Steps.{drawn, is_told_at, told_at, ticks_all}

-- each record of the one list, and the one at its place in the other
abbrev pub AreEach : (Record → Record → Type 0) → List Record → List Record → Type 0
AreEach R [] [] = Unit {0}
AreEach R [] (b ∷ ys) = ⊥
AreEach R (a ∷ xs) [] = ⊥
AreEach R (a ∷ xs) (b ∷ ys) = R a b × AreEach R xs ys

-- what stands among the new ones was one of the old,
pub each_new : (R : Record → Record → Type 0) (old new : List Record) (n : ℕ) (b : Record) → AreEach R old new → slice_get new n ≡ Some b → (a : Record) × (slice_get old n ≡ Some a) × R a b
each_new R [] [] n b each h = absurd (none-some b h)
each_new R [] (y ∷ ys) n b each h = absurd each
each_new R (x ∷ xs) [] n b each h = absurd each
each_new R (x ∷ xs) (y ∷ ys) zero b each h = (x, refl, subst (R x) (same_Some y b h) each.0)
each_new R (x ∷ xs) (y ∷ ys) (suc n) b each h = each_new R xs ys n b each.1 h

-- and what stood among the old ones is one of the new.
pub each_old : (R : Record → Record → Type 0) (old new : List Record) (n : ℕ) (a : Record) → AreEach R old new → slice_get old n ≡ Some a → (b : Record) × (slice_get new n ≡ Some b) × R a b
each_old R [] [] n a each h = absurd (none-some a h)
each_old R [] (y ∷ ys) n a each h = absurd each
each_old R (x ∷ xs) [] n a each h = absurd each
each_old R (x ∷ xs) (y ∷ ys) zero a each h = (y, refl, subst (λ z. R z y) (same_Some x a h) each.0)
each_old R (x ∷ xs) (y ∷ ys) (suc n) a each h = each_old R xs ys n a each.1 h

pub each_length : (R : Record → Record → Type 0) (old new : List Record) → AreEach R old new → length new ≡ length old
each_length R [] [] each = refl
each_length R [] (y ∷ ys) each = absurd each
each_length R (x ∷ xs) [] each = absurd each
each_length R (x ∷ xs) (y ∷ ys) each = ap suc (each_length R xs ys each.1)

-- a sum of less is less
pub each_sum_le : (R : Record → Record → Type 0) (f : Record → ℕ) (old new : List Record) → ((a b : Record) → R a b → f b ≤ f a) → AreEach R old new → sum_by f new ≤ sum_by f old
each_sum_le R f [] [] less each = omega arith
each_sum_le R f [] (y ∷ ys) less each = absurd each
each_sum_le R f (x ∷ xs) [] less each = absurd each
each_sum_le R f (x ∷ xs) (y ∷ ys) less each = omega (arith, sum_by-cons f x xs, sum_by-cons f y ys, less x y each.0, each_sum_le R f xs ys less each.1)

---- A tick

-- what holds of each record and of its tick holds of them all
pub each_ticked : (R : Record → Record → Type 0) (agent : Agent) (before now next : ℕ) (records : List Record) → ((c : ℕ) (r : Record) → R r (told_at agent before now c r).rec) → AreEach R records (ticks_all agent before now next records).records
unfolding ticks_all
each_ticked R agent before now next [] all = tt
each_ticked R agent before now next (r ∷ rs) all = (all (id_of agent.number next) r, each_ticked R agent before now (next + drawn (is_told_at agent before now r)) rs all)

-- one id is drawn at most for one change
pub drawn_le : (told : Bool) → drawn told ≤ 1
drawn_le true = omega arith
drawn_le false = omega arith

-- a tick draws one id for each record at most
pub record IsDrawnBy (next most after : ℕ) : Type 0 where
  pub least : next ≤ after
  pub most_is : after ≤ next + most

pub ticks_drawn : (agent : Agent) (before now next : ℕ) (records : List Record) → IsDrawnBy next (length records) (ticks_all agent before now next records).next
unfolding ticks_all
ticks_drawn agent before now next [] = record { least = omega arith; most_is = omega arith }
ticks_drawn agent before now next (r ∷ rs) =
    let told : Bool = is_told_at agent before now r in
    let rest = ticks_drawn agent before now (next + drawn told) rs in
    record { least = omega (arith, rest.least); most_is = omega (arith, rest.most_is, drawn_le told) }

-- A search by halves.
use Rattle.std.proofs.Common.{◌≡◌, ◌≤◌, ◌<◌, ◌+◌, ◌*◌, ◌^◌, ℕ, suc, arith, ap}
use Rattle.std.proofs.Math.Nat.{pow-suc}
use Rattle.capacity_calendar.specs.Steps.{HasHalved}

mul_le : (p a b : ℕ) → a ≤ b → p * a ≤ p * b
mul_le p a b h = grind arith

doubled : (p a : ℕ) → (p * 2) * a ≡ p * (a + a)
doubled p a = grind arith

-- before the first step
pub not_halved : (n old : ℕ) → HasHalved n n old old
not_halved n old = record { halvings = 0; steps = omega arith; halves = omega arith; still = omega arith }

-- one step more
pub halved_once : (n size next old new now : ℕ) → 0 < size → next + next ≤ size → now ≤ new + 1 → HasHalved n size old new → HasHalved n next old now
halved_once n size next old new now some half step h =
    let p : ℕ = 2 ^ h.halvings in
    let twice : 2 ^ suc h.halvings ≡ p * 2 = pow-suc 2 h.halvings in
    let least : p * 1 ≤ p * size = mul_le p 1 size (omega (arith, some)) in
    record {
      halvings = suc h.halvings;
      steps = omega (arith, step, h.steps);
      halves = omega (arith, twice, least, h.still);
      still = omega (arith, ap (λ x. x * next) twice, doubled p next, mul_le p (next + next) size half, h.still);
    }

-- where none is left
pub halved_out : (n size old new : ℕ) → HasHalved n size old new → HasHalved n 0 old new
halved_out n size old new h = record { halvings = h.halvings; steps = h.steps; halves = h.halves; still = omega arith }

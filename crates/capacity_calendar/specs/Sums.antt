-- Sums over numbers.
use Rattle.std.specs.Prelude.{ℕ, zero, suc, ◌+◌, ◌==◌, if◌then◌else◌}

-- the sum of f k for each k below n
unfoldable pub sum_upto : ℕ → (ℕ → ℕ) → ℕ
sum_upto zero f = 0
sum_upto (suc n) f = sum_upto n f + f n

-- the sum of f k for each k below n but m
abbrev pub sum_but : ℕ → ℕ → (ℕ → ℕ) → ℕ
sum_but m n f = sum_upto n (λ k. if k == m then 0 else f k)

-- The first line feed that is found is the first of the bytes.
use Rattle.std.proofs.Common.{◌≡◌, ◌<◌, ℕ, zero, suc, List, [], ◌∷◌, Bool, true, false, cond, length, ◌==◌, Option, Some, None, option_map, refl, sym, ap, arith}
use Rattle.std.specs.Prelude.{slice_index, IfSome}
use Rattle.memchr.specs.Find.{IsFirstByte, is_byte}
use Rattle.nsi_base.specs.Lines.{feed_at}

none_of : (xs : List ℕ) → ((j : ℕ) → j < length xs → (slice_index xs j == 10) ≡ true → ⊥) → feed_at xs ≡ None
unfolding feed_at
none_of [] apart = refl
none_of (x ∷ xs) apart = by_test (x == 10) refl (none_of xs (λ j low is. apart (suc j) (omega (arith, low)) is))
  where
    by_test : (b : Bool) → (x == 10) ≡ b → feed_at xs ≡ None → cond b (Some 0) (option_map suc (feed_at xs)) ≡ None
    by_test true e later = absurd (apart 0 (omega arith) e)
    by_test false e later = ap (option_map suc) later

first_of : (xs : List ℕ) (k : ℕ) → k < length xs → ((j : ℕ) → j < k → (slice_index xs j == 10) ≡ true → ⊥) → (slice_index xs k == 10) ≡ true → feed_at xs ≡ Some k
unfolding feed_at
first_of [] k low apart is = absurd (omega (arith, low))
first_of (x ∷ xs) zero low apart is = ap (λ b. cond b (Some 0) (option_map suc (feed_at xs))) is
first_of (x ∷ xs) (suc k) low apart is = by_test (x == 10) refl (first_of xs k (omega (arith, low)) (λ j less. apart (suc j) (omega (arith, less))) is)
  where
    by_test : (b : Bool) → (x == 10) ≡ b → feed_at xs ≡ Some k → cond b (Some 0) (option_map suc (feed_at xs)) ≡ Some (suc k)
    by_test true e later = absurd (apart 0 (omega arith) e)
    by_test false e later = ap (option_map suc) later

pub feed_is : (xs : List ℕ) (r : Option ℕ) → IsFirstByte (is_byte 10) xs r → r ≡ feed_at xs
feed_is xs None h = sym (none_of xs (λ j low. h j (omega arith) low))
feed_is xs (Some k) h = sym (first_of xs k h.0.high (λ j less. h.0.before j (omega arith) less) h.1)

pub feed_within : (xs : List ℕ) (r : Option ℕ) → IsFirstByte (is_byte 10) xs r → IfSome r (λ i. i < length xs)
feed_within xs None h = tt
feed_within xs (Some k) h = h.0.high

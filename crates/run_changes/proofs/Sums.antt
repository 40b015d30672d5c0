-- Sums over lists that are made of others.
use Rattle.std.proofs.Common.{◌≡◌, ◌≤◌, ◌+◌, ◌*◌, ℕ, Bool, true, false, cond, List, [], ◌∷◌, refl, arith, flat_map, length}
use Rattle.std.specs.List.{All, filter, sum_by}
use Rattle.std.proofs.lemmas.List.Elements.{All-head, All-tail}
use Rattle.std.proofs.lemmas.List.Sums.{sum_by-cons, sum_by-append}
use Rattle.connection_record.specs.Speaking.{one, tally}

pub tally_filter : {X : Type 0} (p : X → Bool) (xs : List X) → length (filter p xs) ≡ tally p xs
unfolding tally
tally_filter p [] = refl
tally_filter p (x ∷ xs) = by (p x) (tally_filter p xs)
  where
    by : (b : Bool) → length (filter p xs) ≡ tally p xs → length (cond b (x ∷ filter p xs) (filter p xs)) ≡ one b + tally p xs
    by true e = omega (arith, e)
    by false e = omega (arith, e)

pub sum_flat : {X Y : Type 0} (f : Y → ℕ) (g : X → List Y) (xs : List X) → sum_by f (flat_map g xs) ≡ sum_by (λ x. sum_by f (g x)) xs
sum_flat f g [] = refl
sum_flat f g (x ∷ xs) = omega (arith, sum_by-append f (g x) (flat_map g xs), sum_by-cons (λ z. sum_by f (g z)) x xs, sum_flat f g xs)

-- a list that is no shorter, whose elements are each worth one more, is worth more by the other's length
pub worth_more : {X Y : Type 0} (f : X → ℕ) (g : Y → ℕ) (m : ℕ) (xs : List X) (ys : List Y) → All (λ x. f x ≤ m) xs → All (λ y. 1 + m ≤ g y) ys → length xs ≤ length ys → length xs + sum_by f xs ≤ sum_by g ys
worth_more f g m [] ys low high few = omega arith
worth_more f g m (x ∷ xs) [] low high few = absurd (omega (arith, few))
worth_more f g m (x ∷ xs) (y ∷ ys) low high few =
    let rest : length xs + sum_by f xs ≤ sum_by g ys = worth_more f g m xs ys (All-tail (λ z. f z ≤ m) x xs low) (All-tail (λ z. 1 + m ≤ g z) y ys high) (omega (arith, few)) in
    omega (arith, rest, All-head (λ z. f z ≤ m) x xs low, All-head (λ z. 1 + m ≤ g z) y ys high, sum_by-cons f x xs, sum_by-cons g y ys)

-- what holds of each holds of the sums
pub sums_few : (c s p q : ℕ → ℕ) (ns : List ℕ) → All (λ n. c n + s n ≤ p n + 5 * q n) ns → sum_by c ns + sum_by s ns ≤ sum_by p ns + 5 * sum_by q ns
sums_few c s p q [] all = omega arith
sums_few c s p q (n ∷ ns) all =
    omega (
      arith,
      All-head (λ k. c k + s k ≤ p k + 5 * q k) n ns all,
      sums_few c s p q ns (All-tail (λ k. c k + s k ≤ p k + 5 * q k) n ns all),
      sum_by-cons c n ns,
      sum_by-cons s n ns,
      sum_by-cons p n ns,
      sum_by-cons q n ns,
    )

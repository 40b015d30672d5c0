-- There are no more points than starts and ends of slots.
use Rattle.std.proofs.Common.{◌≡◌, ◌≢◌, ◌≤◌, ◌<◌, ◌+◌, ◌*◌, ℕ, suc, List, [], ◌∷◌, Bool, true, false, cond, eqb, length, sum_by, Option, Some, None, arith, refl, ap}
use Rattle.std.proofs.lemmas.Bool.Decides.{nat_tests}
use Rattle.std.proofs.lemmas.List.Sums.{sum_by-cons}
use Rattle.nsi_base.specs.declared.flow.Flow.{Flow}
use Rattle.capacity_calendar.specs.declared.booking.Booking.{Booking}
use Rattle.capacity_calendar.specs.declared.booking.Point.{Point}
use Rattle.capacity_calendar.specs.declared.booking.Slot.{Slot}
use Rattle.capacity_calendar.specs.Load.{books_slot}
use Rattle.capacity_calendar.specs.Index.{one_if, slot_ends, booking_ends, ends, point_at, second_at, IsOrderly, IsIndex}
use Rattle.capacity_calendar.specs.Steps.{slot_count, booking_count, slots}
use Rattle.capacity_calendar.proofs.Points.{ends_of_point}

sum_zero : (ps : List Point) → sum_by (λ (p : Point). 0) ps ≡ 0
sum_zero [] = refl
sum_zero (p ∷ ps) = omega (arith, sum_by-cons (λ (q : Point). 0) p ps, sum_zero ps)

sum_same : (f g : Point → ℕ) (ps : List Point) → ((p : Point) → f p ≡ g p) → sum_by f ps ≡ sum_by g ps
sum_same f g [] h = refl
sum_same f g (p ∷ ps) h = omega (arith, sum_by-cons f p ps, sum_by-cons g p ps, h p, sum_same f g ps h)

sum_plus : (f g : Point → ℕ) (ps : List Point) → sum_by (λ p. f p + g p) ps ≡ sum_by f ps + sum_by g ps
sum_plus f g [] = refl
sum_plus f g (p ∷ ps) = omega (arith, sum_by-cons (λ q. f q + g q) p ps, sum_by-cons f p ps, sum_by-cons g p ps, sum_plus f g ps)

-- where each counts something, there are no more than they count
length_le : (f : Point → ℕ) (ps : List Point) → ((k : ℕ) → k < length ps → 0 < f (point_at ps k)) → length ps ≤ sum_by f ps
length_le f [] h = omega arith
length_le f (p ∷ ps) h = omega (arith, sum_by-cons f p ps, h 0 (omega arith), length_le f ps (λ k lt. h (suc k) (omega (arith, lt))))

-- the points rise, whatever they count
Rises : List Point → Type 0
Rises ps = (i j : ℕ) → i < j → j < length ps → second_at ps i < second_at ps j

-- whether a point is at a second
is_there : ℕ → Point → ℕ
is_there a p = one_if (eqb a p.second)

other : (a b : ℕ) → b ≢ a → one_if (eqb a b) ≡ 0
other a b n = let e : eqb a b ≡ false = grind (arith, nat_tests) in ap one_if e

nowhere_there : (a : ℕ) (ps : List Point) → ((k : ℕ) → k < length ps → second_at ps k ≢ a) → sum_by (is_there a) ps ≡ 0
unfolding is_there
nowhere_there a [] h = refl
nowhere_there a (p ∷ ps) h = omega (arith, sum_by-cons (λ q. one_if (eqb a q.second)) p ps, other a p.second (h 0 (omega arith)), nowhere_there a ps (λ k lt. h (suc k) (omega (arith, lt))))

once : (a : ℕ) (ps : List Point) → Rises ps → sum_by (is_there a) ps ≤ 1
unfolding is_there Rises
once a [] h = omega arith
once a (p ∷ ps) h = by_test (eqb a p.second) refl (once a ps (λ i j lt within. h (suc i) (suc j) (omega (arith, lt)) (omega (arith, within))))
  where
    same : (m n : ℕ) → eqb m n ≡ true → m ≡ n
    same m n e = grind (arith, nat_tests)

    at_most : (c : Bool) → one_if c ≤ 1
    at_most true = omega arith
    at_most false = omega arith

    by_test : (c : Bool) → eqb a p.second ≡ c → sum_by (is_there a) ps ≤ 1 → sum_by (is_there a) (p ∷ ps) ≤ 1
    by_test true e rest =
        let none = nowhere_there a ps (λ k lt q. absurd (omega (arith, same a p.second e, q, h 0 (suc k) (omega arith) (omega (arith, lt))))) in
        omega (arith, sum_by-cons (λ q. one_if (eqb a q.second)) p ps, none, at_most (eqb a p.second))
    by_test false e rest =
        let own : one_if (eqb a p.second) ≡ 0 = ap one_if e in
        omega (arith, sum_by-cons (λ q. one_if (eqb a q.second)) p ps, own, rest)

slot_sum : (flow : Flow) (stp : ℕ) (o : Option Slot) (ps : List Point) → Rises ps → sum_by (λ p. slot_ends flow stp p.second o) ps ≤ 2 * slot_count flow stp o
unfolding slot_ends is_there
slot_sum flow stp None ps h = omega (arith, sum_zero ps)
slot_sum flow stp (Some s) ps h = by_books (books_slot flow stp s)
  where
    by_books : (c : Bool) → sum_by (λ (p : Point). cond c (one_if (eqb s.interval.start p.second) + one_if (eqb s.interval.end p.second)) 0) ps ≤ 2 * one_if c
    by_books true =
        omega (arith, sum_plus (λ p. one_if (eqb s.interval.start p.second)) (λ p. one_if (eqb s.interval.end p.second)) ps, once s.interval.start ps h, once s.interval.end ps h)
    by_books false = omega (arith, sum_zero ps)

all_sum : (flow : Flow) (stp : ℕ) (bs : List Booking) (ps : List Point) → Rises ps → sum_by (λ p. ends flow stp p.second bs) ps ≤ 2 * slots flow stp bs
all_sum flow stp [] ps h = omega (arith, sum_zero ps)
all_sum flow stp (b ∷ bs) ps h =
    omega (
      arith,
      sum_same (λ p. ends flow stp p.second (b ∷ bs)) (λ p. booking_ends flow stp p.second b + ends flow stp p.second bs) ps (λ p. sum_by-cons (booking_ends flow stp p.second) b bs),
      sum_plus (λ p. booking_ends flow stp p.second b) (λ p. ends flow stp p.second bs) ps,
      sum_plus (λ p. slot_ends flow stp p.second b.committed) (λ p. slot_ends flow stp p.second b.pending) ps,
      slot_sum flow stp b.committed ps h,
      slot_sum flow stp b.pending ps h,
      sum_by-cons (booking_count flow stp) b bs,
      all_sum flow stp bs ps h,
    )

pub few_points : (flow : Flow) (stp : ℕ) (bs : List Booking) (ps : List Point) → IsOrderly ps → IsIndex flow stp bs ps → length ps ≤ 2 * slots flow stp bs
unfolding Rises
few_points flow stp bs ps o i =
    omega (
      arith,
      length_le (λ p. ends flow stp p.second bs) ps (λ k lt. omega (arith, ends_of_point ps k lt, o.used k lt, i.ends (second_at ps k))),
      all_sum flow stp bs ps o.order,
    )

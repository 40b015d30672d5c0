-- No load passes a capacity.
use Rattle.std.proofs.Common.{◌≡◌, ◌≤◌, ◌+◌, ℕ, List, [], ◌∷◌, Bool, true, false, cond, not, eqb, ltb, sum_by, filter, Option, Some, None, arith, refl, sym, ap, ◌∙◌, subst, inl, inr}
use Rattle.std.proofs.lemmas.List.Sums.{sum_by-cons, sum_by-append}
use Rattle.std.proofs.lemmas.Bool.{cases_Bool}
use Rattle.std.proofs.lemmas.Bool.Decides.{nat_tests}
use Rattle.std.specs.Option.{option_map_or, option_and_then}
use Rattle.nsi_base.specs.declared.flow.Flow.{Flow}
use Rattle.capacity_calendar.specs.declared.booking.Booking.{Booking}
use Rattle.capacity_calendar.specs.declared.booking.Capacity.{Capacity}
use Rattle.capacity_calendar.specs.Load.{larger_taken, claim, load, others}
use Rattle.capacity_calendar.specs.Plan.{HasOneEach, IsSound, booking_of, claim_of, counted, placed}
use Rattle.capacity_calendar.specs.Places.{capacity_at}

-- the others claim no more than all
pub others_le : (f : Booking → ℕ) (number : ℕ) (bs : List Booking) → sum_by f (others number bs) ≤ sum_by f bs
others_le f number [] = omega arith
others_le f number (b ∷ bs) = either (eqb b.number number) (others_le f number bs)
  where
    either : (c : Bool) → sum_by f (others number bs) ≤ sum_by f bs → sum_by f (cond (not c) (b ∷ others number bs) (others number bs)) ≤ sum_by f (b ∷ bs)
    either true h = omega (arith, h, sum_by-cons f b bs)
    either false h = omega (arith, h, sum_by-cons f b bs, sum_by-cons f b (others number bs))

-- the load of the others where there is a capacity
pub others_within : (capacities : List Capacity) (bs : List Booking) (number stp : ℕ) (flow : Flow) (capacity t : ℕ) → IsSound (record { capacities = capacities; bookings = bs }) → capacity_at capacities stp flow ≡ Some capacity
    → load flow stp t (others number bs) ≤ capacity
others_within capacities bs number stp flow capacity t s e = omega (arith, s.within flow stp t capacity e, others_le (claim flow stp t) number bs)

-- another record's booking in front leaves it out
cons_other : (f : Booking → ℕ) (number : ℕ) (b : Booking) (bs : List Booking) → eqb b.number number ≡ false → sum_by f (others number (b ∷ bs)) ≡ f b + sum_by f (others number bs)
cons_other f number b bs h = ap (λ c. sum_by f (cond (not c) (b ∷ others number bs) (others number bs))) h ∙ sum_by-cons f b (others number bs)

cons_own : (f : Booking → ℕ) (number : ℕ) (b : Booking) (bs : List Booking) → eqb b.number number ≡ true → sum_by f (others number (b ∷ bs)) ≡ sum_by f (others number bs)
cons_own f number b bs h = ap (λ c. sum_by f (cond (not c) (b ∷ others number bs) (others number bs))) h

booking_here : (number : ℕ) (b : Booking) (bs : List Booking) → eqb b.number number ≡ true → booking_of number (b ∷ bs) ≡ Some b
booking_here number b bs h = ap (λ c. cond c (Some b) (booking_of number bs)) h

booking_there : (number : ℕ) (b : Booking) (bs : List Booking) → eqb b.number number ≡ false → booking_of number (b ∷ bs) ≡ booking_of number bs
booking_there number b bs h = ap (λ c. cond c (Some b) (booking_of number bs)) h

same_number : (a b : ℕ) → eqb a b ≡ true → a ≡ b
same_number a b h = grind (arith, nat_tests)

-- a record without a booking has none to leave out
pub none_left_out : (f : Booking → ℕ) (number : ℕ) (bs : List Booking) → booking_of number bs ≡ None → sum_by f (others number bs) ≡ sum_by f bs
none_left_out f number [] h = refl
none_left_out f number (b ∷ bs) h = elim (cases_Bool (eqb b.number number)) [
  | inl e ↦ absurd (let found : Some b ≡ None = sym (booking_here number b bs e) ∙ h in cc)
  | inr e ↦ omega (arith, cons_other f number b bs e, none_left_out f number bs (sym (booking_there number b bs e) ∙ h), sum_by-cons f b bs)
]

-- the sum is that of the record's booking and of the others
pub sum_is : (f : Booking → ℕ) (number : ℕ) (bs : List Booking) (b : Booking) → HasOneEach bs → booking_of number bs ≡ Some b → sum_by f bs ≡ f b + sum_by f (others number bs)
sum_is f number [] b one h = absurd (let found : None ≡ Some b = h in cc)
sum_is f number (x ∷ bs) b one h = elim (cases_Bool (eqb x.number number)) [
  | inl e ↦
      let P : ℕ → Type 0 = λ n. booking_of n bs ≡ None in
      let same : Some x ≡ Some b = sym (booking_here number x bs e) ∙ h in
      let is : x ≡ b = cc in
      let rest = none_left_out f number bs (subst P (same_number x.number number e) one.0) in
      omega (arith, cons_own f number x bs e, rest, sum_by-cons f x bs, ap f is)
  | inr e ↦ omega (arith, cons_other f number x bs e, sum_by-cons f x bs, sum_is f number bs b one.1 (sym (booking_there number x bs e) ∙ h))
]

-- what the record's booking counts, and the others
pub one_out : (f : Booking → ℕ) (number : ℕ) (bs : List Booking) → HasOneEach bs → sum_by f bs ≡ counted f bs number + sum_by f (others number bs)
one_out f number bs one = by_booking (booking_of number bs) refl
  where
    by_booking : (o : Option Booking) → booking_of number bs ≡ o → sum_by f bs ≡ option_map_or f o 0 + sum_by f (others number bs)
    by_booking (Some b) e = sum_is f number bs b one e
    by_booking None e = omega (arith, none_left_out f number bs e)

pub claim_counted : (flow : Flow) (stp t number : ℕ) (bs : List Booking) → counted (claim flow stp t) bs number ≡ claim_of flow stp t number bs
unfolding larger_taken
claim_counted flow stp t number bs = by_booking (booking_of number bs)
  where
    by_booking : (o : Option Booking) → option_map_or (claim flow stp t) o 0 ≡ larger_taken flow stp t (option_and_then (λ b. b.committed) o) (option_and_then (λ b. b.pending) o)
    by_booking None = refl
    by_booking (Some b) = refl

-- the bookings of lesser and of greater numbers are those of the others
around : (f : Booking → ℕ) (number : ℕ) (bs : List Booking) → sum_by f (filter (λ x. ltb x.number number) bs) + sum_by f (filter (λ x. ltb number x.number) bs) ≡ sum_by f (others number bs)
around f number [] = refl
around f number (b ∷ bs) = by_tests (ltb b.number number) (ltb number b.number) (eqb b.number number) refl refl refl (around f number bs)
  where
    not_both : (a n : ℕ) → ltb a n ≡ true → ltb n a ≡ true → ⊥
    not_both a n p q = grind (arith, nat_tests)

    not_same : (a n : ℕ) → ltb a n ≡ true → eqb a n ≡ false
    not_same a n p = grind (arith, nat_tests)

    nor_same : (a n : ℕ) → ltb n a ≡ true → eqb a n ≡ false
    nor_same a n p = grind (arith, nat_tests)

    is_same : (a n : ℕ) → ltb a n ≡ false → ltb n a ≡ false → eqb a n ≡ true
    is_same a n p q = grind (arith, nat_tests)

    by_tests : (l g e : Bool) → ltb b.number number ≡ l → ltb number b.number ≡ g → eqb b.number number ≡ e → sum_by f (filter (λ x. ltb x.number number) bs) + sum_by f (filter (λ x. ltb number x.number) bs) ≡ sum_by f (others number bs)
        → sum_by f (cond l (b ∷ filter (λ x. ltb x.number number) bs) (filter (λ x. ltb x.number number) bs)) + sum_by f (cond g (b ∷ filter (λ x. ltb number x.number) bs) (filter (λ x. ltb number x.number) bs))
        ≡ sum_by f (cond (not e) (b ∷ others number bs) (others number bs))
    by_tests true true e p q r h = absurd (not_both b.number number p q)
    by_tests true false true p q r h = absurd (let n = not_same b.number number p in cc)
    by_tests true false false p q r h = omega (arith, h, sum_by-cons f b (filter (λ x. ltb x.number number) bs), sum_by-cons f b (others number bs))
    by_tests false true true p q r h = absurd (let n = nor_same b.number number q in cc)
    by_tests false true false p q r h = omega (arith, h, sum_by-cons f b (filter (λ x. ltb number x.number) bs), sum_by-cons f b (others number bs))
    by_tests false false true p q r h = h
    by_tests false false false p q r h = absurd (let n = is_same b.number number p q in cc)

-- the sum is that of the booking that is placed, and of the others
pub sum_placed : (f : Booking → ℕ) (b : Booking) (bs : List Booking) → sum_by f (placed b bs) ≡ f b + sum_by f (others b.number bs)
sum_placed f b bs =
    omega (arith, sum_by-append f (filter (λ x. ltb x.number b.number) bs) (b ∷ filter (λ x. ltb b.number x.number) bs), sum_by-cons f b (filter (λ x. ltb b.number x.number) bs), around f b.number bs)

-- A load is a sum over the numbers of records.
use Rattle.std.proofs.Common.{◌≡◌, ◌≢◌, ◌≤◌, ◌⊎◌, ℕ, zero, suc, List, [], ◌∷◌, Bool, true, false, cond, eqb, sum_by, Some, None, arith, refl, sym, ap, ◌∙◌, inl, inr}
use Rattle.std.proofs.lemmas.Bool.{cases_Bool}
use Rattle.std.proofs.lemmas.Bool.Decides.{nat_tests}
use Rattle.std.specs.Option.{option_map_or}
use Rattle.nsi_base.specs.declared.flow.Flow.{Flow}
use Rattle.capacity_calendar.specs.declared.booking.Booking.{Booking}
use Rattle.capacity_calendar.specs.Load.{claim, load, others}
use Rattle.capacity_calendar.specs.Plan.{Plan, HasOneEach, HasNoneFrom, booking_of, counted, claim_of, first_lack}
use Rattle.capacity_calendar.specs.Places.{places}
use Rattle.capacity_calendar.specs.Lack.{first_lack_by}
use Rattle.capacity_calendar.specs.Sums.{sum_upto, sum_but}
use Rattle.capacity_calendar.proofs.FirstLack.{first_lack_by-same}
use Rattle.nsi_base.specs.Range.{Span}
use Rattle.capacity_calendar.proofs.Within.{one_out, claim_counted}
use Rattle.capacity_calendar.proofs.Sound.{one_each_of_others}
use Rattle.capacity_calendar.proofs.ByNumber.{booking_of-others_same, booking_of-others_other, none_from_others}
use Rattle.capacity_calendar.proofs.Sums.{sum_upto-suc, sum_upto-same, sum_upto-zero}

-- where no number has a booking there is none
none_at_all : (f : Booking → ℕ) (bs : List Booking) → HasNoneFrom 0 bs → sum_by f bs ≡ 0
none_at_all f [] h = refl
none_at_all f (b ∷ bs) h =
    let same : eqb b.number b.number ≡ true = grind (arith, nat_tests) in
    let found : Some b ≡ None = sym (ap (λ c. cond c (Some b) (booking_of b.number bs)) same) ∙ h b.number (omega arith) in
    absurd (cc)

pub counted_of_others : (f : Booking → ℕ) (k number : ℕ) (bs : List Booking) → k ≢ number → counted f (others number bs) k ≡ counted f bs k
counted_of_others f k number bs d = ap (λ o. option_map_or f o 0) (booking_of-others_other k number bs d)

-- A sum over bookings is one over the numbers of their records.
pub sum_by_number : (f : Booking → ℕ) (n : ℕ) (bs : List Booking) → HasOneEach bs → HasNoneFrom n bs → sum_by f bs ≡ sum_upto n (counted f bs)
sum_by_number f zero bs one none = none_at_all f bs none ∙ sym (sum_upto-zero (counted f bs))
sum_by_number f (suc n) bs one none =
    let rest = sum_by_number f n (others n bs) (one_each_of_others n bs one) still_none in
    let same = sum_upto-same n (counted f (others n bs)) (counted f bs) (λ k lt. counted_of_others f k n bs (λ e. absurd (omega (arith, e, lt)))) in
    omega (arith, one_out f n bs one, rest, same, sum_upto-suc n (counted f bs))
  where
    at : (k : ℕ) → n ≤ k → (k ≡ n) ⊎ (suc n ≤ k)
    at k le = grind arith

    still_none : HasNoneFrom n (others n bs)
    still_none k le = elim (at k le) [
      | inl e ↦ ap (λ m. booking_of m (others n bs)) e ∙ booking_of-others_same n bs
      | inr l ↦ booking_of-others_other k n bs (λ e. absurd (omega (arith, e, l))) ∙ none k l
    ]

-- The load is the sum of what each record below a number claims, where none from it on has a booking.
pub load_by_number : (flow : Flow) (stp t n : ℕ) (bs : List Booking) → HasOneEach bs → HasNoneFrom n bs → load flow stp t bs ≡ sum_upto n (λ k. claim_of flow stp t k bs)
load_by_number flow stp t n bs one none = sum_by_number (claim flow stp t) n bs one none ∙ sum_upto-same n _ _ (λ k lt. claim_counted flow stp t k bs)

-- The load of the other records is the sum without the one.
pub load_of_others_by_number : (flow : Flow) (stp t number n : ℕ) (bs : List Booking) → HasOneEach bs → HasNoneFrom n bs
    → load flow stp t (others number bs) ≡ sum_but number n (λ k. claim_of flow stp t k bs)
load_of_others_by_number flow stp t number n bs one none =
    sum_by_number (claim flow stp t) n (others number bs) (one_each_of_others number bs one) (none_from_others n number bs none) ∙ sum_upto-same n _ _ (λ k lt. each k)
  where
    f : Booking → ℕ
    f = claim flow stp t

    same : (k : ℕ) → eqb k number ≡ true → k ≡ number
    same k e = grind (arith, nat_tests)

    apart : (k : ℕ) → eqb k number ≡ false → k ≢ number
    apart k e = grind (arith, nat_tests)

    each : (k : ℕ) → counted (claim flow stp t) (others number bs) k ≡ cond (eqb k number) 0 (claim_of flow stp t k bs)
    each k = elim (cases_Bool (eqb k number)) [
      | inl e ↦
          ap (λ m. counted (claim flow stp t) (others number bs) m) (same k e) ∙ ap (λ o. option_map_or (claim flow stp t) o 0) (booking_of-others_same number bs)
          ∙ sym (ap (λ c. cond c 0 (claim_of flow stp t k bs)) e)
      | inr e ↦ counted_of_others (claim flow stp t) k number bs (apart k e) ∙ claim_counted flow stp t k bs ∙ sym (ap (λ c. cond c 0 (claim_of flow stp t k bs)) e)
    ]

-- The first lack of what a record asks is that by the sum of what each other record claims.
pub first_lack_by_number : (plan : Plan) (number source dest : ℕ) (both_ways : Bool) (span : Span) (mbps n : ℕ) → HasOneEach plan.bookings → HasNoneFrom n plan.bookings
    → first_lack plan number source dest both_ways span mbps
    ≡ first_lack_by (λ flow stp t. sum_but number n (λ k. claim_of flow stp t k plan.bookings)) (places plan.capacities source dest both_ways) span mbps
first_lack_by_number plan number source dest both_ways span mbps n one none =
    first_lack_by-same _ _ (places plan.capacities source dest both_ways) span mbps (λ flow stp t. load_of_others_by_number flow stp t number n plan.bookings one none)

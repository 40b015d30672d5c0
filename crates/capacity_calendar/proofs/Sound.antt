-- What each change of a plan keeps.
use Rattle.std.proofs.Common.{◌≡◌, ◌≤◌, ◌+◌, ℕ, ◌&&◌, List, [], ◌∷◌, Bool, true, false, cond, not, eqb, max, sum_by, Some, None, arith, refl, sym, ap, ◌∙◌, subst}
use Rattle.std.proofs.lemmas.List.Sums.{sum_by-cons}
use Rattle.nsi_base.specs.Range.{is_covered}
use Rattle.nsi_base.specs.declared.flow.Flow.{Flow}
use Rattle.capacity_calendar.specs.declared.booking.Booking.{Booking}
use Rattle.capacity_calendar.specs.declared.booking.Capacity.{Capacity}
use Rattle.capacity_calendar.specs.declared.booking.Slot.{Slot}
use Rattle.capacity_calendar.specs.Load.{books_slot, taken, larger_taken, claim, others}
use Rattle.capacity_calendar.specs.Plan.{first_lack, HasOneEach, IsSound, booking_of, committed_of, pending_of, counted, changed, pending_set, with_pending, settled}
use Rattle.capacity_calendar.proofs.Fits.{fits_where_booked}
use Rattle.capacity_calendar.proofs.Within.{others_le, one_out, claim_counted, sum_placed}

-- a sum doesn't rise where what is changed claims no more
changed_le : (f : Booking → ℕ) (number : ℕ) (g : Booking → Booking) → ((b : Booking) → f (g b) ≤ f b) → (bs : List Booking) → sum_by f (changed number g bs) ≤ sum_by f bs
changed_le f number g h [] = omega arith
changed_le f number g h (b ∷ bs) = either (eqb b.number number) (changed_le f number g h bs)
  where
    either : (c : Bool) → sum_by f (changed number g bs) ≤ sum_by f bs → sum_by f (cond c (g b) b ∷ changed number g bs) ≤ sum_by f (b ∷ bs)
    either true q = omega (arith, q, h b, sum_by-cons f (g b) (changed number g bs), sum_by-cons f b bs)
    either false q = omega (arith, q, sum_by-cons f b (changed number g bs), sum_by-cons f b bs)

-- a record without a booking still has none
still_none_of_others : (n number : ℕ) (bs : List Booking) → booking_of n bs ≡ None → booking_of n (others number bs) ≡ None
still_none_of_others n number [] h = refl
still_none_of_others n number (b ∷ bs) h = by_tests (eqb b.number n) (eqb b.number number) refl h (still_none_of_others n number bs)
  where
    by_tests : (c d : Bool) → eqb b.number n ≡ c → cond c (Some b) (booking_of n bs) ≡ None → (booking_of n bs ≡ None → booking_of n (others number bs) ≡ None)
        → booking_of n (cond (not d) (b ∷ others number bs) (others number bs)) ≡ None
    by_tests true d e h next = absurd (cc)
    by_tests false true e h next = next h
    by_tests false false e h next = ap (λ c. cond c (Some b) (booking_of n (others number bs))) e ∙ next h

pub one_each_of_others : (number : ℕ) (bs : List Booking) → HasOneEach bs → HasOneEach (others number bs)
one_each_of_others number [] h = tt
one_each_of_others number (b ∷ bs) h = either (eqb b.number number) (one_each_of_others number bs h.1)
  where
    either : (c : Bool) → HasOneEach (others number bs) → HasOneEach (cond (not c) (b ∷ others number bs) (others number bs))
    either true q = q
    either false q = (still_none_of_others b.number number bs h.0, q)

-- a change that keeps the number
abbrev pub KeepsNumber : (Booking → Booking) → Type 0
KeepsNumber g = (b : Booking) → (g b).number ≡ b.number

change_keeps : (number : ℕ) (g : Booking → Booking) → KeepsNumber g → (b : Booking) → (cond (eqb b.number number) (g b) b).number ≡ b.number
change_keeps number g k b = either (eqb b.number number)
  where
    either : (c : Bool) → (cond c (g b) b).number ≡ b.number
    either true = k b
    either false = refl

still_none_changed : (n number : ℕ) (g : Booking → Booking) → KeepsNumber g → (bs : List Booking) → booking_of n bs ≡ None → booking_of n (changed number g bs) ≡ None
still_none_changed n number g k [] h = refl
still_none_changed n number g k (b ∷ bs) h = by_test (eqb b.number n) refl h (still_none_changed n number g k bs)
  where
    by_test : (c : Bool) → eqb b.number n ≡ c → cond c (Some b) (booking_of n bs) ≡ None → (booking_of n bs ≡ None → booking_of n (changed number g bs) ≡ None) → booking_of n (changed number g (b ∷ bs)) ≡ None
    by_test true e h next = absurd (cc)
    by_test false e h next =
        ap (λ c. cond c (Some (cond (eqb b.number number) (g b) b)) (booking_of n (changed number g bs))) (ap (λ m. eqb m n) (change_keeps number g k b) ∙ e) ∙ next h

one_each_changed : (number : ℕ) (g : Booking → Booking) → KeepsNumber g → (bs : List Booking) → HasOneEach bs → HasOneEach (changed number g bs)
one_each_changed number g k [] h = tt
one_each_changed number g k (b ∷ bs) h =
    let P : ℕ → Type 0 = λ n. booking_of n (changed number g bs) ≡ None in
    (subst P (sym (change_keeps number g k b)) (still_none_changed b.number number g k bs h.0), one_each_changed number g k bs h.1)

-- taking a record's booking away
pub sound_others : (capacities : List Capacity) (number : ℕ) (bs : List Booking) → IsSound (record { capacities = capacities; bookings = bs }) → IsSound (record { capacities = capacities; bookings = others number bs })
sound_others capacities number bs s = record {
  within = λ flow stp t capacity e. omega (arith, s.within flow stp t capacity e, others_le (claim flow stp t) number bs);
  one_each = one_each_of_others number bs s.one_each;
}

-- a change of a record's booking that claims no more
sound_changed : (capacities : List Capacity) (number : ℕ) (g : Booking → Booking) (bs : List Booking) → KeepsNumber g → ((flow : Flow) (stp t : ℕ) (b : Booking) → claim flow stp t (g b) ≤ claim flow stp t b)
    → IsSound (record { capacities = capacities; bookings = bs }) → IsSound (record { capacities = capacities; bookings = changed number g bs })
sound_changed capacities number g bs k less s = record {
  within = λ flow stp t capacity e. omega (arith, s.within flow stp t capacity e, changed_le (claim flow stp t) number g (less flow stp t) bs);
  one_each = one_each_changed number g k bs s.one_each;
}

larger_of_fewer : (m n : ℕ) → (max n 0 ≤ max m n) × (max m 0 ≤ max m n)
larger_of_fewer m n = (omega arith, omega arith)

-- settling
pub sound_settled : (capacities : List Capacity) (number : ℕ) (bs : List Booking) → IsSound (record { capacities = capacities; bookings = bs }) → IsSound (record { capacities = capacities; bookings = settled number bs })
unfolding larger_taken
sound_settled capacities number bs s =
    sound_changed capacities number (λ b. record b { committed = b.pending; pending = None }) bs (λ b. refl)
    (λ flow stp t b. (larger_of_fewer (taken flow stp t b.committed) (taken flow stp t b.pending)).0) s

-- taking the pending slot away
pub sound_unset : (capacities : List Capacity) (number : ℕ) (bs : List Booking) → IsSound (record { capacities = capacities; bookings = bs }) → IsSound (record { capacities = capacities; bookings = pending_set number None bs })
unfolding larger_taken
sound_unset capacities number bs s =
    sound_changed capacities number (λ b. record b { pending = None }) bs (λ b. refl)
    (λ flow stp t b. (larger_of_fewer (taken flow stp t b.committed) (taken flow stp t b.pending)).1) s

-- What is claimed with a slot pending is what is committed, or the slot's bandwidth where it fits.
claim_fits : (flow : Flow) (stp t : ℕ) (b : Booking) (slot : Slot) (rest capacity : ℕ) → rest + claim flow stp t b ≤ capacity
    → (books_slot flow stp slot ≡ true → is_covered slot.interval t ≡ true → rest + slot.mbps ≤ capacity) → rest + claim flow stp t (record b { pending = Some slot }) ≤ capacity
unfolding larger_taken
claim_fits flow stp t b slot rest capacity = either (books_slot flow stp slot) (is_covered slot.interval t) (taken flow stp t b.committed) (taken flow stp t b.pending)
  where
    either : (e d : Bool) (m n : ℕ) → rest + max m n ≤ capacity → (e ≡ true → d ≡ true → rest + slot.mbps ≤ capacity) → rest + max m (cond (e && d) slot.mbps 0) ≤ capacity
    either true true m n h f = omega (arith, h, f refl refl)
    either true false m n h f = omega (arith, h)
    either false d m n h f = omega (arith, h)

-- The slot has room beside the other records.
abbrev pub FitsIn : List Capacity → ℕ → Slot → List Booking → Type 0
FitsIn capacities number slot bs = first_lack (record { capacities = capacities; bookings = bs }) number slot.source slot.dest slot.both_ways slot.interval slot.mbps ≡ None

-- a slot more that fits, where each record has one booking still
pub sound_with_pending : (capacities : List Capacity) (number : ℕ) (slot : Slot) (bs : List Booking) → FitsIn capacities number slot bs → HasOneEach (with_pending number slot bs)
    → IsSound (record { capacities = capacities; bookings = bs }) → IsSound (record { capacities = capacities; bookings = with_pending number slot bs })
sound_with_pending capacities number slot bs free one s = record {
  within = λ flow stp t capacity e.
      let f = claim flow stp t in
      let former : Booking = record { number = number; committed = committed_of number bs; pending = pending_of number bs } in
      let fits = fits_where_booked (record { capacities = capacities; bookings = bs }) number slot.source slot.dest slot.both_ways slot.interval slot.mbps free flow stp t capacity e in
      let own : counted f bs number ≡ f former = claim_counted flow stp t number bs in
      let before : sum_by f (others number bs) + f former ≤ capacity = omega (arith, s.within flow stp t capacity e, one_out f number bs s.one_each, own) in
      let after = claim_fits flow stp t former slot (sum_by f (others number bs)) capacity before fits in
      omega (arith, after, sum_placed f (record former { pending = Some slot }) bs);
  one_each = one;
}

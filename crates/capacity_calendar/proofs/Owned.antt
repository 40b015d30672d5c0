-- The index of all bookings, by what one record has booked and what the others have.
use Rattle.std.proofs.Common.{◌≡◌, ◌≤◌, ℕ, List, [], ◌∷◌, Bool, true, false, cond, not, eqb, max, Option, Some, None, arith, refl, sym, ap, ◌∙◌, subst}
use Rattle.std.proofs.lemmas.List.Sums.{sum_by-cons}
use Rattle.nsi_base.specs.declared.flow.Flow.{Flow}
use Rattle.capacity_calendar.specs.declared.booking.Booking.{Booking}
use Rattle.capacity_calendar.specs.declared.booking.Capacity.{Capacity}
use Rattle.capacity_calendar.specs.declared.booking.Point.{Point}
use Rattle.capacity_calendar.specs.declared.booking.Slot.{Slot}
use Rattle.capacity_calendar.specs.Load.{taken, larger_taken, claim, load, others}
use Rattle.capacity_calendar.specs.Plan.{HasOneEach, IsSound, committed_of, pending_of, changed, pending_set, with_pending, settled}
use Rattle.capacity_calendar.specs.Places.{capacity_at}
use Rattle.capacity_calendar.specs.Changes.{booking_with, IsWithinFlow}
use Rattle.capacity_calendar.specs.Index.{booking_ends, ends, ends_by, Timeline, timeline_at, AreLoads, Tells, IsIndex, IsIndexed, IsIndexedAt, IsIndexFor}
use Rattle.std.specs.Option.{IfSome}
use Rattle.capacity_calendar.specs.declared.booking.Place.{Place}
use Rattle.capacity_calendar.proofs.Steady.{tells_load}
use Rattle.capacity_calendar.proofs.Sound.{KeepsNumber, one_each_of_others}
use Rattle.capacity_calendar.proofs.SlotsByNumber.{committed_of-settled_same, pending_of-settled_same, pending_of-unset_same, committed_of-pending_set_same, committed_of-with_pending_same, pending_of-with_pending_same, committed_of-others_same, pending_of-others_same}
use Rattle.capacity_calendar.proofs.Turns.{index_same}
use Rattle.capacity_calendar.proofs.Walk.{own_of, own_out, own_ends_out}
use Rattle.capacity_calendar.proofs.Within.{sum_placed}

indexed_same : (capacities : List Capacity) (flow : Flow) (bs cs : List Booking) (lines : List Timeline) → ((stp t : ℕ) → load flow stp t bs ≡ load flow stp t cs) → ((stp t : ℕ) → ends flow stp t bs ≡ ends flow stp t cs)
    → IsIndexed capacities flow bs lines → IsIndexed capacities flow cs lines
indexed_same capacities flow bs cs lines l e i = λ stp n le h. index_same flow stp bs cs _ (l stp) (e stp) (i stp n le h)

-- where the points are the same
pub same_points : (capacities : List Capacity) (flow : Flow) (bs : List Booking) (old new : List Timeline) → ((q : ℕ) → (timeline_at new q).points ≡ (timeline_at old q).points) → IsIndexed capacities flow bs old → IsIndexed capacities flow bs new
same_points capacities flow bs old new same i = λ stp n le e. subst (λ (ps : List Point). IsIndex flow stp bs ps) (sym (same stp)) (i stp n le e)

---- What a record has booked, in front of the others

own_front : (capacities : List Capacity) (flow : Flow) (n : ℕ) (bs : List Booking) (lines : List Timeline) → HasOneEach bs → IsIndexed capacities flow bs lines → IsIndexed capacities flow (own_of n bs ∷ others n bs) lines
own_front capacities flow n bs lines one =
    indexed_same capacities flow bs (own_of n bs ∷ others n bs) lines
    (λ stp t. own_out flow stp t n bs one ∙ sym (sum_by-cons (claim flow stp t) (own_of n bs) (others n bs)))
    (λ stp t. own_ends_out flow stp t n bs one ∙ sym (sum_by-cons (booking_ends flow stp t) (own_of n bs) (others n bs)))

own_back : (capacities : List Capacity) (flow : Flow) (n : ℕ) (bs : List Booking) (lines : List Timeline) (b : Booking) → HasOneEach bs → own_of n bs ≡ b → IsIndexed capacities flow (b ∷ others n bs) lines → IsIndexed capacities flow bs lines
own_back capacities flow n bs lines b one e i =
    indexed_same capacities flow (own_of n bs ∷ others n bs) bs lines
    (λ stp t. sum_by-cons (claim flow stp t) (own_of n bs) (others n bs) ∙ sym (own_out flow stp t n bs one))
    (λ stp t. sum_by-cons (booking_ends flow stp t) (own_of n bs) (others n bs) ∙ sym (own_ends_out flow stp t n bs one))
    (subst (λ (x : Booking). IsIndexed capacities flow (x ∷ others n bs) lines) (sym e) i)

-- within the capacities as long as all bookings are
own_within : (capacities : List Capacity) (flow : Flow) (n : ℕ) (bs : List Booking) (b : Booking) → IsSound (record { capacities = capacities; bookings = bs }) → own_of n bs ≡ b → IsWithinFlow capacities flow (b ∷ others n bs)
own_within capacities flow n bs b s e = λ stp t c h.
    omega (arith, s.within flow stp t c h, own_out flow stp t n bs s.one_each, sum_by-cons (claim flow stp t) b (others n bs), ap (claim flow stp t) e)

-- Which of the two slots is named first makes no difference.
swapped : (capacities : List Capacity) (flow : Flow) (n : ℕ) (a b : Option Slot) (os : List Booking) (lines : List Timeline) → IsIndexed capacities flow (booking_with n a b ∷ os) lines → IsIndexed capacities flow (booking_with n b a ∷ os) lines
unfolding larger_taken
swapped capacities flow n a b os lines =
    indexed_same capacities flow (booking_with n a b ∷ os) (booking_with n b a ∷ os) lines
    (λ stp t. omega (arith, sum_by-cons (claim flow stp t) (booking_with n a b) os, sum_by-cons (claim flow stp t) (booking_with n b a) os, turned (taken flow stp t a) (taken flow stp t b)))
    (λ stp t. omega (arith, sum_by-cons (booking_ends flow stp t) (booking_with n a b) os, sum_by-cons (booking_ends flow stp t) (booking_with n b a) os))
  where
    turned : (x y : ℕ) → max x y ≡ max y x
    turned x y = omega arith

---- The others, after a change

others_changed : (n : ℕ) (g : Booking → Booking) → KeepsNumber g → (bs : List Booking) → others n (changed n g bs) ≡ others n bs
others_changed n g k [] = refl
others_changed n g k (b ∷ bs) = by_test (eqb b.number n) refl (others_changed n g k bs)
  where
    by_test : (c : Bool) → eqb b.number n ≡ c → others n (changed n g bs) ≡ others n bs → others n (cond c (g b) b ∷ changed n g bs) ≡ cond (not c) (b ∷ others n bs) (others n bs)
    by_test true e h = ap (λ d. cond (not d) (g b ∷ others n (changed n g bs)) (others n (changed n g bs))) (ap (λ m. eqb m n) (k b) ∙ e) ∙ h
    by_test false e h = ap (λ d. cond (not d) (b ∷ others n (changed n g bs)) (others n (changed n g bs))) e ∙ ap (λ xs. b ∷ xs) h

others_twice : (n : ℕ) (bs : List Booking) → others n (others n bs) ≡ others n bs
others_twice n [] = refl
others_twice n (b ∷ bs) = by_test (eqb b.number n) refl (others_twice n bs)
  where
    by_test : (c : Bool) → eqb b.number n ≡ c → others n (others n bs) ≡ others n bs → others n (cond (not c) (b ∷ others n bs) (others n bs)) ≡ cond (not c) (b ∷ others n bs) (others n bs)
    by_test true e h = h
    by_test false e h = ap (λ d. cond (not d) (b ∷ others n (others n bs)) (others n (others n bs))) e ∙ ap (λ xs. b ∷ xs) h

---- Each change

own_is : (n : ℕ) (bs : List Booking) (c p : Option Slot) → committed_of n bs ≡ c → pending_of n bs ≡ p → own_of n bs ≡ booking_with n c p
own_is n bs c p e f = ap (λ x. booking_with n x (pending_of n bs)) e ∙ ap (booking_with n c) f

-- settling
settled_own : (n : ℕ) (bs : List Booking) → own_of n (settled n bs) ≡ booking_with n (pending_of n bs) None
settled_own n bs = own_is n (settled n bs) _ _ (committed_of-settled_same n bs) (pending_of-settled_same n bs)

pub settle_before : (capacities : List Capacity) (flow : Flow) (n : ℕ) (bs : List Booking) (lines : List Timeline) → HasOneEach bs → IsIndexed capacities flow bs lines
    → IsIndexed capacities flow (booking_with n (pending_of n bs) (committed_of n bs) ∷ others n (settled n bs)) lines
settle_before capacities flow n bs lines one i =
    subst (λ (os : List Booking). IsIndexed capacities flow (booking_with n (pending_of n bs) (committed_of n bs) ∷ os) lines) (sym (others_changed n (λ b. record b { committed = b.pending; pending = None }) (λ b. refl) bs))
    (swapped capacities flow n (committed_of n bs) (pending_of n bs) (others n bs) lines (own_front capacities flow n bs lines one i))

pub settle_within : (capacities : List Capacity) (flow : Flow) (n : ℕ) (bs : List Booking) → IsSound (record { capacities = capacities; bookings = settled n bs }) → IsWithinFlow capacities flow (booking_with n (pending_of n bs) None ∷ others n (settled n bs))
settle_within capacities flow n bs s = own_within capacities flow n (settled n bs) _ s (settled_own n bs)

pub settle_after : (capacities : List Capacity) (flow : Flow) (n : ℕ) (bs : List Booking) (lines : List Timeline) → HasOneEach (settled n bs)
    → IsIndexed capacities flow (booking_with n (pending_of n bs) None ∷ others n (settled n bs)) lines → IsIndexed capacities flow (settled n bs) lines
settle_after capacities flow n bs lines one i = own_back capacities flow n (settled n bs) lines _ one (settled_own n bs) i

-- taking the pending slot
unset_own : (n : ℕ) (bs : List Booking) → own_of n (pending_set n None bs) ≡ booking_with n (committed_of n bs) None
unset_own n bs = own_is n (pending_set n None bs) _ _ (committed_of-pending_set_same n None bs) (pending_of-unset_same n bs)

pub unset_before : (capacities : List Capacity) (flow : Flow) (n : ℕ) (bs : List Booking) (lines : List Timeline) → HasOneEach bs → IsIndexed capacities flow bs lines
    → IsIndexed capacities flow (booking_with n (committed_of n bs) (pending_of n bs) ∷ others n (pending_set n None bs)) lines
unset_before capacities flow n bs lines one i =
    subst (λ (os : List Booking). IsIndexed capacities flow (booking_with n (committed_of n bs) (pending_of n bs) ∷ os) lines) (sym (others_changed n (λ b. record b { pending = None }) (λ b. refl) bs))
    (own_front capacities flow n bs lines one i)

pub unset_within : (capacities : List Capacity) (flow : Flow) (n : ℕ) (bs : List Booking) → IsSound (record { capacities = capacities; bookings = pending_set n None bs })
    → IsWithinFlow capacities flow (booking_with n (committed_of n bs) None ∷ others n (pending_set n None bs))
unset_within capacities flow n bs s = own_within capacities flow n (pending_set n None bs) _ s (unset_own n bs)

pub unset_after : (capacities : List Capacity) (flow : Flow) (n : ℕ) (bs : List Booking) (lines : List Timeline) → HasOneEach (pending_set n None bs)
    → IsIndexed capacities flow (booking_with n (committed_of n bs) None ∷ others n (pending_set n None bs)) lines → IsIndexed capacities flow (pending_set n None bs) lines
unset_after capacities flow n bs lines one i = own_back capacities flow n (pending_set n None bs) lines _ one (unset_own n bs) i

-- taking all
pub take_before : (capacities : List Capacity) (flow : Flow) (n : ℕ) (bs : List Booking) (lines : List Timeline) → HasOneEach bs → IsIndexed capacities flow bs lines
    → IsIndexed capacities flow (booking_with n (pending_of n bs) (committed_of n bs) ∷ others n (others n bs)) lines
take_before capacities flow n bs lines one i =
    subst (λ (os : List Booking). IsIndexed capacities flow (booking_with n (pending_of n bs) (committed_of n bs) ∷ os) lines) (sym (others_twice n bs))
    (swapped capacities flow n (committed_of n bs) (pending_of n bs) (others n bs) lines (own_front capacities flow n bs lines one i))

pub take_within : (capacities : List Capacity) (flow : Flow) (n : ℕ) (bs : List Booking) → IsSound (record { capacities = capacities; bookings = bs }) → IsWithinFlow capacities flow (booking_with n (pending_of n bs) None ∷ others n (others n bs))
unfolding larger_taken
take_within capacities flow n bs s = λ stp t c h.
    let os : List Booking = others n (others n bs) in
    omega (
      arith,
      s.within flow stp t c h,
      own_out flow stp t n bs s.one_each,
      sum_by-cons (claim flow stp t) (booking_with n (pending_of n bs) None) os,
      ap (load flow stp t) (others_twice n bs),
      less (taken flow stp t (committed_of n bs)) (taken flow stp t (pending_of n bs)),
    )
  where
    less : (x y : ℕ) → max y 0 ≤ max x y
    less x y = omega arith

pub take_next : (capacities : List Capacity) (flow : Flow) (n : ℕ) (p : Option Slot) (os : List Booking) (lines : List Timeline) → IsIndexed capacities flow (booking_with n p None ∷ os) lines → IsIndexed capacities flow (booking_with n None p ∷ os) lines
take_next capacities flow n p os lines = swapped capacities flow n p None os lines

nothing_own : (n : ℕ) (bs : List Booking) → own_of n (others n bs) ≡ booking_with n None None
nothing_own n bs = own_is n (others n bs) _ _ (committed_of-others_same n bs) (pending_of-others_same n bs)

pub nothing_within : (capacities : List Capacity) (flow : Flow) (n : ℕ) (bs : List Booking) → IsSound (record { capacities = capacities; bookings = others n bs }) → IsWithinFlow capacities flow (booking_with n None None ∷ others n (others n bs))
nothing_within capacities flow n bs s = own_within capacities flow n (others n bs) _ s (nothing_own n bs)

pub take_after : (capacities : List Capacity) (flow : Flow) (n : ℕ) (bs : List Booking) (lines : List Timeline) → HasOneEach bs
    → IsIndexed capacities flow (booking_with n None None ∷ others n (others n bs)) lines → IsIndexed capacities flow (others n bs) lines
take_after capacities flow n bs lines one i = own_back capacities flow n (others n bs) lines _ (one_each_of_others n bs one) (nothing_own n bs) i

-- putting a slot
put_own : (n : ℕ) (slot : Slot) (bs : List Booking) → own_of n (with_pending n slot bs) ≡ booking_with n (committed_of n bs) (Some slot)
put_own n slot bs = own_is n (with_pending n slot bs) _ _ (committed_of-with_pending_same n slot bs) (pending_of-with_pending_same n slot bs)

pub put_before : (capacities : List Capacity) (flow : Flow) (n : ℕ) (slot : Slot) (bs : List Booking) (lines : List Timeline) → HasOneEach bs → HasOneEach (with_pending n slot bs) → pending_of n bs ≡ None → IsIndexed capacities flow bs lines
    → IsIndexed capacities flow (booking_with n (committed_of n bs) None ∷ others n (with_pending n slot bs)) lines
put_before capacities flow n slot bs lines one new free =
    let former : own_of n bs ≡ booking_with n (committed_of n bs) None = own_is n bs _ _ refl free in
    let b : Booking = booking_with n (committed_of n bs) (Some slot) in
    let w : Booking = booking_with n (committed_of n bs) None in
    let ws : List Booking = with_pending n slot bs in
    indexed_same capacities flow bs (w ∷ others n ws) lines
    (λ stp t. omega (arith, own_out flow stp t n bs one, ap (claim flow stp t) former, sum_by-cons (claim flow stp t) w (others n ws), own_out flow stp t n ws new, ap (claim flow stp t) (put_own n slot bs), sum_placed (claim flow stp t) b bs))
    (λ stp t. omega (
      arith,
      own_ends_out flow stp t n bs one,
      ap (booking_ends flow stp t) former,
      sum_by-cons (booking_ends flow stp t) w (others n ws),
      own_ends_out flow stp t n ws new,
      ap (booking_ends flow stp t) (put_own n slot bs),
      sum_placed (booking_ends flow stp t) b bs,
    ))

pub put_within : (capacities : List Capacity) (flow : Flow) (n : ℕ) (slot : Slot) (bs : List Booking) → IsSound (record { capacities = capacities; bookings = with_pending n slot bs })
    → IsWithinFlow capacities flow (booking_with n (committed_of n bs) (Some slot) ∷ others n (with_pending n slot bs))
put_within capacities flow n slot bs s = own_within capacities flow n (with_pending n slot bs) _ s (put_own n slot bs)

pub put_after : (capacities : List Capacity) (flow : Flow) (n : ℕ) (slot : Slot) (bs : List Booking) (lines : List Timeline) → HasOneEach (with_pending n slot bs)
    → IsIndexed capacities flow (booking_with n (committed_of n bs) (Some slot) ∷ others n (with_pending n slot bs)) lines → IsIndexed capacities flow (with_pending n slot bs) lines
put_after capacities flow n slot bs lines one i = own_back capacities flow n (with_pending n slot bs) lines _ one (put_own n slot bs) i

---- What a calendar's index tells

pub load_if : (capacities : List Capacity) (flow : Flow) (stp t told : ℕ) (bs : List Booking) (line : Timeline) → IsIndexedAt capacities flow stp bs line → stp ≤ 4095 → ((f : ℕ → ℕ) → Tells f line.points → told ≡ f t)
    → IfSome (capacity_at capacities stp flow) (λ _. told ≡ load flow stp t bs)
load_if capacities flow stp t told bs line i le h = by_capacity (capacity_at capacities stp flow) refl
  where
    by_capacity : (o : Option ℕ) → capacity_at capacities stp flow ≡ o → IfSome o (λ _. told ≡ load flow stp t bs)
    by_capacity None e = tt
    by_capacity (Some n) e = h (λ s. load flow stp s bs) (tells_load flow stp bs line.points (i n le e))

pub within_if : (capacities : List Capacity) (flow : Flow) (stp t told : ℕ) (bs : List Booking) (line : Timeline) → IsSound (record { capacities = capacities; bookings = bs }) → IsIndexedAt capacities flow stp bs line → stp ≤ 4095
    → ((f : ℕ → ℕ) → Tells f line.points → told ≡ f t) → IfSome (capacity_at capacities stp flow) (λ n. told ≤ n)
within_if capacities flow stp t told bs line s i le h = by_capacity (capacity_at capacities stp flow) refl
  where
    by_capacity : (o : Option ℕ) → capacity_at capacities stp flow ≡ o → IfSome o (λ n. told ≤ n)
    by_capacity None e = tt
    by_capacity (Some n) e = omega (arith, h (λ s. load flow stp s bs) (tells_load flow stp bs line.points (i n le e)), s.within flow stp t n e)

pub index_for : (capacities : List Capacity) (bs : List Booking) (line : Timeline) (place : Place) → IsSound (record { capacities = capacities; bookings = bs }) → IsIndexedAt capacities place.flow place.stp bs line → place.stp ≤ 4095
    → capacity_at capacities place.stp place.flow ≡ Some place.capacity → IsIndexFor place bs line.points
index_for capacities bs line place s i le e = record { one_each = s.one_each; index = i place.capacity le e; within = λ t. s.within place.flow place.stp t place.capacity e }

-- nothing is booked at first
pub sound_at_first : (capacities : List Capacity) → IsSound (record { capacities = capacities; bookings = [] })
sound_at_first capacities = record { within = λ flow stp t c e. omega arith; one_each = tt }

pub indexed_at_first : (capacities : List Capacity) (flow : Flow) (lines : List Timeline) → ((stp : ℕ) → (timeline_at lines stp).points ≡ []) → IsIndexed capacities flow [] lines
unfolding AreLoads ends_by
indexed_at_first capacities flow lines h = λ stp n le e. subst (λ (ps : List Point). IsIndex flow stp [] ps) (sym (h stp)) (record { loads = λ k lt. absurd (omega (arith, lt)); ends = λ t. refl })

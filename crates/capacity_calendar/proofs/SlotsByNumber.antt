-- The committed and the pending slot of each record, behind each change of the bookings.
use Rattle.std.proofs.Common.{◌≡◌, ◌≢◌, ℕ, List, Option, Some, None, option_map, refl, ap, ◌∙◌}
use Rattle.std.specs.Option.{option_and_then}
use Rattle.capacity_calendar.specs.declared.booking.Booking.{Booking}
use Rattle.capacity_calendar.specs.declared.booking.Slot.{Slot}
use Rattle.capacity_calendar.specs.Load.{others}
use Rattle.capacity_calendar.specs.Plan.{committed_of, pending_of, booking_of, pending_set, with_pending, settled}
use Rattle.capacity_calendar.proofs.ByNumber.{booking_of-others_same, booking_of-others_other, booking_of-changed_same, booking_of-changed_other, booking_of-with_pending_same, booking_of-with_pending_other}

committed_in : Option Booking → Option Slot
committed_in o = option_and_then (λ b. b.committed) o

pending_in : Option Booking → Option Slot
pending_in o = option_and_then (λ b. b.pending) o

-- put: the record's pending slot is the new one, its committed one stays
pub pending_of-with_pending_same : (number : ℕ) (slot : Slot) (bs : List Booking) → pending_of number (with_pending number slot bs) ≡ Some slot
unfolding pending_in
pending_of-with_pending_same number slot bs = ap pending_in (booking_of-with_pending_same number slot bs)

pub committed_of-with_pending_same : (number : ℕ) (slot : Slot) (bs : List Booking) → committed_of number (with_pending number slot bs) ≡ committed_of number bs
unfolding committed_in
committed_of-with_pending_same number slot bs = ap committed_in (booking_of-with_pending_same number slot bs)

pub pending_of-with_pending_other : (k number : ℕ) (slot : Slot) (bs : List Booking) → k ≢ number → pending_of k (with_pending number slot bs) ≡ pending_of k bs
unfolding pending_in
pending_of-with_pending_other k number slot bs d = ap pending_in (booking_of-with_pending_other k number slot bs d)

pub committed_of-with_pending_other : (k number : ℕ) (slot : Slot) (bs : List Booking) → k ≢ number → committed_of k (with_pending number slot bs) ≡ committed_of k bs
unfolding committed_in
committed_of-with_pending_other k number slot bs d = ap committed_in (booking_of-with_pending_other k number slot bs d)

-- settle: the pending slot is committed, and none is pending
pub committed_of-settled_same : (number : ℕ) (bs : List Booking) → committed_of number (settled number bs) ≡ pending_of number bs
unfolding committed_in pending_in
committed_of-settled_same number bs = ap committed_in (booking_of-changed_same number _ (λ b. refl) bs) ∙ by_booking (booking_of number bs)
  where
    by_booking : (o : Option Booking) → committed_in (option_map (λ (b : Booking). record b { committed = b.pending; pending = None }) o) ≡ pending_in o
    by_booking None = refl
    by_booking (Some b) = refl

pub pending_of-settled_same : (number : ℕ) (bs : List Booking) → pending_of number (settled number bs) ≡ None
unfolding pending_in
pending_of-settled_same number bs = ap pending_in (booking_of-changed_same number _ (λ b. refl) bs) ∙ by_booking (booking_of number bs)
  where
    by_booking : (o : Option Booking) → pending_in (option_map (λ (b : Booking). record b { committed = b.pending; pending = None }) o) ≡ None
    by_booking None = refl
    by_booking (Some b) = refl

pub committed_of-settled_other : (k number : ℕ) (bs : List Booking) → k ≢ number → committed_of k (settled number bs) ≡ committed_of k bs
unfolding committed_in
committed_of-settled_other k number bs d = ap committed_in (booking_of-changed_other k number _ (λ b. refl) bs d)

pub pending_of-settled_other : (k number : ℕ) (bs : List Booking) → k ≢ number → pending_of k (settled number bs) ≡ pending_of k bs
unfolding pending_in
pending_of-settled_other k number bs d = ap pending_in (booking_of-changed_other k number _ (λ b. refl) bs d)

-- take_pending: none is pending, the committed slot stays
pub pending_of-unset_same : (number : ℕ) (bs : List Booking) → pending_of number (pending_set number None bs) ≡ None
unfolding pending_in
pending_of-unset_same number bs = ap pending_in (booking_of-changed_same number _ (λ b. refl) bs) ∙ by_booking (booking_of number bs)
  where
    by_booking : (o : Option Booking) → pending_in (option_map (λ (b : Booking). record b { pending = None }) o) ≡ None
    by_booking None = refl
    by_booking (Some b) = refl

pub committed_of-pending_set_same : (number : ℕ) (slot : Option Slot) (bs : List Booking) → committed_of number (pending_set number slot bs) ≡ committed_of number bs
unfolding committed_in
committed_of-pending_set_same number slot bs = ap committed_in (booking_of-changed_same number _ (λ b. refl) bs) ∙ by_booking (booking_of number bs)
  where
    by_booking : (o : Option Booking) → committed_in (option_map (λ (b : Booking). record b { pending = slot }) o) ≡ committed_in o
    by_booking None = refl
    by_booking (Some b) = refl

pub pending_of-pending_set_other : (k number : ℕ) (slot : Option Slot) (bs : List Booking) → k ≢ number → pending_of k (pending_set number slot bs) ≡ pending_of k bs
unfolding pending_in
pending_of-pending_set_other k number slot bs d = ap pending_in (booking_of-changed_other k number _ (λ b. refl) bs d)

pub committed_of-pending_set_other : (k number : ℕ) (slot : Option Slot) (bs : List Booking) → k ≢ number → committed_of k (pending_set number slot bs) ≡ committed_of k bs
unfolding committed_in
committed_of-pending_set_other k number slot bs d = ap committed_in (booking_of-changed_other k number _ (λ b. refl) bs d)

-- take_all: the record has neither
pub pending_of-others_same : (number : ℕ) (bs : List Booking) → pending_of number (others number bs) ≡ None
unfolding pending_in
pending_of-others_same number bs = ap pending_in (booking_of-others_same number bs)

pub committed_of-others_same : (number : ℕ) (bs : List Booking) → committed_of number (others number bs) ≡ None
unfolding committed_in
committed_of-others_same number bs = ap committed_in (booking_of-others_same number bs)

pub pending_of-others_other : (k number : ℕ) (bs : List Booking) → k ≢ number → pending_of k (others number bs) ≡ pending_of k bs
unfolding pending_in
pending_of-others_other k number bs d = ap pending_in (booking_of-others_other k number bs d)

pub committed_of-others_other : (k number : ℕ) (bs : List Booking) → k ≢ number → committed_of k (others number bs) ≡ committed_of k bs
unfolding committed_in
committed_of-others_other k number bs d = ap committed_in (booking_of-others_other k number bs d)

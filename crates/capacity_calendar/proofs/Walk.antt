-- The walk over the points of an interval.
use Rattle.std.proofs.Common.{◌≡◌, ◌≤◌, ◌<◌, ◌+◌, ◌-◌, ◌⊎◌, inl, inr, ℕ, List, true, false, nat_lt, length, Option, Some, None, arith, refl, ap, ◌∙◌, subst}
use Rattle.std.proofs.lemmas.Bool.Decides.{nat_tests}
use Rattle.std.specs.Option.{option_map_or, option_and_then}
use Rattle.nsi_base.specs.Range.{Span, is_covered}
use Rattle.nsi_base.specs.declared.flow.Flow.{Flow}
use Rattle.capacity_calendar.specs.declared.booking.Booking.{Booking}
use Rattle.capacity_calendar.specs.declared.booking.Place.{Place}
use Rattle.capacity_calendar.specs.declared.booking.Point.{Point}
use Rattle.capacity_calendar.specs.Load.{claim, load, others}
use Rattle.capacity_calendar.specs.Lack.{is_lacking}
use Rattle.capacity_calendar.specs.Plan.{HasOneEach, booking_of, committed_of, pending_of, counted}
use Rattle.capacity_calendar.specs.Changes.{booking_with}
use Rattle.capacity_calendar.specs.Index.{slot_ends, booking_ends, ends, point_at, second_at, AreLoads, ends_by, IsOrderly, IsCount, IsIndexFor}
use Rattle.capacity_calendar.proofs.Within.{one_out, others_le, claim_counted}
use Rattle.capacity_calendar.proofs.Steady.{no_ends, up_to, others_last}

-- what a record has booked, which may be nothing
abbrev pub own_of : ℕ → List Booking → Booking
own_of n bs = booking_with n (committed_of n bs) (pending_of n bs)

-- the load is what a record claims and what the others do,
pub own_out : (flow : Flow) (stp t n : ℕ) (bs : List Booking) → HasOneEach bs → load flow stp t bs ≡ claim flow stp t (own_of n bs) + load flow stp t (others n bs)
own_out flow stp t n bs one = one_out (claim flow stp t) n bs one ∙ ap (λ x. x + load flow stp t (others n bs)) (claim_counted flow stp t n bs)

ends_counted : (flow : Flow) (stp t n : ℕ) (bs : List Booking) → counted (booking_ends flow stp t) bs n ≡ booking_ends flow stp t (own_of n bs)
unfolding slot_ends
ends_counted flow stp t n bs = by_booking (booking_of n bs)
  where
    by_booking : (o : Option Booking) → option_map_or (booking_ends flow stp t) o 0 ≡ slot_ends flow stp t (option_and_then (λ b. b.committed) o) + slot_ends flow stp t (option_and_then (λ b. b.pending) o)
    by_booking None = refl
    by_booking (Some b) = refl

-- and so are the ends.
pub own_ends_out : (flow : Flow) (stp t n : ℕ) (bs : List Booking) → HasOneEach bs → ends flow stp t bs ≡ booking_ends flow stp t (own_of n bs) + ends flow stp t (others n bs)
own_ends_out flow stp t n bs one = one_out (booking_ends flow stp t) n bs one ∙ ap (λ x. x + ends flow stp t (others n bs)) (ends_counted flow stp t n bs)

same_lacks : (place : Place) (rest : List Booking) (mbps s t : ℕ) → load place.flow place.stp t rest ≡ load place.flow place.stp s rest → is_lacking place rest mbps s ≡ false → is_lacking place rest mbps t ≡ false
same_lacks place rest mbps s t e h = ap (λ l. nat_lt place.capacity (l + mbps)) e ∙ h

below_or_not : (i j : ℕ) → (i < j) ⊎ (j ≤ i)
below_or_not i j = grind arith

-- no second lacks from a start on, up to the points that come behind it
pub clear_at_start : (place : Place) (bs : List Booking) (n mbps : ℕ) (ps : List Point) (start bound m : ℕ) → IsIndexFor place bs ps → IsCount ps bound m → bound ≡ start + 1 → is_lacking place (others n bs) mbps start ≡ false
    → (t : ℕ) → start ≤ t → ((k : ℕ) → m ≤ k → k < length ps → t < second_at ps k) → is_lacking place (others n bs) mbps t ≡ false
clear_at_start place bs n mbps ps start bound m i c e h t le later =
    let none : (u : ℕ) → start < u → u ≤ t → ends_by ps u ≡ 0 = λ u a b. no_ends ps u (λ k lt same. elim (below_or_not k m) [
      | inl l ↦ absurd (omega (arith, c.before k l, e, same, a))
      | inr g ↦ absurd (omega (arith, later k g lt, same, b))
    ]) in
    same_lacks place (others n bs) mbps start t (others_last place.flow place.stp n start t bs ps i.index le none) h

-- nor behind one point more that doesn't
pub clear_behind : (place : Place) (bs : List Booking) (n mbps : ℕ) (ps : List Point) (start end m : ℕ) → IsIndexFor place bs ps → IsOrderly ps → m < length ps → is_lacking place (others n bs) mbps (second_at ps m) ≡ false
    → ((t : ℕ) → start ≤ t → t < end → ((k : ℕ) → m ≤ k → k < length ps → t < second_at ps k) → is_lacking place (others n bs) mbps t ≡ false)
    → (t : ℕ) → start ≤ t → t < end → ((k : ℕ) → m + 1 ≤ k → k < length ps → t < second_at ps k) → is_lacking place (others n bs) mbps t ≡ false
clear_behind place bs n mbps ps start end m i o lt h clear t le before later = elim (below_or_not t (second_at ps m)) [
  | inl l ↦ clear t le before (λ k a b. elim (same_or_above m k a) [ inl e ↦ subst (λ (j : ℕ). t < second_at ps j) e l | inr g ↦ later k (omega (arith, g)) b ])
  | inr g ↦
      let none : (u : ℕ) → second_at ps m < u → u ≤ t → ends_by ps u ≡ 0 = λ u a b. no_ends ps u (λ k within same. elim (below_or_not m k) [
        | inl l ↦ absurd (omega (arith, later k (omega (arith, l)) within, same, b))
        | inr q ↦ absurd (omega (arith, up_to ps k m o q lt, same, a))
      ]) in
      same_lacks place (others n bs) mbps (second_at ps m) t (others_last place.flow place.stp n (second_at ps m) t bs ps i.index g none) h
]
  where
    same_or_above : (i j : ℕ) → i ≤ j → (i ≡ j) ⊎ (i < j)
    same_or_above i j h = grind arith

-- the load behind a point
pub load_told : (place : Place) (bs : List Booking) (ps : List Point) (k : ℕ) → IsIndexFor place bs ps → k < length ps → (point_at ps k).load ≡ load place.flow place.stp (second_at ps k) bs
unfolding AreLoads
load_told place bs ps k i lt = i.index.loads k lt

-- a load has in it what the record claims
pub least_of : (place : Place) (bs : List Booking) (ps : List Point) (n t told : ℕ) (own : Booking) → IsIndexFor place bs ps → told ≡ load place.flow place.stp t bs → own ≡ own_of n bs → claim place.flow place.stp t own ≤ told
least_of place bs ps n t told own i e o = omega (arith, e, own_out place.flow place.stp t n bs i.one_each, ap (claim place.flow place.stp t) o)

-- what is told beside what the record claims is the load of the others
pub rest_is : (place : Place) (bs : List Booking) (ps : List Point) (n t told : ℕ) (own : Booking) → IsIndexFor place bs ps → told ≡ load place.flow place.stp t bs → own ≡ own_of n bs
    → told - claim place.flow place.stp t own ≡ load place.flow place.stp t (others n bs)
rest_is place bs ps n t told own i e o = omega (arith, e, own_out place.flow place.stp t n bs i.one_each, ap (claim place.flow place.stp t) o)

-- and within the capacity
pub rest_within : (place : Place) (bs : List Booking) (ps : List Point) (n t rest : ℕ) → IsIndexFor place bs ps → rest ≡ load place.flow place.stp t (others n bs) → rest ≤ place.capacity
rest_within place bs ps n t rest i e = omega (arith, e, others_le (claim place.flow place.stp t) n bs, i.within t)

pub lacks_is : (place : Place) (bs : List Booking) (n mbps t rest : ℕ) → rest ≡ load place.flow place.stp t (others n bs) → nat_lt place.capacity (rest + mbps) ≡ is_lacking place (others n bs) mbps t
lacks_is place bs n mbps t rest e = ap (λ l. nat_lt place.capacity (l + mbps)) e

pub covered_in : (span : Span) (t : ℕ) → span.start ≤ t → t < span.end → is_covered span t ≡ true
covered_in span t a b = grind (arith, nat_tests)

-- How the loads are kept: for each flow of a point the seconds at which slots start or end, in order, each with the load from it to the next.
use Rattle.std.specs.Prelude.{◌≡◌, ◌≤◌, ◌<◌, ◌⊎◌, ℕ, ◌+◌, ◌-◌, ◌==◌, Bool, if◌then◌else◌, List, [], length, get_or, sum_by, Option, Some, None}
use Rattle.nsi_base.specs.declared.flow.Flow.{Flow}
use Rattle.capacity_calendar.specs.declared.booking.Booking.{Booking}
use Rattle.capacity_calendar.specs.declared.booking.Capacity.{Capacity}
use Rattle.capacity_calendar.specs.declared.booking.Place.{Place}
use Rattle.capacity_calendar.specs.declared.booking.Point.{Point}
use Rattle.capacity_calendar.specs.declared.booking.Slot.{Slot}
use Rattle.capacity_calendar.specs.Load.{books_slot, claim, load}
use Rattle.capacity_calendar.specs.Plan.{HasOneEach}
use Rattle.capacity_calendar.specs.Places.{capacity_at}

-- 1 where it is so
abbrev pub one_if : Bool → ℕ
one_if c = if c then 1 else 0

-- how often a slot that books the flow starts or ends at a second
unfoldable pub slot_ends : Flow → ℕ → ℕ → Option Slot → ℕ
slot_ends flow stp t None = 0
slot_ends flow stp t (Some slot) = if books_slot flow stp slot then one_if (slot.interval.start == t) + one_if (slot.interval.end == t) else 0

abbrev pub booking_ends : Flow → ℕ → ℕ → Booking → ℕ
booking_ends flow stp t b = slot_ends flow stp t b.committed + slot_ends flow stp t b.pending

-- how often slots start or end at a second
abbrev pub ends : Flow → ℕ → ℕ → List Booking → ℕ
ends flow stp t bookings = sum_by (booking_ends flow stp t) bookings

---- Points

-- the points of a flow, and for how many more there is room without more memory
pub record Timeline : Type 0 where
  pub points : List Point
  pub room : ℕ

abbrev pub empty : Timeline
empty = record { points = []; room = 0 }

abbrev pub timeline_at : List Timeline → ℕ → Timeline
timeline_at ts stp = get_or ts stp empty

abbrev pub nowhere : Point
nowhere = record { second = 0; load = 0; ends = 0 }

abbrev pub point_at : List Point → ℕ → Point
point_at ps k = get_or ps k nowhere

abbrev pub second_at : List Point → ℕ → ℕ
second_at ps k = (point_at ps k).second

-- how many ends the points count at a second
unfoldable pub ends_by : List Point → ℕ → ℕ
ends_by ps t = sum_by (λ p. if p.second == t then p.ends else 0) ps

-- The seconds rise, and at each something starts or ends.
pub record IsOrderly (ps : List Point) : Type 0 where
  pub order : (i j : ℕ) → i < j → j < length ps → second_at ps i < second_at ps j
  pub used : (k : ℕ) → k < length ps → 0 < (point_at ps k).ends

-- the load that lasts up to a point
abbrev pub load_before : List Point → ℕ → ℕ
load_before ps k = if k == 0 then 0 else (point_at ps (k - 1)).load

-- So many points come before a second.
pub record IsCount (ps : List Point) (bound n : ℕ) : Type 0 where
  pub within : n ≤ length ps
  pub before : (k : ℕ) → k < n → second_at ps k < bound
  pub after : (k : ℕ) → n ≤ k → k < length ps → bound ≤ second_at ps k

-- The load behind each point is that of its second.
unfoldable pub AreLoads : (ℕ → ℕ) → List Point → Type 0
AreLoads f ps = (k : ℕ) → k < length ps → (point_at ps k).load ≡ f (second_at ps k)

-- The points tell a load: it is as they say, lasts where they count no end, and is nothing before the first.
pub record Tells (f : ℕ → ℕ) (ps : List Point) : Type 0 where
  pub loads : AreLoads f ps
  pub lasts : (s t : ℕ) → s ≤ t → ((u : ℕ) → s < u → u ≤ t → ends_by ps u ≡ 0) → f t ≡ f s
  pub nothing : (t : ℕ) → ((u : ℕ) → u ≤ t → ends_by ps u ≡ 0) → f t ≡ 0

-- The points are where slots start or end, and the load behind each is the plain sum there.
pub record IsIndex (flow : Flow) (stp : ℕ) (bookings : List Booking) (ps : List Point) : Type 0 where
  pub loads : AreLoads (λ t. load flow stp t bookings) ps
  pub ends : (t : ℕ) → ends_by ps t ≡ ends flow stp t bookings

-- At a place no load passes the capacity, each record has one booking, and these are the points.
pub record IsIndexFor (place : Place) (bookings : List Booking) (ps : List Point) : Type 0 where
  pub one_each : HasOneEach bookings
  pub index : IsIndex place.flow place.stp bookings ps
  pub within : (t : ℕ) → load place.flow place.stp t bookings ≤ place.capacity

-- the same of a point that has the flow
abbrev pub IsIndexedAt : List Capacity → Flow → ℕ → List Booking → Timeline → Type 0
IsIndexedAt capacities flow stp bookings line = (c : ℕ) → stp ≤ 4095 → capacity_at capacities stp flow ≡ Some c → IsIndex flow stp bookings line.points

-- and of each point
abbrev pub IsIndexed : List Capacity → Flow → List Booking → List Timeline → Type 0
IsIndexed capacities flow bookings lines = (stp : ℕ) → IsIndexedAt capacities flow stp bookings (timeline_at lines stp)

-- a point, with what a record claims after a change in place of what it claimed before
abbrev pub restated : Flow → ℕ → (before after : Booking) → Point → Point
restated flow stp before after p = record p { load = (p.load - claim flow stp p.second before) + claim flow stp p.second after }

-- The points from one place up to another are stated anew.
pub record IsRestated (flow : Flow) (stp : ℕ) (before after : Booking) (from to : ℕ) (old new : List Point) : Type 0 where
  pub length_is : length new ≡ length old
  pub inside : (k : ℕ) → from ≤ k → k < to → point_at new k ≡ restated flow stp before after (point_at old k)
  pub outside : (k : ℕ) → (k < from) ⊎ (to ≤ k) → point_at new k ≡ point_at old k

-- At a place, the points are an index of these bookings,
abbrev pub IsIndexAt : Place → List Booking → List Point → Type 0
IsIndexAt place bookings ps = IsIndex place.flow place.stp bookings ps

-- their load stays within the capacity,
abbrev pub StaysWithin : Place → List Booking → Type 0
StaysWithin place bookings = (t : ℕ) → load place.flow place.stp t bookings ≤ place.capacity

-- each load has in it what a booking claims,
abbrev pub HaveClaims : Place → Booking → List Point → Type 0
HaveClaims place before ps = (k : ℕ) → k < length ps → claim place.flow place.stp (second_at ps k) before ≤ (point_at ps k).load

-- each has room for what another claims in its place,
abbrev pub HaveRoom : Place → (before after : Booking) → List Point → Type 0
HaveRoom place before after ps =
    (k : ℕ) → k < length ps → (point_at ps k).load + claim place.flow place.stp (second_at ps k) after ≤ claim place.flow place.stp (second_at ps k) before + place.capacity

-- both claim the same at a second,
abbrev pub ClaimSame : Place → (before after : Booking) → ℕ → Type 0
ClaimSame place before after t = claim place.flow place.stp t before ≡ claim place.flow place.stp t after

-- and all points are stated anew.
abbrev pub AreRestated : Place → (before after : Booking) → (old new : List Point) → Type 0
AreRestated place before after old new = (k : ℕ) → k < length old → point_at new k ≡ restated place.flow place.stp before after (point_at old k)

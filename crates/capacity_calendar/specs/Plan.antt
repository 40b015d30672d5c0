-- What a calendar stands for.
use Rattle.std.specs.Prelude.{◌≡◌, ◌≤◌, ◌<◌, ℕ, ◌+◌, ◌==◌, Bool, true, List, [], ◌∷◌, ◌++◌, map, find, filter, nat_lt, if◌then◌else◌, Option, Some, None, option_and_then}
use Rattle.std.specs.Option.{option_map_or}
use Rattle.nsi_base.specs.Range.{Span, is_covered}
use Rattle.nsi_base.specs.declared.flow.Flow.{Flow}
use Rattle.capacity_calendar.specs.declared.booking.Booking.{Booking}
use Rattle.capacity_calendar.specs.declared.booking.Capacity.{Capacity}
use Rattle.capacity_calendar.specs.declared.booking.Lack.{Lack}
use Rattle.capacity_calendar.specs.declared.booking.Slot.{Slot}
use Rattle.capacity_calendar.specs.Load.{larger_taken, load, others}
use Rattle.capacity_calendar.specs.Lack.{first_lack_among}
use Rattle.capacity_calendar.specs.Places.{capacity_at, place_if, places}

-- the capacities of termination points, and what each record has booked of them
pub record Plan : Type 0 where
  pub capacities : List Capacity
  pub bookings : List Booking

-- the first lack of what a record asks between two points: the least second, there the source before the destination, and in before out
abbrev pub first_lack : Plan → (number source dest : ℕ) → (both_ways : Bool) → Span → (mbps : ℕ) → Option Lack
first_lack plan number source dest both_ways span mbps = first_lack_among (places plan.capacities source dest both_ways) (others number plan.bookings) span mbps

-- the first lack of what a record asks of one flow of a termination point
abbrev pub first_lack_at : Plan → (number stp : ℕ) → Flow → Span → (mbps : ℕ) → Option Lack
first_lack_at plan number stp flow span mbps = first_lack_among (place_if (capacity_at plan.capacities stp flow) stp flow true) (others number plan.bookings) span mbps

-- At each second of the span there is room beside the other records.
abbrev pub Fits : Plan → (number stp : ℕ) → Flow → Span → (mbps : ℕ) → Type 0
Fits plan number stp flow span mbps =
    (t capacity : ℕ) → is_covered span t ≡ true → capacity_at plan.capacities stp flow ≡ Some capacity → load flow stp t (others number plan.bookings) + mbps ≤ capacity

-- the first second of the span without room, and the others' load there
pub record IsFirstLack (plan : Plan) (number stp : ℕ) (flow : Flow) (span : Span) (mbps : ℕ) (lack : Lack) : Type 0 where
  pub stp_is : lack.stp ≡ stp
  pub flow_is : lack.flow ≡ flow
  pub capacity_is : capacity_at plan.capacities stp flow ≡ Some lack.capacity
  pub covered : is_covered span lack.second ≡ true
  pub load_is : lack.load ≡ load flow stp lack.second (others number plan.bookings)
  pub lacking : lack.capacity < lack.load + mbps
  pub before : (t : ℕ) → span.start ≤ t → t < lack.second → load flow stp t (others number plan.bookings) + mbps ≤ lack.capacity

-- No load passes a capacity.
abbrev pub IsWithin : Plan → Type 0
IsWithin plan = (flow : Flow) (stp t capacity : ℕ) → capacity_at plan.capacities stp flow ≡ Some capacity → load flow stp t plan.bookings ≤ capacity

-- the booking of a record, where it has one
abbrev pub booking_of : ℕ → List Booking → Option Booking
booking_of number bookings = find (λ b. b.number == number) bookings

-- Each record has one booking at most.
abbrev pub HasOneEach : List Booking → Type 0
HasOneEach [] = Unit {0}
HasOneEach (b ∷ bs) = (booking_of b.number bs ≡ None) × HasOneEach bs

-- what holds of each calendar
pub record IsSound (plan : Plan) : Type 0 where
  pub within : IsWithin plan
  pub one_each : HasOneEach plan.bookings

-- the slot that a record has committed, where it has one
abbrev pub committed_of : ℕ → List Booking → Option Slot
committed_of number bookings = option_and_then (λ b. b.committed) (booking_of number bookings)

-- the slot that a record has pending, where it has one
abbrev pub pending_of : ℕ → List Booking → Option Slot
pending_of number bookings = option_and_then (λ b. b.pending) (booking_of number bookings)

-- what a record claims of a flow of a termination point at a second
abbrev pub claim_of : Flow → ℕ → ℕ → ℕ → List Booking → ℕ
claim_of flow stp t number bookings = larger_taken flow stp t (committed_of number bookings) (pending_of number bookings)

-- what a record's booking counts, and else nothing
abbrev pub counted : (Booking → ℕ) → List Booking → ℕ → ℕ
counted f bookings number = option_map_or f (booking_of number bookings) 0

-- No record from this number on has a booking.
abbrev pub HasNoneFrom : ℕ → List Booking → Type 0
HasNoneFrom n bookings = (k : ℕ) → n ≤ k → booking_of k bookings ≡ None

-- the bookings, of which the record's is changed
abbrev pub changed : ℕ → (Booking → Booking) → List Booking → List Booking
changed number f bookings = map (λ b. if b.number == number then f b else b) bookings

-- the bookings with this slot pending for the record, or with none
abbrev pub pending_set : ℕ → Option Slot → List Booking → List Booking
pending_set number slot bookings = changed number (λ b. record b { pending = slot }) bookings

-- the bookings with this one between those of lesser and of greater numbers, in place of the record's former
abbrev pub placed : Booking → List Booking → List Booking
placed b bookings = filter (λ x. nat_lt x.number b.number) bookings ++ b ∷ filter (λ x. nat_lt b.number x.number) bookings

-- the bookings with a slot more, pending for the record beside what it has committed
abbrev pub with_pending : (number : ℕ) → Slot → List Booking → List Booking
with_pending number slot bookings = placed (record { number = number; committed = committed_of number bookings; pending = Some slot }) bookings

-- the bookings, of which the record's pending slot is committed in place of the former
abbrev pub settled : ℕ → List Booking → List Booking
settled number bookings = changed number (λ b. record b { committed = b.pending; pending = None }) bookings

-- Which bookings a calendar has for a provider's records.
use Rattle.std.specs.Prelude.{◌≡◌, ◌<◌, ℕ, Bool, true, false, if◌then◌else◌, List, length, Option, Some, None, option_map}
use Rattle.nsi_primitive.specs.Kinds.{is_both_ways}
use Rattle.nsi_primitive.specs.declared.message.Criteria.{Criteria}
use Rattle.capacity_calendar.specs.declared.booking.Booking.{Booking}
use Rattle.capacity_calendar.specs.declared.booking.Lack.{Lack}
use Rattle.capacity_calendar.specs.declared.booking.Slot.{Slot}
use Rattle.capacity_calendar.specs.Plan.{Plan, committed_of, pending_of, HasNoneFrom, with_pending, pending_set, first_lack}
use Rattle.connection_record.specs.declared.record.Record.{Record}
use Rattle.connection_record.specs.declared.life.LifecycleMove.{LifecycleMove}
use Rattle.connection_record.specs.declared.moves.ReservationMove.{ReservationMove}
use Rattle.connection_record.specs.declared.apply.Move.{Move}
use Rattle.connection_record.specs.Demand.{last, held, holds_pending, is_terminated}
use Rattle.provider_agent.specs.State.{record_at}

-- what criteria book between the record's points
abbrev pub slot_of : Record → Criteria → Slot
slot_of r c = record { source = r.source; dest = r.dest; both_ways = is_both_ways r.service.directionality; interval = c.interval; mbps = c.capacity }

-- a terminated record books nothing
abbrev pub booked : Record → Option Criteria → Option Slot
booked r c = if is_terminated r.lsm then None else option_map (slot_of r) c

-- each record's last committed and held criteria are booked, and nothing else
pub record AreKept (records : List Record) (bookings : List Booking) : Type 0 where
  pub committed : (n : ℕ) → n < length records → committed_of n bookings ≡ booked (record_at n records) (last (record_at n records).committed)
  pub held : (n : ℕ) → n < length records → pending_of n bookings ≡ booked (record_at n records) (held (record_at n records))
  pub none : HasNoneFrom (length records) bookings

-- the bookings with a slot more, where there is one
abbrev pub with_slot : ℕ → Option Slot → List Booking → List Booking
with_slot n None bookings = bookings
with_slot n (Some slot) bookings = with_pending n slot bookings

-- the bookings, without what the record at a place doesn't hold any more
abbrev pub freed : ℕ → List Record → List Booking → List Booking
freed n records bookings = if holds_pending (record_at n records).rsm then bookings else pending_set n None bookings

-- what criteria between two points lack first by a calendar
abbrev pub plan_lack : Plan → ℕ → (both_ways : Bool) → (source dest : ℕ) → Criteria → Option Lack
plan_lack plan n both_ways source dest c = first_lack plan n source dest both_ways c.interval c.capacity

abbrev pub is_plain_reservation : ReservationMove → Bool
is_plain_reservation (ReservationMove.Fit _) = false
is_plain_reservation ReservationMove.Done = false
is_plain_reservation _ = true

abbrev pub is_plain_life : LifecycleMove → Bool
is_plain_life LifecycleMove.Done = false
is_plain_life _ = true

-- all moves but those that hold, commit and end: what is committed stays, and nothing more is held
abbrev pub is_plain : Move → Bool
is_plain (Move.Reservation move) = is_plain_reservation move
is_plain (Move.Provision move) = true
is_plain (Move.Lifecycle move) = is_plain_life move
is_plain (Move.Close agent) = false

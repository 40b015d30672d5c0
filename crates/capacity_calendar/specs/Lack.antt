-- Where bandwidth is lacking first.
use Rattle.std.specs.Prelude.{◌≡◌, ◌≤◌, ◌<◌, ℕ, zero, suc, ◌+◌, ◌-◌, Bool, true, nat_lt, if◌then◌else◌, List, [], ◌∷◌, ◌++◌, Option, Some, None}
use Rattle.std.specs.List.{Contains}
use Rattle.nsi_base.specs.Range.{Span, is_covered}
use Rattle.nsi_base.specs.declared.flow.Flow.{Flow}
use Rattle.capacity_calendar.specs.declared.booking.Booking.{Booking}
use Rattle.capacity_calendar.specs.declared.booking.Lack.{Lack}
use Rattle.capacity_calendar.specs.declared.booking.Place.{Place}
use Rattle.capacity_calendar.specs.Load.{load}

-- the first of the two that is there
abbrev pub or_else : {X : Type 0} → Option X → Option X → Option X
or_else None o = o
or_else (Some x) o = Some x

-- whether the load of a place at a second and what is asked are more than its capacity, where this is the load of each flow, point and second
abbrev pub lacks_by : (Flow → ℕ → ℕ → ℕ) → Place → ℕ → ℕ → Bool
lacks_by loaded place mbps t = nat_lt place.capacity (loaded place.flow place.stp t + mbps)

-- what is lacking at a place and second, beside the load there
abbrev pub lack_of : Place → ℕ → ℕ → Lack
lack_of place load t = record { stp = place.stp; flow = place.flow; second = t; load = load; capacity = place.capacity }

-- the lack at a second, of the first place that has one
unfoldable pub lack_at : (Flow → ℕ → ℕ → ℕ) → List Place → ℕ → ℕ → Option Lack
lack_at loaded [] mbps t = None
lack_at loaded (p ∷ ps) mbps t = if lacks_by loaded p mbps t then Some (lack_of p (loaded p.flow p.stp t) t) else lack_at loaded ps mbps t

-- what the first of so many seconds has, from one on, of those that have something
unfoldable pub first_from : {X : Type 0} → (ℕ → Option X) → ℕ → ℕ → Option X
first_from found zero t = None
first_from found (suc count) t = or_else (found t) (first_from found count (suc t))

-- the lack at the first second of a span that has one, where this is the load of each flow, point and second
unfoldable pub first_lack_by : (Flow → ℕ → ℕ → ℕ) → List Place → Span → ℕ → Option Lack
first_lack_by loaded places span mbps = first_from (lack_at loaded places mbps) (span.end - span.start) span.start

-- what the bookings load of each flow, point and second
abbrev pub loads : List Booking → Flow → ℕ → ℕ → ℕ
loads bookings = λ flow stp t. load flow stp t bookings

abbrev pub is_lacking : Place → List Booking → ℕ → ℕ → Bool
is_lacking place bookings mbps t = lacks_by (loads bookings) place mbps t

abbrev pub first_lack_among : List Place → List Booking → Span → ℕ → Option Lack
first_lack_among places bookings span mbps = first_lack_by (loads bookings) places span mbps

-- what a first lack is: of a place, at a second, before which no place of the list lacks, nor at it a place in front
pub record IsFirstAmong (loaded : Flow → ℕ → ℕ → ℕ) (places : List Place) (span : Span) (mbps : ℕ) (lack : Lack) : Type 0 where
  pub front : List Place
  pub place : Place
  pub back : List Place
  pub places_are : places ≡ front ++ place ∷ back
  pub lack_is : lack ≡ lack_of place (loaded place.flow place.stp lack.second) lack.second
  pub covered : is_covered span lack.second ≡ true
  pub lacking : place.capacity < loaded place.flow place.stp lack.second + mbps
  pub before : (t : ℕ) → span.start ≤ t → t < lack.second → (p : Place) → Contains places p → loaded p.flow p.stp t + mbps ≤ p.capacity
  pub in_front : (p : Place) → Contains front p → loaded p.flow p.stp lack.second + mbps ≤ p.capacity

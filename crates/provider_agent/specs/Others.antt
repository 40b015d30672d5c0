-- What a request lacks beside all other records.
use Rattle.std.specs.Prelude.{ℕ, suc, Bool, true, false, ◌==◌, if◌then◌else◌, nat_le, List, ◌++◌, take, drop, Option, Some, None, option_map}
use Rattle.nsi_primitive.specs.Kinds.{is_both_ways}
use Rattle.nsi_primitive.specs.declared.kind.ErrorName.{ErrorName}
use Rattle.nsi_primitive.specs.declared.message.Cause.{Cause}
use Rattle.nsi_primitive.specs.declared.message.Criteria.{Criteria}
use Rattle.capacity_calendar.specs.declared.booking.Capacity.{Capacity}
use Rattle.capacity_calendar.specs.declared.booking.Lack.{Lack}
use Rattle.capacity_calendar.specs.Lack.{first_lack_by}
use Rattle.capacity_calendar.specs.Places.{places}
use Rattle.connection_record.specs.declared.record.Record.{Record}
use Rattle.connection_record.specs.Demand.{load}
use Rattle.provider_agent.specs.Setting.{Setting}
use Rattle.provider_agent.specs.State.{State, record_at}

-- all records but the one at a place
abbrev pub others : ℕ → List Record → List Record
others n records = take n records ++ drop (suc n) records

-- the first second and place at which the other records leave too little for what is asked
abbrev pub lack_among : List Capacity → List Record → ℕ → Criteria → Option Lack
lack_among capacities records n c =
    first_lack_by (λ flow stp t. load flow stp t (others n records))
    (places capacities (record_at n records).source (record_at n records).dest (is_both_ways (record_at n records).service.directionality)) c.interval c.capacity

abbrev pub first_lack : Setting → ℕ → List Record → Criteria → Option Lack
first_lack setting n records c = lack_among setting.capacities records n c

-- the name of the point that lacks: one of the record's two
abbrev pub point_name : Record → ℕ → List ℕ
point_name r stp = if stp == r.source then r.service.source else r.service.dest

abbrev pub bandwidth : Record → Lack → Cause
bandwidth r l = Cause.Bandwidth (point_name r l.stp) l.flow l.second l.load l.capacity

abbrev pub cause_of : Bool → Option Lack → Record → Option Cause
cause_of true lack r = Some (Cause.Plain ErrorName.Passed)
cause_of false lack r = option_map (bandwidth r) lack

-- why criteria of the record at a place don't fit now: their end has passed, or the others leave too little
abbrev pub cause_among : List Capacity → List Record → (now n : ℕ) → Option Criteria → Option Cause
cause_among capacities records now n None = None
cause_among capacities records now n (Some c) = cause_of (nat_le c.interval.end now) (lack_among capacities records n c) (record_at n records)

abbrev pub lack_of : Option Criteria → Setting → State → ℕ → Option Cause
lack_of pending setting s n = cause_among setting.capacities s.records s.now n pending

-- why the pending criteria of the record at a place don't fit
unfoldable pub lacking : Setting → State → ℕ → Option Cause
lacking setting s n = lack_of (record_at n s.records).pending setting s n

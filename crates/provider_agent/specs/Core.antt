-- A provider's core as a standing.
use Rattle.std.specs.Prelude.{◌≤◌, ℕ, List, length}
use Rattle.capacity_calendar.specs.declared.booking.Booking.{Booking}
use Rattle.record_index.specs.declared.deadlines.Deadline.{Deadline}
use Rattle.connection_record.specs.declared.record.Record.{Record}
use Rattle.provider_agent.specs.declared.provider_core.Core.{Core}
use Rattle.provider_agent.specs.Setting.{Setting}
use Rattle.provider_agent.specs.State.{State, Standing}
use Rattle.provider_agent.specs.Kept.{AreKept}
use Rattle.provider_agent.specs.Indexed.{AreIndexed}
use Rattle.provider_agent.specs.Good.{AreOrdered, IsGood}

abbrev pub setting_at : Core → Setting
setting_at d = record { name = d.agent.name; number = d.agent.number; hold = d.agent.hold; capacities = d.calendar.capacities }

abbrev pub state_at : Core → State
state_at d = record { records = d.records.items; seen = d.retry.seen; heard = d.retry.heard; waiting = d.retry.waiting; next = d.next; now = d.now; taken = d.taken }

abbrev pub standing_at : Core → Standing
standing_at d = record { setting = setting_at d; state = state_at d }

-- the greatest number of the next id at which an entry may be taken
abbrev pub most_next : ℕ
most_next = 17592194433024

-- the calendar books what the records claim, and the indexes name them
pub record AreConsistent (now : ℕ) (records : List Record) (bookings : List Booking) (waiting : List ℕ) (deadlines : List Deadline) : Type 0 where
  pub kept : AreKept records bookings
  pub indexed : AreIndexed now records waiting deadlines

abbrev pub IsConsistent : Core → Type 0
IsConsistent d = AreConsistent d.now d.records.items d.calendar.bookings d.waiting d.deadlines

-- besides, ids rise, and there is a number for one record more
pub record IsReady (d : Core) : Type 0 where
  pub consistent : IsConsistent d
  pub ordered : AreOrdered d.agent.number d.next d.records.items
  pub few : length d.records.items ≤ 4194303
  pub drawn : d.next ≤ most_next

-- what is true of a provider between its entries
pub record IsSteady (d : Core) : Type 0 where
  pub most : d.taken ≤ 4194304
  pub good : IsGood (setting_at d) (state_at d)
  pub consistent : IsConsistent d

-- Which records a tick touches, and how far back a core can go when memory is wanting half way.
use Rattle.std.specs.Prelude.{◌≡◌, ◌<◌, ◌≤◌, [], ◌⊎◌, ◌&&◌, ◌||◌, ℕ, Bool, true, false, List, length, Contains}
use Rattle.std.specs.List.Sorted.{IsStrictlyIncreasing}
use Rattle.nsi_primitive.specs.Ids.{id_of}
use Rattle.connection_record.specs.declared.record.Record.{Record}
use Rattle.connection_record.specs.Replies.{Moved}
use Rattle.capacity_calendar.specs.declared.booking.Booking.{Booking}
use Rattle.capacity_calendar.specs.Plan.{committed_of, pending_of, HasNoneFrom}
use Rattle.connection_record.specs.Demand.{last, held, holds_pending}
use Rattle.connection_record.specs.Later.{IsLater}
use Rattle.connection_record.specs.Saved.{saved_of}
use Rattle.connection_record.specs.Moves.{is_over, is_due}
use Rattle.connection_record.specs.Refusal.{is_created}
use Rattle.connection_record.specs.Applied.{end_of, is_told, status_of}
use Rattle.provider_agent.specs.declared.agent.Agent.{Agent}
use Rattle.provider_agent.specs.declared.tick.Kept.{Kept}
use Rattle.provider_agent.specs.declared.tick.Ticking.{Ticking}
use Rattle.provider_agent.specs.Kept.{booked}
use Rattle.provider_agent.specs.State.{record_at}
use Rattle.provider_agent.specs.Steps.{Ticked, told_at, is_told_at, drawn}

-- the schedule of a created connection is over
abbrev pub is_ending : ℕ → Record → Bool
is_ending now r = is_created r.lsm && is_due (end_of (last r.committed)) now

-- whether a tick from a second to another does anything to a record
abbrev pub is_touched : (before now : ℕ) → Record → Bool
is_touched before now r = is_over now r || (is_ending now r || is_told (status_of before r) now r)

-- places of records in order, among them each that is touched
pub record AreDue (before now : ℕ) (records : List Record) (places : List ℕ) : Type 0 where
  pub rising : IsStrictlyIncreasing places
  pub within : (n : ℕ) → Contains places n → n < length records
  pub all : (n : ℕ) → n < length records → is_touched before now (record_at n records) ≡ true → Contains places n

---- Going back

-- each is what the record at its place was
abbrev pub AreSaved : List Record → List Kept → Type 0
AreSaved records saved = (k : Kept) → Contains saved k → (k.place < length records) × (k.saved ≡ saved_of (record_at k.place records))

-- a place that is kept
abbrev pub IsKeptAt : List Kept → ℕ → Type 0
IsKeptAt saved n = (k : Kept) × Contains saved k × (k.place ≡ n)

-- each record is what it was, or a later form of it that is kept
pub record CanGoBack (old new : List Record) (saved : List Kept) : Type 0 where
  pub long : length new ≡ length old
  pub each : (n : ℕ) → n < length old → (record_at n new ≡ record_at n old) ⊎ (IsKeptAt saved n × IsLater (record_at n old) (record_at n new))

-- where memory is wanting, all records can be what they were
pub record CanUndo (old new : List Record) (kept : List Kept) : Type 0 where
  pub saved : AreSaved old kept
  pub back : CanGoBack old new kept

---- A tick under way

-- nothing is kept and nothing said yet, and the places are those that are due
pub record IsBegun (t : Ticking) (records : List Record) (places : List ℕ) : Type 0 where
  pub due : AreDue t.before t.now records places
  pub none_kept : t.kept.items ≡ []
  pub none_said : t.out.items ≡ []
  pub next : t.next ≤ 17592194433024
  pub few : length records ≤ 4194304

-- the records, what is said, and the number of the next id
abbrev pub ticked_by : Ticking → List Record → Ticked
ticked_by t records = record { records = records; out = t.out.items; next = t.next }

-- the tick of one record, under the next id
abbrev pub tick_of : Agent → Ticking → Record → Moved
tick_of agent t own = told_at agent t.before t.now (id_of agent.number t.next) own

-- how many ids are drawn for it
abbrev pub drawn_by : Agent → Ticking → Record → ℕ
drawn_by agent t own = drawn (is_told_at agent t.before t.now own)

---- What is booked

-- what each record holds is booked, or it stands at one of the places and holds nothing any more
pub record IsFreedBut (records : List Record) (bookings : List Booking) (places : List ℕ) : Type 0 where
  pub committed : (n : ℕ) → n < length records → committed_of n bookings ≡ booked (record_at n records) (last (record_at n records).committed)
  pub held : (n : ℕ) → n < length records → (pending_of n bookings ≡ booked (record_at n records) (held (record_at n records))) ⊎ (Contains places n × (holds_pending (record_at n records).rsm ≡ false))
  pub none : HasNoneFrom (length records) bookings

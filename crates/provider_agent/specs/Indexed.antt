-- Which records a core's indexes name.
use Rattle.std.specs.Prelude.{◌≡◌, ◌<◌, ◌&&◌, ℕ, true, if◌then◌else◌, List, length, Contains, Option, Some, None, IfSome}
use Rattle.nsi_primitive.specs.declared.message.Criteria.{Criteria}
use Rattle.record_index.specs.declared.deadlines.Deadline.{Deadline}
use Rattle.connection_record.specs.declared.record.Record.{Record}
use Rattle.connection_record.specs.Demand.{last}
use Rattle.connection_record.specs.Moves.{is_live, is_held}
use Rattle.connection_record.specs.Refusal.{is_created}
use Rattle.connection_record.specs.Applied.{has_work, end_of}
use Rattle.provider_agent.specs.State.{record_at}

-- something that the record at a place has to do at a second
abbrev pub deadline_of : ℕ → ℕ → Deadline
deadline_of t n = record { second = t; place = n }

-- each record that has work to do is named
abbrev pub NamesWork : List Record → List ℕ → Type 0
NamesWork records waiting = (n : ℕ) → n < length records → has_work (record_at n records) ≡ true → Contains waiting n

-- the second at which what a record holds isn't held any more
abbrev pub held_until : Record → Option ℕ
held_until r = if is_live r.lsm && is_held r.rsm then r.deadline else None

-- the second at which the schedule of a created connection, that was committed last, is over
abbrev pub ends_at : Record → Option ℕ
ends_at r = if is_created r.lsm then end_of (last r.committed) else None

abbrev pub start_of : Option Criteria → Option ℕ
start_of None = None
start_of (Some c) = Some c.interval.start

-- the second at which that schedule begins
abbrev pub starts_at : Record → Option ℕ
starts_at r = if is_created r.lsm then start_of (last r.committed) else None

-- each hold and each schedule is named with its end
abbrev pub NamesSeconds : (Record → Option ℕ) → List Record → List Deadline → Type 0
NamesSeconds second_of records deadlines = (n t : ℕ) → n < length records → second_of (record_at n records) ≡ Some t → Contains deadlines (deadline_of t n)

-- each schedule that is still to begin is named with its start
abbrev pub NamesStarts : ℕ → List Record → List Deadline → Type 0
NamesStarts now records deadlines = (n t : ℕ) → n < length records → starts_at (record_at n records) ≡ Some t → now < t → Contains deadlines (deadline_of t n)

-- both ends of a schedule that is asked of the record at a place are named
abbrev pub NamesSchedule : ℕ → Option Criteria → List Deadline → Type 0
NamesSchedule n asked deadlines = IfSome asked (λ c. Contains deadlines (deadline_of c.interval.start n) × Contains deadlines (deadline_of c.interval.end n))

-- what counts is named; other places may be named too, and a deadline's place is always a record's
pub record AreIndexed (now : ℕ) (records : List Record) (waiting : List ℕ) (deadlines : List Deadline) : Type 0 where
  pub works : NamesWork records waiting
  pub holds : NamesSeconds held_until records deadlines
  pub ends : NamesSeconds ends_at records deadlines
  pub starts : NamesStarts now records deadlines
  pub within : (d : Deadline) → Contains deadlines d → d.place < length records

-- A turn: an agent takes what came, does its work, syncs, says what the synced entries cause, and pushes.
use Rattle.std.specs.Prelude.{ℕ, zero, suc, ◌+◌, ◌==◌, Bool, true, false, List, [], ◌∷◌, ◌++◌, length, map, Option, Some, None}
use Rattle.nsi_primitive.specs.declared.entry.Entry.{Entry}
use Rattle.nsi_primitive.specs.Messages.{identity}
use Rattle.nsi_primitive.specs.declared.entry.Event.{Event}
use Rattle.nsi_primitive.specs.declared.entry.Happening.{Happening}
use Rattle.nsi_primitive.specs.declared.entry.Input.{Input}
use Rattle.nsi_primitive.specs.declared.message.Parcel.{Parcel}
use Rattle.nsi_primitive.specs.declared.state.Machine.{Machine}
use Rattle.nsi_agent.specs.Homes.{Home}
use Rattle.nsi_agent.specs.Steps.{is_new, waits, work_of, works_left}
use Rattle.agent_node.specs.Seat.{Seat, enters_now, enters_if, queues, says_all}
pub use Rattle.agent_node.specs.Passing.{lying, clears, pushes}

---- What came

abbrev pub cleared : Seat → Seat
cleared s = record s { doors = map clears s.doors }

-- A message of the first time makes an entry, and every message queues its acknowledgement; an acknowledgement makes an
-- entry where its message waits.
unfoldable pub takes : Home → ℕ → Parcel → Seat → Seat
takes h from (Parcel.Message m) s = queues from (Parcel.Ack (identity m)) (enters_if (is_new h s.state m) h (Input.Got m) s)
takes h from (Parcel.Ack i) s = enters_if (waits i s.state) h (Input.Acked i) s

unfoldable pub takes_all : Home → List (ℕ × Parcel) → Seat → Seat
takes_all h [] s = s
takes_all h (x ∷ xs) s = takes_all h xs (takes h x.0 x.1 s)

---- Work

-- the work that waits first, and then what is left
abbrev pub work_then : Option (ℕ × Machine) → Home → (Seat → Seat) → Seat → Seat
work_then None h rest s = s
work_then (Some w) h rest s = rest (enters_now h (Input.Work w.0 w.1) s)

-- so much of the work that waits, one after another
unfoldable pub works_off : ℕ → Home → Seat → Seat
works_off zero h s = s
works_off (suc n) h s = work_then (work_of h.role s.state) h (works_off n h) s

-- all work that waits
abbrev pub worked : Home → Seat → Seat
worked h s = works_off (works_left h.role s.state) h s

---- Syncs and pushes

abbrev pub sync_event : ℕ → ℕ → Event
sync_event n count = record { agent = n; what = Happening.Sync count }

-- more entries behind those that are told
abbrev pub adds : List Entry → Option (List Entry) → Option (List Entry)
adds es None = None
adds es (Some past) = Some (past ++ es)

-- all is synced, and what it causes is queued
abbrev pub syncs : Home → Seat → Seat
syncs h s =
    record s {
      past = adds s.fresh s.past;
      synced = s.synced + length s.fresh;
      fresh = [];
      unsaid = [];
      events = s.events ++ sync_event s.number (s.synced + length s.fresh) ∷ [];
      doors = says_all h.agent_of s.unsaid s.doors;
    }

unfoldable pub syncs_if : (is_synced : Bool) → Home → Seat → Seat
syncs_if true h s = s
syncs_if false h s = syncs h s

abbrev pub synced_all : Home → Seat → Seat
synced_all h s = syncs_if (length s.fresh == 0) h s

abbrev pub pushed : Seat → Seat
pushed s = record s { doors = map pushes s.doors }

-- what is entered before the sync of a turn, in which these parcels are taken
abbrev pub turn_entered : Home → List (ℕ × Parcel) → Seat → Seat
turn_entered h xs s = worked h (takes_all h xs s)

-- a turn, in which these parcels are taken
unfoldable pub turn_with : Home → List (ℕ × Parcel) → Seat → Seat
turn_with h xs s = pushed (synced_all h (turn_entered h xs s))

-- a turn, in which it takes what came
abbrev pub turned : Home → Seat → Seat
turned h s = turn_with h (lying s.doors) (cleared s)

-- a turn that ends where the disk stops: it has taken what came and done its work, and says and pushes nothing
abbrev pub halted : Home → Seat → Seat
halted h s = turn_entered h (lying s.doors) (cleared s)

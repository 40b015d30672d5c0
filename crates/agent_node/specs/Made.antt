-- What a turn makes of an agent with its journal.
use Rattle.std.specs.Prelude.{◌≡◌, ◌≤◌, ◌<◌, ◌+◌, ℕ, List, length, Option, Some, None}
use Rattle.nsi_primitive.specs.declared.entry.Entry.{Entry}
use Rattle.nsi_primitive.specs.declared.message.Parcel.{Parcel}
use Rattle.nsi_disk.specs.Disk.{Meter}
use Rattle.journal_entry.specs.Journal.{Adds, KeepsOneOf}
use Rattle.nsi_agent.specs.Homes.{Home}
use Rattle.agent_node.specs.declared.fault.TurnFault.{TurnFault}
use Rattle.agent_node.specs.Seat.{Seat}
use Rattle.agent_node.specs.Turns.{lying, cleared, synced_all, turn_entered, turn_with, turned, halted}
use Rattle.agent_node.specs.Kept.{Kept, IsSameAgent, first_kept}
use Rattle.agent_node.specs.Seated.{At}

-- so it is of an agent, whichever legs are those of the least paths
abbrev pub AtHome : Kept → (Home → Type 0) → Type 0
AtHome k P = At k.network k.seat.number P

-- the entries that a turn keeps, in which these parcels are taken: those that it makes, behind those that weren't synced
abbrev pub turn_keeps : Home → List (ℕ × Parcel) → Seat → List Entry
turn_keeps h xs s = (turn_entered h xs s).fresh

-- what a turn keeps, in which it takes what came
abbrev pub keeps : Home → Seat → List Entry
keeps h s = turn_keeps h (lying s.doors) (cleared s)

-- the counts of a disk don't fall, and rise only where a call fails; as many stops are planned; each fault of it has its cause
pub record HasTurnCause (old new : Meter) (fault : Option TurnFault) : Type 0 where
  pub faults : old.faults ≤ new.faults
  pub stops : old.stops ≤ new.stops
  pub quiet : fault ≡ None → new.faults ≡ old.faults
  pub calm : fault ≡ None → new.stops ≡ old.stops
  pub failed : fault ≡ Some TurnFault.DiskFault → old.faults < new.faults
  pub stopped : fault ≡ Some TurnFault.Stopped → old.stops < new.stops
  pub spares : fault ≡ Some TurnFault.Stopped → new.faults ≡ old.faults
  pub planned : new.planned ≡ old.planned

-- A turn that had room for so many events, whose first part is e, which enters entries. Without a fault it makes f of an agent, and keeps
-- what is fresh behind e. The fault Long comes exactly where more events were to be made. Where the disk stops, e alone was made of the
-- agent; what its journal kept is the front of what it keeps then, alone or with what is fresh.
pub record IsMade (f e : Home → Seat → Seat) (room : ℕ) (old new : Kept) : Type 0 where
  pub ok : AtHome old (λ h. new.fault ≡ None → new.seat ≡ f h old.seat)
  pub kept : AtHome old (λ h. new.fault ≡ None → Adds (e h old.seat).fresh old.kept new.kept)
  pub fits : AtHome old (λ h. new.fault ≡ None → length (f h old.seat).events ≤ length old.seat.events + room)
  pub long : AtHome old (λ h. new.fault ≡ Some TurnFault.Long → length old.seat.events + room < length (f h old.seat).events)
  pub halted : AtHome old (λ h. new.fault ≡ Some TurnFault.Stopped → new.seat ≡ e h old.seat)
  pub either : new.fault ≡ Some TurnFault.Stopped → KeepsOneOf new.seat.fresh old.kept new.kept
  pub front : new.fault ≡ Some TurnFault.Stopped → first_kept new.seat.synced new.kept ≡ old.kept
  pub cause : HasTurnCause old.meter new.meter new.fault
  pub same : IsSameAgent old new
  pub plugs : new.plugs ≡ old.plugs

-- a turn, in which it takes these parcels
abbrev pub IsTurnWith : List (ℕ × Parcel) → ℕ → Kept → Kept → Type 0
IsTurnWith xs room old new = IsMade (λ h s. turn_with h xs s) (λ h s. turn_entered h xs s) room old new

-- a turn, in which it takes what came
abbrev pub IsTurn : ℕ → Kept → Kept → Type 0
IsTurn room old new = IsMade turned halted room old new

-- nothing is entered
abbrev pub unsynced : Home → Seat → Seat
unsynced h s = s

-- what isn't synced is synced, and kept
abbrev pub IsSynced : ℕ → Kept → Kept → Type 0
IsSynced room old new = IsMade synced_all unsynced room old new

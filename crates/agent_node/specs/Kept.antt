-- An agent with its journal and its links, as its contracts see it.
use Rattle.std.specs.Prelude.{◌≡◌, ℕ, Bool, false, List, [], ◌∷◌, length, map, take, Option, Some, None, IfSome, Result, Ok, Err}
use Rattle.std.specs.List.{All}
use Rattle.nsi_primitive.specs.declared.entry.Entry.{Entry}
use Rattle.stp_topology.specs.declared.network.Network.{Network}
use Rattle.nsi_disk.specs.Disk.{History, Meter}
use Rattle.journal_entry.specs.Journal.{Kept as Journaled, MayLeaveWith}
use Rattle.agent_link.specs.Link.{Half, OutHalf, Wire}
use Rattle.agent_link.specs.Plans.{Plan}
use Rattle.agent_node.specs.declared.fault.TurnFault.{TurnFault}
use Rattle.agent_node.specs.Passing.{others, plug_to, crossed}
pub use Rattle.agent_node.specs.Passing.{Plug}
use Rattle.agent_node.specs.Seated.{Seated}
use Rattle.agent_node.specs.Seat.{Seat}

-- the topology that it stands in, itself, its links, why it can't be used any more where a call of it has failed, the counts of its
-- disk, and what its journal keeps, where this is told
pub record Kept : Type 0 where
  pub network : Network
  pub seat : Seat
  pub plugs : List Plug
  pub fault : Option TurnFault
  pub meter : Meter
  pub kept : Option Journaled

-- an agent with what is told of its journal
abbrev pub kept_with : Seated → Option TurnFault → Meter → Option Journaled → Kept
kept_with s fault meter kept =
    record { network = s.network; seat = s.seat; plugs = s.plugs; fault = fault; meter = meter; kept = kept }

---- Its journal

-- its journal has so many synced entries, where this is told
abbrev pub HasSynced : ℕ → Option Journaled → Type 0
HasSynced count kept = IfSome kept (λ k. length k.synced ≡ count)

-- the first of the entries that are kept, so many, and none that waits
abbrev pub first_kept : ℕ → Option Journaled → Option Journaled
first_kept count None = None
first_kept count (Some k) = Some (record { synced = take count k.synced; waiting = [] })

-- a crash now leaves the entries that the agent knows as synced, or these with its fresh ones behind them
abbrev pub LeavesBatch : (List ℕ → Result (List Entry) ℕ) → Seat → Option Journaled → Option History → Type 0
LeavesBatch reading s kept now = MayLeaveWith reading s.fresh (first_kept s.synced kept) now

-- Where no call has failed, the journal may be used, no batch waits, and it has as many synced entries as the agent knows; where its disk
-- has stopped, a crash leaves those, or also the agent's fresh ones.
abbrev pub IsHeld : (List ℕ → Result (List Entry) ℕ) → (ready : Type 0) → (waits : Bool) → Option Journaled → Option History → Seat → Option TurnFault → Type 0
IsHeld reading ready waits kept now s fault =
    (fault ≡ None → ready × (waits ≡ false) × HasSynced s.synced kept) × (fault ≡ Some TurnFault.Stopped → LeavesBatch reading s kept now)

---- Links

-- the wires of the first link to an agent
abbrev pub plug : Kept → ℕ → Option (Wire × Wire)
plug k n = plug_to n k.plugs

-- either both have a link to the other one, and its ends are pairs, or neither has
abbrev pub AreLinked : Kept → Kept → Type 0
AreLinked a b = plug a b.seat.number ≡ crossed (plug b a.seat.number)

---- What stays

-- the same agent, with links to the same others
pub record IsSameAgent (old new : Kept) : Type 0 where
  pub network : new.network ≡ old.network
  pub number : new.seat.number ≡ old.seat.number
  pub others : others new.seat.doors ≡ others old.seat.doors

-- its journal and its disk are as they were
pub record HasSameJournal (old new : Kept) : Type 0 where
  pub meter : new.meter ≡ old.meter
  pub kept : new.kept ≡ old.kept

-- why a call has failed, where it has
abbrev pub fault_in : {T : Type 0} → Result T TurnFault → Option TurnFault
fault_in (Ok x) = None
fault_in (Err e) = Some e

-- the same of a call that fails only for want of memory
abbrev pub lack_of : {T E : Type 0} → Result T E → Option TurnFault
lack_of (Ok x) = None
lack_of (Err e) = Some TurnFault.NoMemory

---- The ends of links that an agent begins with

abbrev pub IsShut : OutHalf → Type 0
IsShut o = o.parcels ≡ []

abbrev pub KnowsNone : Half → Type 0
KnowsNone h = h.parcels ≡ []

-- as many ends of each way as there are others, through which nothing went yet
pub record AreEnds (others : List ℕ) (outgoing : List OutHalf) (incoming : List Half) : Type 0 where
  pub outs : length outgoing ≡ length others
  pub incs : length incoming ≡ length others
  pub shut : All IsShut outgoing
  pub known : All KnowsNone incoming

abbrev pub plan_of : OutHalf → Plan
plan_of o = o.plan

-- these are planned for them, by the others' numbers
abbrev pub ArePlanned : (ℕ → Plan) → (others : List ℕ) → (outgoing : List OutHalf) → Type 0
ArePlanned plans others outgoing = map plan_of outgoing ≡ map plans others

-- the wires of two ends to an agent
abbrev pub plug_by : ℕ → OutHalf → Half → Plug
plug_by b out inc = record { other = b; out = out.wire; inc = inc.wire }

-- the wires of these ends, in order
abbrev pub plugs_of : List ℕ → List OutHalf → List Half → List Plug
plugs_of (b ∷ bs) (o ∷ os) (i ∷ is) = plug_by b o i ∷ plugs_of bs os is
plugs_of _ _ _ = []

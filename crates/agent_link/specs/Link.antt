-- The two ends of a link.
use denote.RawPtr.{Ptr}
use Rattle.rtrb.specs.Shared.{Names}
use Rattle.std.specs.Prelude.{ℕ, ◌+◌, Bool, nat_lt, List, [], ◌∷◌, ◌++◌, length, drop, Option, Some, None, Box, box_value}
use Rattle.std.specs.declared.alloc.Global.{Global}
use Rattle.nsi_primitive.specs.declared.message.Parcel.{Parcel}
use Rattle.agent_link.specs.Plans.{Plan}
use Rattle.agent_link.specs.Fates.{comes, passed}
use Rattle.agent_link.specs.declared.ends.PushFault.{PushFault}

-- which link it is, and how many parcels had been let through when its ends last met
pub record Wire : Type 0 where
  pub words : Ptr
  pub slots : Ptr
  pub names : Names
  pub heap : Global
  pub met : ℕ

-- the end that parcels are taken from: what it knows and hasn't given
pub record Half : Type 0 where
  pub parcels : List Parcel
  pub wire : Wire

-- the end that they are put on: what was let through since the ends met, and what is planned for it from here on
pub record OutHalf : Type 0 where
  pub parcels : List Parcel
  pub wire : Wire
  pub plan : Plan

-- so many parcels go through between two meetings
abbrev pub most_parcels : ℕ
most_parcels = 1024

-- what comes of one more has no room
abbrev pub is_full : Parcel → Plan → List Parcel → Bool
is_full p plan ps = nat_lt most_parcels (length ps + length (comes p plan))

-- one more is put on the link
abbrev pub pushed : Parcel → OutHalf → OutHalf
pushed p o = record o { parcels = o.parcels ++ comes p o.plan; plan = passed p o.plan }

-- the next one, and what is known behind it
abbrev pub next_of : List Parcel → Option Parcel
next_of [] = None
next_of (p ∷ ps) = Some p

abbrev pub taken : List Parcel → List Parcel
taken ps = drop 1 ps

-- what both ends know of each other: what is let through at the one, and known at the other
pub record Ends : Type 0 where
  pub out : List Parcel
  pub known : List Parcel

abbrev pub ends : OutHalf → Half → Ends
ends out incoming = record { out = out.parcels; known = incoming.parcels }

-- what was let through is known
abbrev pub met : Ends → Ends
met e = record { out = []; known = e.out }

-- the parcel that is handed back
abbrev pub handed_back : PushFault → Parcel
handed_back (PushFault.Full p) = p
handed_back (PushFault.NoMemory p) = p

-- what a box holds
abbrev pub unboxed : Box Parcel Global → Parcel
unboxed b = box_value b

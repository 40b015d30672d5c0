-- The agents of a net with their journals and links, as their contracts see them.
use Rattle.std.specs.Prelude.{ℕ, ◌≡◌, ◌≤◌, Bool, true, false, List, [], ◌∷◌, ◌++◌, ◌⊎◌, map, Option, Some, None}
use Rattle.nsi_primitive.specs.declared.entry.Entry.{Entry}
use Rattle.stp_topology.specs.declared.network.Network.{Network}
use Rattle.agent_link.specs.Link.{Wire}
use Rattle.journal_entry.specs.Journal.{Kept as Journaled}
use Rattle.stp_topology.specs.Network.{name_of}
use Rattle.nsi_agent.specs.Homes.{Routes, AreRoutes, home_in}
use Rattle.nsi_agent.specs.Told.{told}
use Rattle.agent_node.specs.Passing.{others}
use Rattle.agent_node.specs.Seat.{Seat}
use Rattle.agent_node.specs.Kept.{Kept, plug, AreLinked, IsSameAgent}
use Rattle.nsi_play.specs.Rounds.{Net, Homes}

abbrev pub seat_in : Kept → Seat
seat_in k = k.seat

abbrev pub seats : List Kept → Net
seats ks = map seat_in ks

-- something of two lists is so at each place, and they are as long
abbrev pub EachIs : (Kept → Kept → Type 0) → List Kept → List Kept → Type 0
EachIs R [] [] = Unit {0}
EachIs R [] (n ∷ ns) = ⊥
EachIs R (o ∷ os) [] = ⊥
EachIs R (o ∷ os) (n ∷ ns) = R o n × EachIs R os ns

---- What journals tell

-- the entries that a journal tells as synced
abbrev pub synced_in : Option Journaled → Option (List Entry)
synced_in None = None
synced_in (Some j) = Some j.synced

abbrev pub past_by : (tells : Bool) → Kept → Option (List Entry)
past_by true k = synced_in k.kept
past_by false k = k.seat.past

-- an agent, with its synced entries as its journal tells them, or as it is
abbrev pub seen : (tells : Bool) → Kept → Seat
seen tells k = record k.seat { past = past_by tells k }

abbrev pub seats_by : (tells : Bool) → List Kept → Net
seats_by tells ks = map (seen tells) ks

-- its journal tells what it has synced, which with the entries behind it makes its state
abbrev pub IsOwned : Homes → Kept → Type 0
IsOwned homes k = (j : Journaled) × (k.kept ≡ Some j) × ((told (homes k.seat.number) (j.synced ++ k.seat.fresh)).state ≡ k.seat.state)

abbrev pub AreOwned : Homes → List Kept → Type 0
AreOwned homes [] = Unit {0}
AreOwned homes (k ∷ ks) = IsOwned homes k × AreOwned homes ks

---- Topologies

-- they stand in this topology
abbrev pub AreOf : Network → List Kept → Type 0
AreOf t [] = Unit {0}
AreOf t (k ∷ ks) = (k.network ≡ t) × AreOf t ks

-- So it is in the topology that they stand in, whichever legs are those of the least paths: of the agents as they are, and with their synced
-- entries, where their journals tell these.
abbrev pub AtHomes : List Kept → (Homes → (tells : Bool) → Type 0) → Type 0
AtHomes ks P = (t : Network) → AreOf t ks → (routes : Routes) → AreRoutes t routes → (tells : Bool) → (tells ≡ true → AreOwned (home_in t routes) ks) → P (home_in t routes) tells

-- the same agent, with links to the same others; no call of its disk has failed
pub record IsSteady (old new : Kept) : Type 0 where
  pub network : new.network ≡ old.network
  pub number : new.seat.number ≡ old.seat.number
  pub others : others new.seat.doors ≡ others old.seat.doors
  pub faults : new.meter.faults ≡ old.meter.faults
  pub stops : old.meter.stops ≤ new.meter.stops
  pub planned : new.meter.planned ≡ old.meter.planned

abbrev pub AreSame : List Kept → List Kept → Type 0
AreSame olds news = EachIs IsSteady olds news

-- no call of its disk has failed
pub record IsCalm (old new : Kept) : Type 0 where
  pub faults : new.meter.faults ≡ old.meter.faults
  pub stops : old.meter.stops ≤ new.meter.stops

abbrev pub AreCalm : List Kept → List Kept → Type 0
AreCalm olds news = EachIs IsCalm olds news

-- the same agent, for whose disk as many stops are planned
pub record IsAsPlanned (old new : Kept) : Type 0 where
  pub same : IsSameAgent old new
  pub planned : new.meter.planned ≡ old.meter.planned

-- and no fewer were counted
pub record HasAsMany (old new : Kept) : Type 0 where
  pub same : IsSameAgent old new
  pub stops : old.meter.stops ≤ new.meter.stops
  pub planned : new.meter.planned ≡ old.meter.planned

-- the same agent, whose disk no call has stopped
pub record IsUnstopped (old new : Kept) : Type 0 where
  pub same : IsSameAgent old new
  pub stops : new.meter.stops ≡ old.meter.stops
  pub planned : new.meter.planned ≡ old.meter.planned

---- Nets

-- none of its calls has failed
abbrev pub IsUsable : Kept → Type 0
IsUsable k = k.fault ≡ None

-- none of their calls has failed
abbrev pub AreUsable : List Kept → Type 0
AreUsable [] = Unit {0}
AreUsable (k ∷ ks) = IsUsable k × AreUsable ks

abbrev pub number_of : Seat → ℕ
number_of s = s.number

abbrev pub numbers : Net → List ℕ
numbers net = map number_of net

abbrev pub IsAbsent : ℕ → List ℕ → Type 0
IsAbsent a [] = Unit {0}
IsAbsent a (n ∷ ns) = (a ≡ n → ⊥) × IsAbsent a ns

-- one of these numbers
abbrev pub IsOneOf : ℕ → List ℕ → Type 0
IsOneOf a [] = ⊥
IsOneOf a (n ∷ ns) = (a ≡ n) ⊎ IsOneOf a ns

-- none has a number that none of those has
abbrev pub AreAmong : List Kept → List Kept → Type 0
AreAmong olds news = (a : ℕ) → IsOneOf a (numbers (seats news)) → IsOneOf a (numbers (seats olds))

-- each has a number of its own, and none a link to itself
abbrev pub AreApart : Net → Type 0
AreApart [] = Unit {0}
AreApart (s ∷ ss) = IsAbsent s.number (numbers ss) × (IsAbsent s.number (others s.doors) × AreApart ss)

-- the links between the one and the others are pairs
abbrev pub IsLinkedToAll : Kept → List Kept → Type 0
IsLinkedToAll a [] = Unit {0}
IsLinkedToAll a (k ∷ ks) = AreLinked a k × IsLinkedToAll a ks

-- all links are pairs
abbrev pub AreWired : List Kept → Type 0
AreWired [] = Unit {0}
AreWired (k ∷ ks) = IsLinkedToAll k ks × AreWired ks

-- everyone's wires to an agent
abbrev pub plugs_to : ℕ → List Kept → List (Option (Wire × Wire))
plugs_to n [] = []
plugs_to n (k ∷ ks) = plug k n ∷ plugs_to n ks

-- disks of their names may be taken back
abbrev pub AreListed : (List ℕ → Bool) → List Kept → Type 0
AreListed listed [] = Unit {0}
AreListed listed (k ∷ ks) = (listed (name_of k.network k.seat.number) ≡ true) × AreListed listed ks

-- agents that can make a round
pub record AreNet (ks : List Kept) : Type 0 where
  pub usable : AreUsable ks
  pub apart : AreApart (seats ks)
  pub wired : AreWired ks

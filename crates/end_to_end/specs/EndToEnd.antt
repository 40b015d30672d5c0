-- A circuit from end to end: bookings at providers, port by port.
use Rattle.std.specs.Prelude.{ℕ, ◌≡◌, true, List, [], ◌∷◌, Some, Contains, slice_get}
use Rattle.std.specs.List.{All}
use Rattle.nsi_primitive.specs.declared.message.Criteria.{Criteria}
use Rattle.stp_topology.specs.declared.network.Network.{Network}
use Rattle.stp_topology.specs.Network.{partner_of}
use Rattle.path_segments.specs.Paths.{IsOwned}
use Rattle.connection_record.specs.declared.record.Record.{Record}
use Rattle.connection_record.specs.Moves.{is_live}
use Rattle.nsi_world.specs.Worlds.{Homes, IsAgent, World}
use Rattle.nsi_world.specs.Runs.{is_provider}
use Rattle.run_growth.specs.Cuts.{synced_state}

-- the connection that stands at a place among the records of an agent
pub record Booking : Type 0 where
  pub agent : ℕ
  pub place : ℕ
  pub connection : Record

-- A provider has it, by what it has synced: between two ports of its own, with these criteria as committed.
pub record IsBooked (t : Network) (homes : Homes) (w : World) (k : Criteria) (x : Booking) : Type 0 where
  pub agent : IsAgent homes x.agent
  pub provider : is_provider (homes x.agent).role ≡ true
  pub there : slice_get (synced_state homes w x.agent).base.records x.place ≡ Some x.connection
  pub ports : IsOwned t x.agent x.connection.source x.connection.dest
  pub committed : Contains x.connection.committed k

-- from a port on: it is joined with the source of the first booking, whose destination is joined with that of the next one, and so on to the end
abbrev pub JoinOnward : Network → (exit dest : ℕ) → List Booking → Type 0
JoinOnward t exit dest [] = exit ≡ dest
JoinOnward t exit dest (x ∷ xs) = (partner_of t exit ≡ Some x.connection.source) × JoinOnward t x.connection.dest dest xs

-- the first booking begins at the source
abbrev pub JoinEndToEnd : Network → (source dest : ℕ) → List Booking → Type 0
JoinEndToEnd t source dest [] = ⊥
JoinEndToEnd t source dest (x ∷ xs) = (x.connection.source ≡ source) × JoinOnward t x.connection.dest dest xs

-- it is another record
abbrev pub IsOther : Booking → Booking → Type 0
IsOther x y = x.agent ≡ y.agent → x.place ≡ y.place → ⊥

-- no two of them are one record
abbrev pub AreApart : List Booking → Type 0
AreApart [] = Unit {0}
AreApart (x ∷ xs) = All (IsOther x) xs × AreApart xs

-- Between two ports there are bookings at providers, each with the same criteria: version, schedule and capacity. They join end to end: the first
-- begins at the one port, each next one at the port that is joined with the end of the last, and the last ends at the other port. No record is
-- counted twice.
pub record IsEndToEnd (t : Network) (homes : Homes) (w : World) (source dest : ℕ) (k : Criteria) (bookings : List Booking) : Type 0 where
  pub each : All (IsBooked t homes w k) bookings
  pub joined : JoinEndToEnd t source dest bookings
  pub apart : AreApart bookings

abbrev pub IsLiving : Booking → Type 0
IsLiving x = is_live x.connection.lsm ≡ true

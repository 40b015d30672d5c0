-- Nets between two rounds: what was let through is known, and no link holds more than a round lets through.
use Rattle.std.specs.Prelude.{◌≢◌, ◌≤◌, ℕ, List, length, map}
use Rattle.std.specs.List.{All, AllPairs, Contains}
use Rattle.agent_link.specs.Link.{most_parcels}
use Rattle.agent_node.specs.Doors.{Door}
use Rattle.agent_node.specs.Passing.{HasMet, others}
use Rattle.agent_node.specs.Seat.{Seat}
use Rattle.nsi_play.specs.Rounds.{Net}

abbrev pub number_of : Seat → ℕ
number_of s = s.number

abbrev pub numbers : Net → List ℕ
numbers net = map number_of net

-- no more came than a link lets through between two meetings
abbrev pub IsFew : Door → Type 0
IsFew d = length d.inc ≤ most_parcels

-- a link to one of these agents
abbrev pub LeadsTo : List ℕ → Door → Type 0
LeadsTo ns d = Contains ns d.other

-- an agent has its links to others among these, no two to the same
pub record IsBoundedIn (ns : List ℕ) (s : Seat) : Type 0 where
  pub met : All HasMet s.doors
  pub few : All IsFew s.doors
  pub apart : AllPairs (λ a b. b ≢ a) (others s.doors)
  pub lead : All (LeadsTo ns) s.doors

-- so it is of every agent of the net
abbrev pub IsBounded : Net → Type 0
IsBounded net = All (IsBoundedIn (numbers net)) net

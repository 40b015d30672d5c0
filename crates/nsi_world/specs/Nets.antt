-- All agents of a net as they stand in a world.
use Rattle.std.specs.Prelude.{◌≡◌, ◌≢◌, ℕ, List, [], ◌∷◌, map}
use Rattle.std.specs.List.{All}
use Rattle.nsi_primitive.specs.declared.entry.Event.{Event}
use Rattle.agent_node.specs.Seat.{Seat}
use Rattle.nsi_play.specs.Rounds.{Net}
use Rattle.nsi_world.specs.Worlds.{Homes, World}
use Rattle.nsi_world.specs.Runs.{world_after}
use Rattle.nsi_world.specs.Heard.{IsFair}
use Rattle.nsi_world.specs.Seats.{Stands, AreFree}

abbrev pub number_of : Seat → ℕ
number_of s = s.number

-- the agents' numbers
abbrev pub numbers : Net → List ℕ
numbers net = map number_of net

-- each has a number of its own
unfoldable pub AreDistinct : List ℕ → Type 0
AreDistinct [] = Unit {0}
AreDistinct (n ∷ ns) = All (λ m. m ≢ n) ns × AreDistinct ns

-- what has happened is taken away
abbrev pub IsTold : Seat → Type 0
IsTold s = s.events ≡ []

-- all stand so in a world that events of runs make, and each has a number of its own
pub record AllStand (homes : Homes) (clock : ℕ) (w : World) (net : Net) : Type 0 where
  pub distinct : AreDistinct (numbers net)
  pub told : All IsTold net
  pub stand : All (Stands homes clock w) net
  pub fair : IsFair homes w

-- a net goes on by events that are allowed, and stands so in the world after them
pub record NetGoesOn (homes : Homes) (clock : ℕ) (w : World) (old : Net) (events : List Event) (new : Net) : Type 0 where
  pub free : AreFree homes w events
  pub numbers : numbers new ≡ numbers old
  pub stand : AllStand homes clock (world_after w events) new

-- Where the connections of an id are looked for.
use Rattle.std.specs.Prelude.{◌≡◌, ◌<◌, ℕ, true, List, length, get_or, Contains}
use Rattle.std.specs.List.Sorted.{IsStrictlyIncreasing}
use Rattle.aggregator_agent.specs.declared.connection.Connection.{Connection}
use Rattle.aggregator_agent.specs.Bonds.{is_owned}

-- the places, in rising order, at which a connection with the id may be the owner's
pub record AreOwned (id : ℕ) (owner : List ℕ) (xs : List Connection) (places : List ℕ) : Type 0 where
  pub rising : IsStrictlyIncreasing places
  pub within : (n : ℕ) → Contains places n → n < length xs
  pub all : (n : ℕ) (x : Connection) → n < length xs → is_owned id owner (get_or xs n x) ≡ true → Contains places n

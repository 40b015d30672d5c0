use Rattle.child_connection.proofs.Places.{asks_place, hear_place}
use Rattle.child_connection.proofs.laws.places.Goals as goal

pub returns : goal.returns
returns c = record {
  asks = asks_place;
  messages = hear_place;
}

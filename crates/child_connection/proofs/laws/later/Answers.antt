use Rattle.child_connection.proofs.Growing.{later_refl, later_trans, asks_later, hear_later}
use Rattle.child_connection.proofs.laws.later.Goals as goal

pub returns : goal.returns
returns c = record {
  same = later_refl;
  then = later_trans;
  asks = asks_later;
  messages = hear_later;
}

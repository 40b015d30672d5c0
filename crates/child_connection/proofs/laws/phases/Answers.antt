use Rattle.child_connection.proofs.Holds.{new_fits, asks_fit, hear_fits}
use Rattle.child_connection.proofs.laws.phases.Goals as goal

pub returns : goal.returns
returns c = record {
  new = new_fits;
  asks = asks_fit;
  messages = hear_fits;
}

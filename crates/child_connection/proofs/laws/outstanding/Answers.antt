use Rattle.child_connection.proofs.Holds.{asked_stands, asked_held, none_held, others_hold, hear_holds}
use Rattle.child_connection.proofs.laws.outstanding.Goals as goal

pub returns : goal.returns
returns c = record {
  stands = asked_stands;
  asked = asked_held;
  none = none_held;
  others = others_hold;
  answered = hear_holds;
}

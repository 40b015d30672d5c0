use Rattle.child_connection.proofs.Reservations.{apart_same, settling_changes, others_alike, same_hear, request_stays, attempt_asked, held_attempt}
use Rattle.child_connection.proofs.laws.reservations.Goals as goal

pub returns : goal.returns
returns c = record {
  apart = apart_same;
  settling = settling_changes;
  alike = others_alike;
  same = same_hear;
  request = request_stays;
  attempt = attempt_asked;
  held = held_attempt;
}

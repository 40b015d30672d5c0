use Rattle.child_connection.proofs.Places.{ignored_leaves, new_hears_nothing}
use Rattle.child_connection.proofs.laws.ignoring.Goals as goal

pub returns : goal.returns
returns c = record {
  leaves = ignored_leaves;
  new = new_hears_nothing;
}

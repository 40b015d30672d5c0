-- What stays of a view.
use Rattle.std.specs.Prelude.{◌≡◌}
use Rattle.child_connection.specs.Views.{ChildConnection}

-- the child and its points stay
pub record IsSamePlace (x y : ChildConnection) : Type 0 where
  pub child : y.child ≡ x.child
  pub source : y.source ≡ x.source
  pub dest : y.dest ≡ x.dest

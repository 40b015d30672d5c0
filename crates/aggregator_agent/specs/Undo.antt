-- How what is done to connections is taken back.
use Rattle.std.specs.Prelude.{◌≡◌, ◌≢◌, ◌<◌, ℕ, List, length, Contains, Option, Some, None}
use Rattle.std.specs.Global.{Vec}
use Rattle.connection_record.specs.Later.{IsLater}
use Rattle.connection_record.specs.Saved.{saved_of}
use Rattle.child_connection.specs.Views.{ChildConnection}
use Rattle.aggregator_agent.specs.declared.keeping.Kept.{Kept}
use Rattle.aggregator_agent.specs.Bonds.{Bond, bond_at}

-- the views that are put back, or those that are there
abbrev pub views_back : Option (Vec ChildConnection) → List ChildConnection → List ChildConnection
views_back None xs = xs
views_back (Some copies) xs = copies.items

-- it is kept so that it can be put back whatever becomes of the views
pub record Keeps (k : Kept) (b : Bond) : Type 0 where
  pub own : k.own ≡ saved_of b.own
  pub children : (xs : List ChildConnection) → views_back k.children xs ≡ b.children

-- from what is there now it can be put back
pub record IsFormer (k : Kept) (was now : Bond) : Type 0 where
  pub own : k.own ≡ saved_of was.own
  pub later : IsLater was.own now.own
  pub children : views_back k.children now.children ≡ was.children

-- each that is kept can be put back, and the others are what they were
pub record CanUndo (old now : List Bond) (ks : List Kept) : Type 0 where
  pub long : length now ≡ length old
  pub within : (k : Kept) → Contains ks k → k.place < length old
  pub each : (k : Kept) → Contains ks k → IsFormer k (bond_at k.place old) (bond_at k.place now)
  pub rest : (n : ℕ) → ((k : Kept) → Contains ks k → k.place ≢ n) → bond_at n now ≡ bond_at n old

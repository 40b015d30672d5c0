-- A view at rest against its child's record.
use Rattle.std.specs.Prelude.{ℕ, ◌≡◌, ◌⊎◌, List, Option, None}
use Rattle.nsi_primitive.specs.declared.state.Rsm.{Rsm}
use Rattle.child_connection.specs.declared.state.Phase.{Phase}
use Rattle.child_connection.specs.Views.{ChildConnection}

-- what a child's record has of the reservation: its state, the version that is held, and those that are committed
pub record Standing : Type 0 where
  pub rsm : Rsm
  pub pending : Option ℕ
  pub committed : List ℕ

-- the table of phases; where the record holds, it holds what the view was told
abbrev pub Rests : Phase → ChildConnection → Standing → Type 0
Rests Phase.Idle x s = s.rsm ≡ Rsm.ReserveStart
Rests Phase.Held x s = ((s.rsm ≡ Rsm.ReserveHeld) × (x.pending ≡ s.pending)) ⊎ (s.rsm ≡ Rsm.ReserveTimeout)
Rests Phase.Failed x s = s.rsm ≡ Rsm.ReserveFailed
Rests Phase.TimedOut x s = s.rsm ≡ Rsm.ReserveTimeout
Rests _ x s = ⊥

-- nothing is unanswered: the table, and the same versions are committed
pub record IsQuiet (x : ChildConnection) (s : Standing) : Type 0 where
  pub none : x.reserve_request ≡ None
  pub rests : Rests x.phase x s
  pub same : x.committed ≡ s.committed

-- the view as it will be if its request is refused
abbrev pub back : ChildConnection → ChildConnection
back x = record x { phase = x.before; reserve_request = None }

-- What is true of each world of a run.
use Rattle.std.specs.Prelude.{◌≤◌, ℕ, length}
use Rattle.std.specs.List.{All}
use Rattle.nsi_primitive.specs.Printable.{IsPrintableEntry}
use Rattle.nsi_primitive.specs.declared.entry.Entry.{Entry}
use Rattle.nsi_primitive.specs.declared.entry.Input.{Input}
use Rattle.nsi_world.specs.Worlds.{Homes, World, IsSent, IsTo}

-- what came was sent, and to him
abbrev pub WasSent : Homes → World → ℕ → Input → Type 0
WasSent homes w a (Input.Got m) = IsSent homes w m × IsTo homes a m
WasSent homes w a _ = Unit {0}

pub record IsHeard (homes : Homes) (w : World) (a : ℕ) (e : Entry) : Type 0 where
  pub printable : IsPrintableEntry e
  pub sent : WasSent homes w a e.input

-- no more is synced than there is, and what was heard was sent
pub record IsFair (homes : Homes) (w : World) : Type 0 where
  pub within : (a : ℕ) → w.synced a ≤ length (w.journal a)
  pub heard : (a : ℕ) → All (IsHeard homes w a) (w.journal a)

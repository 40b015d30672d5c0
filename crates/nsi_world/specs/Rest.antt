-- Agents that have nothing to do.
use Rattle.std.specs.Prelude.{◌≡◌, ℕ, None, length}
use Rattle.nsi_agent.specs.Steps.{work_of}
use Rattle.nsi_agent.specs.Told.{told}
use Rattle.nsi_world.specs.Worlds.{Homes, World}

-- its journal is synced whole, and no work waits
pub record IsAtRest (homes : Homes) (w : World) (a : ℕ) : Type 0 where
  pub synced : w.synced a ≡ length (w.journal a)
  pub idle : work_of (homes a).role (told (homes a) (w.journal a)).state ≡ None

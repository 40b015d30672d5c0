-- What a shelf holds of a run: the journals of its agents.
use Rattle.std.specs.Prelude.{ℕ, ◌≡◌, ◌<◌, ◌⊎◌, true, List, length, Option, Some, Ok, is_some}
use Rattle.nsi_primitive.specs.declared.entry.Event.{Event}
use Rattle.journal_entry.specs.Journals.{recovers}
use Rattle.journal_entry.specs.Payloads.{batch_of}
use Rattle.stp_topology.specs.declared.network.Network.{Network}
use Rattle.stp_topology.specs.Network.{name_of}
use Rattle.nsi_script.specs.declared.script.Group.{Group}
use Rattle.nsi_play.specs.Play.{RestartNobody}
use Rattle.nsi_world.specs.Worlds.{empty}
use Rattle.nsi_world.specs.Runs.{world_after}

-- the shelf tells what it holds under the name of each agent
abbrev pub AreTold : Network → (List ℕ → Option (List ℕ)) → Type 0
AreTold t holds = (a : ℕ) → a < length t.agents → is_some (holds (name_of t a)) ≡ true

-- the shelf tells what it holds, or the script restarts nobody
abbrev pub IsShown : Network → List Group → (List ℕ → Option (List ℕ)) → Type 0
IsShown t script holds = AreTold t holds ⊎ RestartNobody script

-- what is held under the name of each agent reads as its journal in the world that these events make
abbrev pub HoldsOf : Network → (List ℕ → Option (List ℕ)) → List Event → Type 0
HoldsOf t holds events =
    (a : ℕ) → a < length t.agents → (file : List ℕ) × (holds (name_of t a) ≡ Some file) × (recovers batch_of file ≡ Ok ((world_after empty events).journal a))

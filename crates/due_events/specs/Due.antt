-- Events that are due: nothing is taken twice, and nothing is done without cause.
use Rattle.std.specs.Prelude.{◌≡◌, ◌<◌, ℕ, true, List, [], ◌∷◌, Some, length}
use Rattle.nsi_primitive.specs.declared.entry.Event.{Event}
use Rattle.nsi_primitive.specs.declared.entry.Happening.{Happening}
use Rattle.nsi_primitive.specs.declared.entry.Input.{Input}
use Rattle.agent_state.specs.State.{AgentState}
use Rattle.nsi_agent.specs.Homes.{Home}
use Rattle.nsi_agent.specs.Steps.{is_new, waits, work_of}
use Rattle.nsi_agent.specs.Told.{told}
use Rattle.nsi_world.specs.Worlds.{Homes, World}
use Rattle.nsi_world.specs.Runs.{happens}

-- What an agent has cause to take as it stands: a message that is new to it, the acknowledgement of one that waits, and the work that waits
-- first. A tick, an ask and a forced end come of themselves.
abbrev pub IsDueInput : Home → AgentState → Input → Type 0
IsDueInput h s (Input.Got m) = is_new h s m ≡ true
IsDueInput h s (Input.Acked i) = waits i s ≡ true
IsDueInput h s (Input.Work n machine) = work_of h.role s ≡ Some (n, machine)
IsDueInput h s _ = Unit {0}

-- an entry that is due as the agent's journal makes it; a sync where something isn't synced; a restart always
abbrev pub IsDueAt : Homes → World → ℕ → Happening → Type 0
IsDueAt homes w a (Happening.Entry e answer) = IsDueInput (homes a) (told (homes a) (w.journal a)).state e.input
IsDueAt homes w a (Happening.Sync count) = w.synced a < length (w.journal a)
IsDueAt homes w a (Happening.Restart count) = Unit {0}

abbrev pub IsDue : Homes → World → Event → Type 0
IsDue homes w e = IsDueAt homes w e.agent e.what

-- each is due in the world that the earlier ones make
unfoldable pub AreDue : Homes → World → List Event → Type 0
AreDue homes w [] = Unit {0}
AreDue homes w (e ∷ es) = IsDue homes w e × AreDue homes (happens w e) es

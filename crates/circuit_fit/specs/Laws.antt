-- The laws of an aggregator's own records and its children.
use Rattle.std.specs.Prelude.{◌≡◌, ◌++◌, List, length}
use Rattle.nsi_primitive.specs.declared.entry.Entry.{Entry}
use Rattle.nsi_primitive.specs.declared.entry.Input.{Input}
use Rattle.nsi_primitive.specs.declared.message.Message.{Message}
use Rattle.agent_state.specs.State.{AgentState}
use Rattle.aggregator_agent.specs.Setting.{Setting}
use Rattle.aggregator_agent.specs.Steps.{after}
use Rattle.circuit_fit.specs.Fits.{AllFit, AllHonest, AllEnd}

-- whatever an aggregator takes, where all that comes is honest, each of its connections still fits its children
abbrev pub EntriesKeepTheFit : Type 0
EntriesKeepTheFit =
    (setting : Setting) (asked : List Message) (s : AgentState) (e : Entry) → length s.children ≡ length s.base.records →
    ((m : Message) → e.input ≡ Input.Got m → AllHonest setting.agent.name asked s m) → AllFit setting.agent.name asked s →
    AllFit setting.agent.name (asked ++ (after setting s e).out) (after setting s e).state

-- and children are asked to terminate for connections alone that don't live
abbrev pub EntriesKeepTheEnded : Type 0
EntriesKeepTheEnded =
    (setting : Setting) (asked : List Message) (s : AgentState) (e : Entry) → length s.children ≡ length s.base.records →
    ((m : Message) → e.input ≡ Input.Got m → AllHonest setting.agent.name asked s m) → AllEnd asked s →
    AllEnd (asked ++ (after setting s e).out) (after setting s e).state

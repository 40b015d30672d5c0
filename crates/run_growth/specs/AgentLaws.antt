-- What every agent keeps, whatever it takes.
use Rattle.std.specs.Prelude.{◌++◌, List}
use Rattle.std.specs.List.{All}
use Rattle.nsi_primitive.specs.Printable.{IsPrintableEntry}
use Rattle.nsi_primitive.specs.declared.entry.Entry.{Entry}
use Rattle.agent_state.specs.State.{AgentState}
use Rattle.provider_agent.specs.Safety.{IsRising}
use Rattle.nsi_agent.specs.Homes.{Home}
use Rattle.nsi_agent.specs.Steps.{after}
use Rattle.nsi_agent.specs.Told.{told}
use Rattle.nsi_agent.specs.Laws.{IsGood}
use Rattle.run_growth.specs.Growth.{HasGrown}

-- an entry takes away nothing that an agent has, nor anything that was committed: of an agent of any kind, in any state
abbrev pub EntriesGrow : Type 0
EntriesGrow = (h : Home) (s : AgentState) (e : Entry) → HasGrown s (after h s e).state

-- so what some entries make of an agent is there still, whatever it takes behind them
abbrev pub EntriesLeaveAll : Type 0
EntriesLeaveAll = (h : Home) (es fs : List Entry) → HasGrown (told h es).state (told h (es ++ fs)).state

-- what is true of every agent of its kind is true of it after any entries that can be written
abbrev pub IsAlwaysGood : Type 0
IsAlwaysGood = (h : Home) (es : List Entry) → All IsPrintableEntry es → IsGood h.role (told h es).state

-- and the committed versions of each of its records rise
abbrev pub RecordsRise : Type 0
RecordsRise = (h : Home) (es : List Entry) → All IsPrintableEntry es → IsRising (told h es).state.base

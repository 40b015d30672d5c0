-- The laws of a requester.
use Rattle.std.specs.Prelude.{◌≡◌, true}
use Rattle.std.specs.List.{All}
use Rattle.nsi_primitive.specs.Printable.{IsPrintable, IsPrintableInput}
use Rattle.nsi_primitive.specs.declared.entry.Entry.{Entry}
use Rattle.agent_state.specs.State.{AgentState, blank_agent}
use Rattle.requester_agent.specs.Setting.{Setting}
use Rattle.requester_agent.specs.Steps.{may_take, after}
use Rattle.requester_agent.specs.Good.{IsGood}

-- what is true of each requester is true of one that has taken nothing, and stays true
abbrev pub BlankIsGood : Type 0
BlankIsGood = IsGood blank_agent

abbrev pub EntriesKeepGood : Type 0
EntriesKeepGood = (set : Setting) (s : AgentState) (e : Entry) → may_take s e ≡ true → IsPrintableInput e.input → IsGood s → IsGood (after set s e).state

-- what an entry causes can be written
abbrev pub CausedIsPrintable : Type 0
CausedIsPrintable = (set : Setting) (s : AgentState) (e : Entry) → may_take s e ≡ true → IsPrintableInput e.input → IsGood s → All IsPrintable (after set s e).out

-- What a call of a requester's core makes of it.
use Rattle.std.specs.Prelude.{◌≡◌, ◌≤◌, ◌++◌, Option, Result, OnOk, OnErr, IfOk}
use Rattle.std.specs.List.{All}
use Rattle.std.specs.Global.{Vec}
use Rattle.std.specs.declared.alloc.AllocError.{AllocError}
use Rattle.nsi_primitive.specs.declared.ask.AskAnswer.{AskAnswer}
use Rattle.nsi_primitive.specs.declared.message.Message.{Message}
use Rattle.agent_state.specs.State.{AgentState, AgentStepped, counts_agent}
use Rattle.requester_agent.specs.declared.requester_core.Core.{Core}
use Rattle.requester_agent.specs.Setting.{Setting}
use Rattle.requester_agent.specs.State.{Standing}
use Rattle.requester_agent.specs.Good.{IsApart}
use Rattle.requester_agent.specs.Core.{standing_at}

-- what is caused waits
abbrev pub waits_more : AgentStepped → AgentState
waits_more x = record x.state { base = record x.state.base { waiting = x.state.base.waiting ++ x.out } }

-- the state, the messages and the answer are those that the definition makes; where memory is wanting, the state is what it was
pub record IsStepOf (old new : Standing) (result : Result (Option AskAnswer × Vec Message) AllocError) (makes : Setting → AgentState → AgentStepped) : Type 0 where
  pub state : OnOk result (new.state ≡ waits_more (makes old.setting old.state))
  pub answer : IfOk result (λ r. r.0 ≡ (makes old.setting old.state).answer)
  pub out : IfOk result (λ r. r.1.items ≡ (makes old.setting old.state).out)
  pub setting : new.setting ≡ old.setting
  pub err : OnErr result (new.state ≡ old.state)

abbrev pub IsStep : Core → Core → Result (Option AskAnswer × Vec Message) AllocError → (Setting → AgentState → AgentStepped) → Type 0
IsStep old new result makes = IsStepOf (standing_at old) (standing_at new) result makes

-- besides, the entry is counted
pub record IsTakenOf (old new : Standing) (result : Result (Option AskAnswer × Vec Message) AllocError) (makes : Setting → AgentState → AgentStepped) : Type 0 where
  pub state : OnOk result (new.state ≡ (counts_agent (makes old.setting old.state)).state)
  pub answer : IfOk result (λ r. r.0 ≡ (makes old.setting old.state).answer)
  pub out : IfOk result (λ r. r.1.items ≡ (makes old.setting old.state).out)
  pub setting : new.setting ≡ old.setting
  pub err : OnErr result (new.state ≡ old.state)

abbrev pub IsTakenAs : Core → Core → Result (Option AskAnswer × Vec Message) AllocError → (Setting → AgentState → AgentStepped) → Type 0
IsTakenAs old new result makes = IsTakenOf (standing_at old) (standing_at new) result makes

-- its views can be asked, and there is a next id
pub record IsAskable (d : Core) : Type 0 where
  pub drawn : d.next ≤ 4194305
  pub apart : All IsApart d.views

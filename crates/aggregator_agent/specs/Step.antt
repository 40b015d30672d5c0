-- What a call of an aggregator's core makes of it.
use Rattle.std.specs.Prelude.{◌≡◌, ◌++◌, ℕ, Bool, true, false, List, Result, OnOk, OnErr, IfOk}
use Rattle.std.specs.Global.{Vec}
use Rattle.std.specs.declared.alloc.AllocError.{AllocError}
use Rattle.nsi_primitive.specs.Messages.{is_query}
use Rattle.nsi_primitive.specs.declared.message.Message.{Message}
use Rattle.stp_topology.specs.declared.network.Network.{Network}
use Rattle.agent_state.specs.declared.parent.Due.{Due}
use Rattle.agent_state.specs.declared.parent.Leg.{Leg}
use Rattle.agent_state.specs.State.{AgentState, AgentStepped, counts_agent}
use Rattle.aggregator_agent.specs.declared.aggregator_core.Core.{Core}
use Rattle.aggregator_agent.specs.declared.outbox.Outbox.{Outbox}
use Rattle.aggregator_agent.specs.declared.said.Said.{Said}
use Rattle.aggregator_agent.specs.Setting.{Setting, IsRoute, setting_of}
use Rattle.aggregator_agent.specs.Steps.{serves, hears}
use Rattle.aggregator_agent.specs.Core.{state_at}

-- what is said waits for its acknowledgement
abbrev pub stored : AgentStepped → AgentState
stored x = record x.state { base = record x.state.base { waiting = x.state.base.waiting ++ x.out } }

-- the state and the messages are those that the definition makes, and these wait
pub record IsMade (new : AgentState) (out : List Message) (x : AgentStepped) : Type 0 where
  pub state : new ≡ stored x
  pub said : out ≡ x.out

abbrev pub Answer : Type 0
Answer = Result (Vec Message) AllocError

-- it is what the definition makes by every route; where memory is wanting, the state is what it was
pub record IsStep (old new : Core) (result : Answer) (makes : Setting → AgentState → AgentStepped) : Type 0 where
  pub all : (t : Network) (route : ℕ → ℕ → List Leg) → IfOk result (λ out. IsMade (state_at new) out.items (makes (setting_of t old.agent route) (state_at old)))
  pub agent : new.agent ≡ old.agent
  pub err : OnErr result (state_at new ≡ state_at old)

-- it is what the definition makes by each route of the topology, and so by some route
pub record IsStepBy (t : Network) (old new : Core) (result : Answer) (makes : Setting → AgentState → AgentStepped) : Type 0 where
  pub by : (route : ℕ → ℕ → List Leg) → IsRoute t old.agent.number route → IfOk result (λ out. IsMade (state_at new) out.items (makes (setting_of t old.agent route) (state_at old)))
  pub some : IfOk result (λ out. (route : ℕ → ℕ → List Leg) × IsMade (state_at new) out.items (makes (setting_of t old.agent route) (state_at old)))
  pub agent : new.agent ≡ old.agent
  pub err : OnErr result (state_at new ≡ state_at old)

-- besides, the entry is counted
pub record IsCounted (new : AgentState) (out : List Message) (x : AgentStepped) : Type 0 where
  pub state : new ≡ (counts_agent x).state
  pub said : out ≡ x.out

pub record IsTakenBy (t : Network) (old new : Core) (result : Answer) (makes : Setting → AgentState → AgentStepped) : Type 0 where
  pub by : (route : ℕ → ℕ → List Leg) → IsRoute t old.agent.number route → IfOk result (λ out. IsCounted (state_at new) out.items (makes (setting_of t old.agent route) (state_at old)))
  pub some : IfOk result (λ out. (route : ℕ → ℕ → List Leg) × IsCounted (state_at new) out.items (makes (setting_of t old.agent route) (state_at old)))
  pub agent : new.agent ≡ old.agent
  pub err : OnErr result (state_at new ≡ state_at old)

-- a message that was counted just now
abbrev pub takes_new : (is_request : Bool) → Setting → AgentState → Message → AgentStepped
takes_new true setting s m = serves (is_query m.body) setting s m
takes_new false setting s m = hears setting s m

---- What is kept of what was said

pub record IsStored {X : Type 0} (old new : Outbox) (said : Said) (result : Result X AllocError) : Type 0 where
  pub waits : OnOk result (new.retry ≡ record old.retry { waiting = old.retry.waiting ++ said.out.items })
  pub dues : OnOk result (new.dues ≡ old.dues ++ said.dues.items)
  pub unsaid : OnErr result (new.retry ≡ old.retry)
  pub undue : OnErr result (new.dues ≡ old.dues)

-- connections are done, and what they say is kept
pub record IsEntered {B : Type 0} (new : B) (o p : Outbox) (x : Said) (b : B) (said : List Message) (due : List Due) (n : ℕ) : Type 0 where
  pub bonds : new ≡ b
  pub out : x.out.items ≡ said
  pub next : x.next ≡ n
  pub waits : p.retry ≡ record o.retry { waiting = o.retry.waiting ++ said }
  pub dues : p.dues ≡ o.dues ++ due

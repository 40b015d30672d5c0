-- What an agent of each kind keeps, and how it stands in the topology.
use Rattle.std.specs.Prelude.{◌≡◌, ◌≤◌, ◌<◌, ℕ, Bool, List, [], length, Option, Result, OnOk, IfOk}
use Rattle.std.specs.List.{All}
use Rattle.std.specs.Global.{Vec}
use Rattle.std.specs.declared.alloc.AllocError.{AllocError}
use Rattle.nsi_primitive.specs.Printable.{IsPrintable}
use Rattle.nsi_primitive.specs.declared.ask.AskAnswer.{AskAnswer}
use Rattle.nsi_primitive.specs.declared.entry.Entry.{Entry}
use Rattle.nsi_primitive.specs.declared.message.Message.{Message}
use Rattle.stp_topology.specs.declared.network.Network.{Network}
use Rattle.stp_topology.specs.Sound.{IsProvider, IsAggregator}
use Rattle.agent_state.specs.declared.parent.Leg.{Leg}
use Rattle.agent_state.specs.State.{State, AgentState, AgentStepped}
use Rattle.agent_state.specs.Entries.{most_entries}
use Rattle.provider_agent.specs.State.{Standing as ProviderStanding}
use Rattle.provider_agent.specs.Setting.{setting_of as provider_of, own_stp}
use Rattle.aggregator_agent.specs.Setting.{Standing as AggregatorStanding, agent_in, setting_of as aggregator_of}
use Rattle.requester_agent.specs.State.{Standing as RequesterStanding}
use Rattle.requester_agent.specs.Setting.{IsRequester, setting_of as requester_of}
use Rattle.provider_agent.specs.Steps.{may_take as provider_may}
use Rattle.aggregator_agent.specs.Steps.{may_take as aggregator_may}
use Rattle.requester_agent.specs.Steps.{may_take as requester_may}
use Rattle.nsi_agent.specs.declared.kind.Kind.{Kind}
use Rattle.nsi_agent.specs.Homes.{Role, provides, aggregates, requests}
use Rattle.nsi_agent.specs.Steps.{after_as}

-- a provider is no parent
abbrev pub alone : State → AgentState
alone s = record { base = s; children = []; dues = []; queries = []; views = [] }

abbrev pub state_in : Kind → AgentState
state_in (Kind.Provider p) = alone p.state
state_in (Kind.Aggregator a) = a.state
state_in (Kind.Requester r) = r.state

-- the same agent in a state
abbrev pub with_state : Kind → AgentState → Kind
with_state (Kind.Provider p) s = Kind.Provider (record p { state = s.base })
with_state (Kind.Aggregator a) s = Kind.Aggregator (record a { state = s })
with_state (Kind.Requester r) s = Kind.Requester (record r { state = s })

-- the number of an agent, as itself knows it
abbrev pub number_in : Kind → ℕ
number_in (Kind.Provider p) = p.setting.number
number_in (Kind.Aggregator a) = a.agent.number
number_in (Kind.Requester r) = r.setting.number

-- its role, as itself knows it, by the legs of the ways between points
abbrev pub role_by : Network → (ℕ → ℕ → List Leg) → Kind → Role
role_by t route (Kind.Provider p) = provides p.setting (own_stp t p.setting.number)
role_by t route (Kind.Aggregator a) = aggregates (aggregator_of t a.agent route)
role_by t route (Kind.Requester r) = requests r.setting

-- whether it takes the entry
abbrev pub may_take_by : Kind → Entry → Bool
may_take_by (Kind.Provider p) e = provider_may p.state e
may_take_by (Kind.Aggregator a) e = aggregator_may a.state e
may_take_by (Kind.Requester r) e = requester_may r.state e

---- In the topology

pub record IsProviderAt (t : Network) (a : ℕ) (p : ProviderStanding) : Type 0 where
  pub kind : IsProvider t a
  pub setting : p.setting ≡ provider_of t a

pub record IsAggregatorAt (t : Network) (a : ℕ) (x : AggregatorStanding) : Type 0 where
  pub kind : IsAggregator t a
  pub agent : x.agent ≡ agent_in t a

pub record IsRequesterAt (t : Network) (a : ℕ) (r : RequesterStanding) : Type 0 where
  pub kind : IsRequester t a
  pub setting : r.setting ≡ requester_of t a

-- it is the agent of that number
abbrev pub IsAt : Network → ℕ → Kind → Type 0
IsAt t a (Kind.Provider p) = IsProviderAt t a p
IsAt t a (Kind.Aggregator x) = IsAggregatorAt t a x
IsAt t a (Kind.Requester r) = IsRequesterAt t a r

-- what is true of the state of an agent of any kind: it has taken no more entries than an agent takes, and what waits can be written
pub record IsFit (s : AgentState) : Type 0 where
  pub most : s.base.taken ≤ most_entries
  pub printable : All IsPrintable s.base.waiting

-- the number is one of the topology, and the agent is that one
pub record IsAgent (t : Network) (a : ℕ) (k : Kind) : Type 0 where
  pub within : a < length t.agents
  pub is_at : IsAt t a k
  pub fit : IsFit (state_in k)

---- An entry

abbrev pub Answer : Type 0
Answer = Result (Option AskAnswer × Vec Message) AllocError

-- the state, the answer and the messages are those of a step
pub record IsStepped (old new : Kind) (result : Answer) (x : AgentStepped) : Type 0 where
  pub state : OnOk result (new ≡ with_state old x.state)
  pub answer : IfOk result (λ r. r.0 ≡ x.answer)
  pub out : IfOk result (λ r. r.1.items ≡ x.out)

-- they are those of the step by some ways
pub record IsSteppedBySome (t : Network) (old new : Kind) (result : Answer) (e : Entry) : Type 0 where
  pub route : ℕ → ℕ → List Leg
  pub stepped : IsStepped old new result (after_as (role_by t route old) (state_in old) e)

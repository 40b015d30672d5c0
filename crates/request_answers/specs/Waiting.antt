-- What an aggregator waits for, where it hasn't answered a request: an answer of a child.
use Rattle.std.specs.Prelude.{ℕ, ◌≡◌, Bool, true, false, List, Some, slice_get}
use Rattle.std.specs.List.{Contains, list_any}
use Rattle.nsi_primitive.specs.Messages.{kind_of}
use Rattle.nsi_primitive.specs.declared.kind.Kind.{Kind}
use Rattle.nsi_primitive.specs.declared.message.Message.{Message}
use Rattle.connection_record.specs.Applied.{is_terminating}
use Rattle.child_connection.specs.Views.{ChildConnection}
use Rattle.agent_state.specs.declared.parent.OpenQuery.{OpenQuery}
use Rattle.agent_state.specs.State.{AgentState, children_at}
use Rattle.aggregator_agent.specs.Below.{is_asked}
use Rattle.aggregator_agent.specs.Settling.{is_waiting, is_there}
use Rattle.request_answers.specs.Open.{IsWorkedOn}

-- A child's answer is missing: one to a request of the machine that the kind belongs to; or, where the connection ends, the child hasn't
-- confirmed that its connection has ended.
abbrev pub is_missing : (is_ending : Bool) → Kind → ChildConnection → Bool
is_missing false kind child = is_waiting kind child
is_missing true kind child = is_there child

-- a record works on the request, and waits for one of its children
pub record WaitsForChild (name : List ℕ) (s : AgentState) (request : Message) : Type 0 where
  pub work : IsWorkedOn name s.base.records request
  pub child : ChildConnection
  pub below : Contains (children_at work.place s.children) child
  pub missing : is_missing (is_terminating work.own.lsm) (kind_of request.body) child ≡ true

-- a query about all that is below waits for the part of a child that was asked
pub record WaitsForPart (queries : List OpenQuery) (request : Message) : Type 0 where
  pub place : ℕ
  pub query : OpenQuery
  pub there : slice_get queries place ≡ Some query
  pub header : query.header ≡ request.header
  pub kind : kind_of request.body ≡ Kind.QueryRecursive
  pub missing : list_any is_asked query.parts ≡ true

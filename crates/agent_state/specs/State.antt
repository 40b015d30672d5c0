-- What an agent keeps, and what an entry makes of it.
use Rattle.std.specs.Prelude.{ℕ, ◌+◌, List, [], ◌++◌, Option, None, get_or, unwrap_or}
use Rattle.nsi_primitive.specs.declared.ask.AskAnswer.{AskAnswer}
use Rattle.nsi_primitive.specs.declared.kind.Directionality.{Directionality}
use Rattle.nsi_primitive.specs.declared.message.Header.{Header}
use Rattle.nsi_primitive.specs.declared.message.Identity.{Identity}
use Rattle.nsi_primitive.specs.declared.message.Message.{Message}
use Rattle.connection_record.specs.declared.record.Record.{Record}
use Rattle.connection_record.specs.Moves.{fresh}
use Rattle.child_connection.specs.Views.{ChildConnection}
use Rattle.agent_state.specs.declared.parent.Due.{Due}
use Rattle.agent_state.specs.declared.parent.OpenQuery.{OpenQuery}
use Rattle.agent_state.specs.declared.parent.View.{View}

-- its records in order, the requests that it has taken, the identities of all else that it has taken, the messages that wait for
-- their acknowledgement, the number of the next id, the second of its clock, and how many entries it has taken
pub record State : Type 0 where
  pub records : List Record
  pub seen : List Header
  pub heard : List Identity
  pub waiting : List Message
  pub next : ℕ
  pub now : ℕ
  pub taken : ℕ

-- before any entry
abbrev pub blank : State
blank = record { records = []; seen = []; heard = []; waiting = []; next = 1; now = 0; taken = 0 }

-- the state after an entry, and the messages that it causes, in order
pub record Stepped : Type 0 where
  pub state : State
  pub out : List Message

abbrev pub unchanged : State → Stepped
unchanged s = record { state = s; out = [] }

abbrev pub says : State → List Message → Stepped
says s messages = record { state = s; out = messages }

-- an entry counts as taken, and its messages wait
abbrev pub counts_in : State → List Message → State
counts_in s messages = record s { taken = s.taken + 1; waiting = s.waiting ++ messages }

abbrev pub counts : Stepped → Stepped
counts x = record x { state = counts_in x.state x.out }

-- a record that is none
abbrev pub no_record : Record
no_record = fresh 0 [] (record { source = []; dest = []; directionality = Directionality.Bidirectional; symmetric = None; global = None; description = None }) 0 0

abbrev pub record_at : ℕ → List Record → Record
record_at n records = get_or records n no_record

abbrev pub name_or : Option (List ℕ) → List ℕ
name_or name = unwrap_or name []

---- Agents that are parents too

-- Beside that: at an aggregator the views of each record's children, its requests to them, and the queries that wait for their answers;
-- at a requester its views.
pub record AgentState : Type 0 where
  pub base : State
  pub children : List (List ChildConnection)
  pub dues : List Due
  pub queries : List OpenQuery
  pub views : List View

abbrev pub blank_agent : AgentState
blank_agent = record { base = blank; children = []; dues = []; queries = []; views = [] }

-- the state after an entry, the messages that it causes, and the answer to an ask
pub record AgentStepped : Type 0 where
  pub state : AgentState
  pub out : List Message
  pub answer : Option AskAnswer

abbrev pub stays : AgentState → AgentStepped
stays s = record { state = s; out = []; answer = None }

abbrev pub sends : AgentState → List Message → AgentStepped
sends s messages = record { state = s; out = messages; answer = None }

abbrev pub counts_agent : AgentStepped → AgentStepped
counts_agent x = record x { state = record x.state { base = counts_in x.state.base x.out } }

abbrev pub children_at : ℕ → List (List ChildConnection) → List ChildConnection
children_at n all = get_or all n []

-- A provider that one requester asks, and that requester.
use Rattle.std.specs.Prelude.{◌≡◌, ◌≤◌, ◌+◌, ℕ, true, List, [], ◌∷◌, length, slice_get, Option, Some, None}
use Rattle.nsi_primitive.specs.Ids.{id_of}
use Rattle.nsi_primitive.specs.Messages.{is_request, connection_of, named_connection}
use Rattle.nsi_primitive.specs.declared.message.Body.{Body}
use Rattle.nsi_primitive.specs.declared.message.Message.{Message}
use Rattle.message_retry.specs.Taken.{with_taken}
use Rattle.connection_record.specs.declared.record.Record.{Record}
use Rattle.agent_state.specs.State.{State, AgentState, AgentStepped}
use Rattle.provider_agent.specs.Working.{works_in, works_among}
use Rattle.requester_agent.specs.Setting.{Setting}

---- Whose records, and where work waits

-- each record is of that owner
abbrev pub AreOwnedBy : List ℕ → List Record → Type 0
AreOwnedBy name records = (n : ℕ) (r : Record) → slice_get records n ≡ Some r → r.owner ≡ name

abbrev pub or_that : Option ℕ → Option ℕ → Option ℕ
or_that None second = second
or_that (Some first) second = Some first

-- the first connection that messages name
unfoldable pub first_named : List Message → Option ℕ
first_named [] = None
first_named (m ∷ ms) = or_that (named_connection m.body) (first_named ms)

-- the connection of a request, or the first that its answers name
abbrev pub named_by : Body → List Message → Option ℕ
named_by body out = or_that (connection_of body) (first_named out)

-- work waits on that connection alone, and on none where none is named
abbrev pub WaitsAt : Option ℕ → List Record → Type 0
WaitsAt at records = (n : ℕ) (r : Record) → slice_get records n ≡ Some r → 1 ≤ works_in r → Some r.id ≡ at

---- One entry of a provider

-- so many messages at most are caused by a request or by work
abbrev pub most_said : ℕ
most_said = 4

-- a request that is new: it is seen then, it makes one work wait at most, and that only where it is named
pub record IsReceived (s : State) (m : Message) (u : State) (out : List Message) : Type 0 where
  pub few : length out ≤ most_said
  pub owners : (name : List ℕ) → m.header.requester ≡ name → AreOwnedBy name s.records → AreOwnedBy name u.records
  pub works : works_among u.records ≤ works_among s.records + 1
  pub only : works_among s.records ≡ 0 → WaitsAt (named_by m.body out) u.records
  pub seen : u.seen ≡ with_taken m.header s.seen
  pub now : u.now ≡ s.now

-- work that waits: it waits no more, and nothing else does
pub record IsWorked (s u : State) (out : List Message) : Type 0 where
  pub few : length out ≤ most_said
  pub owners : (name : List ℕ) → AreOwnedBy name s.records → AreOwnedBy name u.records
  pub works : works_among u.records + 1 ≡ works_among s.records
  pub seen : u.seen ≡ s.seen
  pub now : u.now ≡ s.now

---- One entry of a requester

-- a request of the requester under its next id
pub record IsOwnRequest (set : Setting) (next : ℕ) (m : Message) : Type 0 where
  pub requester : m.header.requester ≡ set.name
  pub correlation : m.header.correlation ≡ id_of set.number next
  pub request : is_request m.body ≡ true

unfoldable pub AreOwnRequests : Setting → ℕ → List Message → Type 0
AreOwnRequests set next [] = Unit {0}
AreOwnRequests set next (m ∷ ms) = IsOwnRequest set next m × AreOwnRequests set next ms

-- an ask: each request has an id of its own; so many entries are counted
pub record HasAskedAs (count : ℕ) (set : Setting) (s : AgentState) (x : AgentStepped) : Type 0 where
  pub own : AreOwnRequests set s.base.next x.out
  pub next : x.state.base.next ≡ s.base.next + length x.out
  pub now : x.state.base.now ≡ s.base.now
  pub taken : x.state.base.taken ≡ s.base.taken + count

-- a message: no id is drawn
pub record HasHeardAs (count : ℕ) (s : AgentState) (x : AgentStepped) : Type 0 where
  pub next : x.state.base.next ≡ s.base.next
  pub now : x.state.base.now ≡ s.base.now
  pub taken : x.state.base.taken ≡ s.base.taken + count

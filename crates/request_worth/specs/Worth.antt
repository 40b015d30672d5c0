-- What requests are worth, and which of them an agent has asked and taken.
use Rattle.std.specs.Prelude.{ℕ, ◌≡◌, ◌≢◌, ◌≤◌, ◌+◌, ◌&&◌, ◌++◌, Bool, true, List, [], ◌∷◌, Option, Some, None, is_none, map, sum_by, if◌then◌else◌}
use Rattle.std.specs.List.{All, Contains, filter}
use Rattle.nsi_primitive.specs.Messages.{is_request, connection_of}
use Rattle.nsi_primitive.specs.declared.ask.Ask.{Ask}
use Rattle.nsi_primitive.specs.declared.ask.ReserveAsk.{ReserveAsk}
use Rattle.nsi_primitive.specs.declared.ask.What.{What}
use Rattle.nsi_primitive.specs.declared.entry.Entry.{Entry}
use Rattle.nsi_primitive.specs.declared.entry.Input.{Input}
use Rattle.nsi_primitive.specs.declared.message.Body.{Body}
use Rattle.nsi_primitive.specs.declared.message.Header.{Header}
use Rattle.nsi_primitive.specs.declared.message.Message.{Message}
use Rattle.nsi_primitive.specs.declared.message.ReserveRequest.{ReserveRequest}
use Rattle.connection_record.specs.declared.record.Record.{Record}
use Rattle.connection_record.specs.Applied.{is_terminating}
use Rattle.child_connection.specs.Views.{ChildConnection}
use Rattle.agent_state.specs.declared.parent.Leg.{Leg}
use Rattle.agent_state.specs.declared.parent.View.{View}
use Rattle.agent_state.specs.State.{AgentState}
use Rattle.nsi_agent.specs.Homes.{Home}
use Rattle.nsi_agent.specs.Steps.{after, may_take_as, is_new}
use Rattle.nsi_agent.specs.Told.{told}

---- Requests

abbrev pub asks : Message → Bool
asks m = is_request m.body

-- the requests among messages
abbrev pub requests_of : List Message → List Message
requests_of ms = filter asks ms

-- what they are worth together
abbrev pub worth_of : (Message → ℕ) → List Message → ℕ
worth_of fee ms = sum_by fee (requests_of ms)

-- the request that an entry brings, where it is taken for the first time
abbrev pub new_request : (is_taken : Bool) → Home → AgentState → Input → List Message
new_request true h s (Input.Got m) = if is_request m.body && is_new h s m then m ∷ [] else []
new_request _ h s input = []

-- the requests that entries bring, from a state on, each where it is taken for the first time
unfoldable pub requests_from : Home → AgentState → List Entry → List Message
requests_from h s [] = []
requests_from h s (e ∷ es) = new_request (may_take_as h.role s e) h s e.input ++ requests_from h (after h s e).state es

-- one of the entries brings that message, and it asks for something
pub record WasBrought (es : List Entry) (m : Message) : Type 0 where
  pub entry : Entry
  pub there : Contains es entry
  pub got : entry.input ≡ Input.Got m
  pub asks : is_request m.body ≡ true

-- no two messages have one header
abbrev pub HaveOwnHeaders : List Message → Type 0
HaveOwnHeaders [] = Unit {0}
HaveOwnHeaders (m ∷ ms) = All (λ n. n.header ≢ m.header) ms × HaveOwnHeaders ms

abbrev pub headers_of : List Message → List Header
headers_of ms = map (λ (m : Message). m.header) ms

---- What a request is worth

-- the leg of a parent's view
abbrev pub leg_in : ChildConnection → Leg
leg_in x = record { child = x.child; source = x.source; dest = x.dest }

-- the leg to an agent, between the points of one of its records
abbrev pub leg_to : List ℕ → Record → Leg
leg_to name r = record { child = name; source = r.service.source; dest = r.service.dest }

-- a message is a first reserve along a leg
pub record IsFirst (m : Message) (leg : Leg) : Type 0 where
  pub reserve : ReserveRequest
  pub body : m.body ≡ Body.Reserve reserve
  pub unnamed : reserve.connection ≡ None
  pub child : m.header.provider ≡ leg.child
  pub from : reserve.source ≡ Some leg.source
  pub to : reserve.dest ≡ Some leg.dest

-- a message is a request of the one agent to the other about a connection
pub record IsAbout (requester provider : List ℕ) (id : ℕ) (m : Message) : Type 0 where
  pub asked_by : m.header.requester ≡ requester
  pub asked_of : m.header.provider ≡ provider
  pub names : connection_of m.body ≡ Some id

-- where it is known what each leg is worth: each request is worth something, and a first reserve as much as its leg
pub record IsFee (price : Leg → ℕ) (fee : Message → ℕ) : Type 0 where
  pub something : (m : Message) → 1 ≤ fee m
  pub first : (m : Message) (leg : Leg) → IsFirst m leg → fee m ≡ price leg

-- a request of the parent about the connection of a view is worth no more than the view's leg
abbrev pub CostsItsLeg : (Leg → ℕ) → (Message → ℕ) → (parent : List ℕ) → ChildConnection → Type 0
CostsItsLeg price fee parent x = (id : ℕ) (m : Message) → x.connection ≡ Some id → IsAbout parent x.child id m → fee m ≤ price (leg_in x)

-- a request of its owner about a record is worth no less than the leg between the record's points
abbrev pub PaysItsLeg : (Leg → ℕ) → (Message → ℕ) → (name : List ℕ) → Record → Type 0
PaysItsLeg price fee name r = (m : Message) → IsAbout r.owner name r.id m → price (leg_to name r) ≤ fee m

---- The states of an agent

-- something is true in each state that entries make, one after another
abbrev pub InEachState : Home → List Entry → (AgentState → Type 0) → Type 0
InEachState h es Holds = (earlier later : List Entry) → es ≡ earlier ++ later → Holds (told h earlier).state

-- of an aggregator: what it asks about the connections of its views, and what it is asked about its records
pub record AreFees (price : Leg → ℕ) (fee : Message → ℕ) (name : List ℕ) (s : AgentState) : Type 0 where
  pub children : All (All (CostsItsLeg price fee name)) s.children
  pub records : All (PaysItsLeg price fee name) s.base.records

-- what the legs are worth whose connection isn't known yet: a connection that ends asks these children to end once it knows them
abbrev pub unknown_worth : (Leg → ℕ) → ChildConnection → ℕ
unknown_worth price x = if is_none x.connection then price (leg_in x) else 0

abbrev pub owed_end : (Leg → ℕ) → Record → List ChildConnection → ℕ
owed_end price r xs = if is_terminating r.lsm then sum_by (unknown_worth price) xs else 0

-- the same of all connections
unfoldable pub owed_ends : (Leg → ℕ) → List Record → List (List ChildConnection) → ℕ
owed_ends price (r ∷ rs) (xs ∷ xss) = owed_end price r xs + owed_ends price rs xss
owed_ends price rs xss = 0

---- A requester

-- what an entry asks is worth, by the label of the ask
abbrev pub ask_worth : (Option (List ℕ) → ℕ) → Input → ℕ
ask_worth worth (Input.Ask number ask) = worth ask.label
ask_worth worth input = 0

abbrev pub entry_worth : (Option (List ℕ) → ℕ) → Entry → ℕ
entry_worth worth e = ask_worth worth e.input

-- what all asks are worth together
abbrev pub asks_worth : (Option (List ℕ) → ℕ) → List Entry → ℕ
asks_worth worth es = sum_by (entry_worth worth) es

-- the leg of a label's view is worth no more than an ask of the label, and neither is what is asked about its connection
pub record IsWithinLabel (price : Leg → ℕ) (fee : Message → ℕ) (name : List ℕ) (worth : Option (List ℕ) → ℕ) (v : View) : Type 0 where
  pub leg : price (leg_in v.child) ≤ worth (Some v.label)
  pub about : CostsItsLeg price fee name v.child

-- one of the entries asks for a reserve under that label, whose leg to the agent that the requester asks is this one
pub record WasReserved (provider : List ℕ) (es : List Entry) (label : List ℕ) (leg : Leg) : Type 0 where
  pub entry : Entry
  pub there : Contains es entry
  pub number : ℕ
  pub ask : Ask
  pub reserve : ReserveAsk
  pub asked : entry.input ≡ Input.Ask number ask
  pub under : ask.label ≡ Some label
  pub what : ask.what ≡ What.Reserve reserve
  pub child : leg.child ≡ provider
  pub from : leg.source ≡ reserve.source
  pub to : leg.dest ≡ reserve.dest

-- of a view
abbrev pub ViewWasReserved : (provider : List ℕ) → List Entry → View → Type 0
ViewWasReserved provider es v = WasReserved provider es v.label (leg_in v.child)

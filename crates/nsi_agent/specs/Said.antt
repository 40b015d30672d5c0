-- What agents have asked and said.
use Rattle.std.specs.Prelude.{◌≡◌, ℕ, Bool, true, false, List}
use Rattle.std.specs.List.{Contains}
use Rattle.nsi_primitive.specs.Messages.{identity, addressee, is_request}
use Rattle.nsi_primitive.specs.declared.entry.Entry.{Entry}
use Rattle.nsi_primitive.specs.declared.entry.Input.{Input}
use Rattle.nsi_primitive.specs.declared.message.Message.{Message}
use Rattle.agent_state.specs.declared.parent.Leg.{Leg}
use Rattle.nsi_agent.specs.Homes.{Role, provides, aggregates, requests}

-- the name under which an agent speaks, and the number with which it draws ids
abbrev pub name_in : Role → List ℕ
name_in (provides setting stp_of) = setting.name
name_in (aggregates setting) = setting.agent.name
name_in (requests setting) = setting.name

abbrev pub drawer_of : Role → ℕ
drawer_of (provides setting stp_of) = setting.number
drawer_of (aggregates setting) = setting.agent.number
drawer_of (requests setting) = setting.number

-- one of the entries takes a request of that requester
abbrev pub AsksFor : List ℕ → Input → Type 0
AsksFor name (Input.Got m) = (is_request m.body ≡ true) × (m.header.requester ≡ name)
AsksFor name _ = ⊥

abbrev pub HasAsked : List Entry → List ℕ → Type 0
HasAsked es name = (e : Entry) × Contains es e × AsksFor name e.input

-- an agent sends requests to that one: a requester to its provider, and an aggregator to the children on its ways
abbrev pub Asks : Role → List ℕ → Type 0
Asks (provides setting stp_of) name = ⊥
Asks (aggregates setting) name = (source : ℕ) × (dest : ℕ) × (leg : Leg) × Contains (setting.route source dest) leg × (leg.child ≡ name)
Asks (requests setting) name = setting.provider ≡ name

-- a request goes in its own name to one whom it asks, all else in its own name to one of whom it has got a request
abbrev pub IsSaidAs : (asks : Bool) → List ℕ → (List ℕ → Type 0) → (List ℕ → Type 0) → Message → Type 0
IsSaidAs true name to owed m = (m.header.requester ≡ name) × to m.header.provider
IsSaidAs false name to owed m = (m.header.provider ≡ name) × owed m.header.requester

abbrev pub IsSaid : List ℕ → (List ℕ → Type 0) → (List ℕ → Type 0) → Message → Type 0
IsSaid name to owed m = IsSaidAs (is_request m.body) name to owed m

-- a message that comes is for this agent
abbrev pub IsFor : List ℕ → Input → Type 0
IsFor name (Input.Got m) = addressee (identity m) ≡ name
IsFor name _ = Unit {0}

abbrev pub IsForIn : List ℕ → Entry → Type 0
IsForIn name e = IsFor name e.input

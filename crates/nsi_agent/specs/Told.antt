-- Entries of an agent, one after another.
use Rattle.std.specs.Prelude.{◌≡◌, ◌++◌, Bool, true, false, List, [], ◌∷◌}
use Rattle.std.specs.List.{Contains}
use Rattle.nsi_primitive.specs.Messages.{identity, is_request}
use Rattle.nsi_primitive.specs.declared.entry.Entry.{Entry}
use Rattle.nsi_primitive.specs.declared.entry.Input.{Input}
use Rattle.nsi_primitive.specs.declared.message.Message.{Message}
use Rattle.agent_state.specs.State.{AgentState, blank_agent}
use Rattle.nsi_agent.specs.Homes.{Home}
use Rattle.nsi_agent.specs.Steps.{after}

-- the state after entries, and all messages that they cause, in order
pub record Told : Type 0 where
  pub state : AgentState
  pub out : List Message

-- messages that came before
abbrev pub behind : List Message → Told → Told
behind ms x = record { state = x.state; out = ms ++ x.out }

-- entries from a state on
unfoldable pub goes_on : Home → AgentState → List Entry → Told
goes_on h s [] = record { state = s; out = [] }
goes_on h s (e ∷ es) = behind (after h s e).out (goes_on h (after h s e).state es)

-- entries of an agent that has taken nothing before
abbrev pub told : Home → List Entry → Told
told h es = goes_on h blank_agent es

---- What came

-- one message to the agent that takes both: of a request the kind doesn't count
abbrev pub IsSameTo : (asks : Bool) → Message → Message → Type 0
IsSameTo true m n = (is_request n.body ≡ true) × (n.header ≡ m.header)
IsSameTo false m n = identity n ≡ identity m

abbrev pub IsSame : Message → Message → Type 0
IsSame m n = IsSameTo (is_request m.body) m n

-- the entry takes that message
abbrev pub Gets : Message → Input → Type 0
Gets m (Input.Got n) = IsSame m n
Gets m _ = ⊥

-- one of the entries takes that message
abbrev pub WasGot : Message → List Entry → Type 0
WasGot m es = (e : Entry) × Contains es e × Gets m e.input

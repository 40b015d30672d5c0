-- The requests that an agent has taken.
use Rattle.std.specs.Prelude.{◌≡◌, true, List, ◌∷◌, ◌++◌}
use Rattle.nsi_primitive.specs.Messages.{is_request}
use Rattle.nsi_primitive.specs.declared.entry.Entry.{Entry}
use Rattle.nsi_primitive.specs.declared.entry.Input.{Input}
use Rattle.nsi_primitive.specs.declared.message.Message.{Message}
use Rattle.agent_state.specs.State.{AgentState}
use Rattle.nsi_agent.specs.Homes.{Home}
use Rattle.nsi_agent.specs.Steps.{may_take_as, is_new}
use Rattle.nsi_agent.specs.Told.{told}

-- the entry brings a request, which the agent may take, and which is new to it
pub record Takes (h : Home) (s : AgentState) (e : Entry) (request : Message) : Type 0 where
  pub got : e.input ≡ Input.Got request
  pub asks : is_request request.body ≡ true
  pub may : may_take_as h.role s e ≡ true
  pub new : is_new h s request ≡ true

-- one of the entries takes it, behind those before
pub record HasTaken (h : Home) (es : List Entry) (request : Message) : Type 0 where
  pub earlier : List Entry
  pub entry : Entry
  pub later : List Entry
  pub parts : es ≡ earlier ++ entry ∷ later
  pub takes : Takes h (told h earlier).state entry request

-- An entry that is taken, whichever ways there are.
use Rattle.std.specs.Prelude.{◌≡◌, ℕ, List}
use Rattle.nsi_primitive.specs.declared.entry.Entry.{Entry}
use Rattle.nsi_primitive.specs.declared.message.Message.{Message}
use Rattle.stp_topology.specs.declared.network.Network.{Network}
use Rattle.agent_state.specs.declared.parent.Leg.{Leg}
use Rattle.agent_state.specs.State.{AgentStepped}
use Rattle.aggregator_agent.specs.Setting.{Standing, setting_of}
use Rattle.aggregator_agent.specs.Steps.{after}

abbrev pub after_by : Network → (ℕ → ℕ → List Leg) → Standing → Entry → AgentStepped
after_by t route a e = after (setting_of t a.agent route) a.state e

-- it is what the definition makes by some legs between any two points
pub record IsStepBySome (t : Network) (old new : Standing) (out : List Message) (e : Entry) : Type 0 where
  pub route : ℕ → ℕ → List Leg
  pub state : new ≡ record old { state = (after_by t route old e).state }
  pub said : out ≡ (after_by t route old e).out

-- An agent of any kind as its contracts see it.
use Rattle.std.specs.Prelude.{◌≡◌, ℕ, List, Option}
use Rattle.nsi_primitive.specs.declared.ask.AskAnswer.{AskAnswer}
use Rattle.nsi_primitive.specs.declared.entry.Entry.{Entry}
use Rattle.nsi_primitive.specs.declared.message.Message.{Message}
use Rattle.stp_topology.specs.declared.network.Network.{Network}
use Rattle.agent_state.specs.State.{AgentState}
use Rattle.nsi_agent.specs.Homes.{Home, Routes, home_in}
use Rattle.nsi_agent.specs.Steps.{after}

-- the topology that it stands in, its number, and what it keeps
pub record Standing : Type 0 where
  pub network : Network
  pub number : ℕ
  pub state : AgentState

abbrev pub home_of : Routes → Standing → Home
home_of routes a = home_in a.network routes a.number

-- an entry makes of it what the definition says, by some ways
pub record IsAfterBySome (old new : Standing) (answer : Option AskAnswer) (out : List Message) (e : Entry) : Type 0 where
  pub routes : Routes
  pub state : new ≡ record old { state = (after (home_of routes old) old.state e).state }
  pub answered : answer ≡ (after (home_of routes old) old.state e).answer
  pub said : out ≡ (after (home_of routes old) old.state e).out

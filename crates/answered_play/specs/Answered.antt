-- Which requests are answered in a world.
use Rattle.std.specs.Prelude.{ℕ, ◌≡◌, ◌<◌, ◌⊎◌, true, List, length}
use Rattle.std.specs.List.{Contains}
use Rattle.nsi_primitive.specs.Messages.{is_request}
use Rattle.nsi_primitive.specs.declared.message.Message.{Message}
use Rattle.stp_topology.specs.Network.{name_of}
use Rattle.stp_topology.specs.Sound.{IsProvider, IsAggregator}
use Rattle.stp_topology.specs.declared.network.Network.{Network}
use Rattle.agent_state.specs.State.{AgentState}
use Rattle.nsi_agent.specs.Told.{told, WasGot}
use Rattle.nsi_world.specs.Worlds.{Homes, World, IsGot, IsTo, said}
use Rattle.request_answers.specs.Answers.{IsAnswerTo, IsAnswered}
use Rattle.request_answers.specs.Open.{IsWorkedOn}
use Rattle.request_answers.specs.Waiting.{WaitsForChild, WaitsForPart}

-- the state that an agent's journal makes
abbrev pub state_in : Homes → World → ℕ → AgentState
state_in homes w a = (told (homes a) (w.journal a)).state

-- all that it causes, synced or not
abbrev pub caused_in : Homes → World → ℕ → List Message
caused_in homes w a = (told (homes a) (w.journal a)).out

-- an answer of a child is missing: to what a record asked for, or to a query about all that is below
abbrev pub IsWaitedFor : Network → Homes → World → ℕ → Message → Type 0
IsWaitedFor t homes w a request = WaitsForChild (name_of t a) (state_in homes w a) request ⊎ WaitsForPart (state_in homes w a).queries request

-- each request that a provider has got is answered, or one of its records works on it; each that an aggregator has got is answered, or waits for a child
pub record AnswersOrWorks (t : Network) (homes : Homes) (w : World) : Type 0 where
  pub providers : (a : ℕ) (request : Message) → IsProvider t a → IsGot request (w.journal a) → is_request request.body ≡ true →
      IsAnswered request (caused_in homes w a) ⊎ IsWorkedOn (name_of t a) (state_in homes w a).base.records request
  pub aggregators : (a : ℕ) (request : Message) → IsAggregator t a → IsGot request (w.journal a) → is_request request.body ≡ true →
      IsAnswered request (caused_in homes w a) ⊎ IsWaitedFor t homes w a request

-- Each request that a provider has got is answered by what it has said. Each that an aggregator has got is answered by what it has said, or an
-- answer of a child is missing.
pub record AnswersAll (t : Network) (homes : Homes) (w : World) : Type 0 where
  pub providers : (a : ℕ) (request : Message) → IsProvider t a → IsGot request (w.journal a) → is_request request.body ≡ true → IsAnswered request (said homes w a)
  pub aggregators : (a : ℕ) (request : Message) → IsAggregator t a → IsGot request (w.journal a) → is_request request.body ≡ true →
      IsAnswered request (said homes w a) ⊎ IsWaitedFor t homes w a request

-- Each request that an agent has said to a provider has its answer among what the agent got.
abbrev pub AnswersCome : Network → Homes → World → Type 0
AnswersCome t homes w =
    (a b : ℕ) (request : Message) → a < length t.agents → IsProvider t b → Contains (said homes w a) request → is_request request.body ≡ true → IsTo homes b request →
    (answer : Message) × IsAnswerTo request answer × WasGot answer (w.journal a)

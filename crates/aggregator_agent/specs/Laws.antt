-- The laws of an aggregator.
use Rattle.std.specs.Prelude.{◌≡◌, ◌≤◌, ◌+◌, ◌⊎◌, ℕ, false, List, [], ◌∷◌, None}
use Rattle.std.specs.List.{All}
use Rattle.nsi_primitive.specs.Ids.{id_of}
use Rattle.nsi_primitive.specs.Messages.{is_request}
use Rattle.nsi_primitive.specs.Printable.{IsPrintable, IsPrintableInput}
use Rattle.nsi_primitive.specs.declared.entry.Entry.{Entry}
use Rattle.nsi_primitive.specs.declared.message.Message.{Message}
use Rattle.agent_state.specs.State.{AgentState, blank_agent}
use Rattle.aggregator_agent.specs.Setting.{Setting}
use Rattle.aggregator_agent.specs.Steps.{after}
use Rattle.aggregator_agent.specs.Good.{IsGood}

-- what is true of each aggregator is true of one that has taken nothing, and stays true
abbrev pub BlankIsGood : Type 0
BlankIsGood = IsGood blank_agent

abbrev pub EntriesKeepGood : Type 0
EntriesKeepGood = (setting : Setting) (s : AgentState) (e : Entry) → IsPrintableInput e.input → IsGood s → IsGood (after setting s e).state

-- what an entry causes can be written
abbrev pub CausedIsPrintable : Type 0
CausedIsPrintable = (setting : Setting) (s : AgentState) (e : Entry) → IsPrintableInput e.input → IsGood s → All IsPrintable (after setting s e).out

-- no user asks an aggregator
abbrev pub NothingIsAnswered : Type 0
NothingIsAnswered = (setting : Setting) (s : AgentState) (e : Entry) → IsPrintableInput e.input → IsGood s → (after setting s e).answer ≡ None

---- Ids

-- each request among messages has the next id, or a later one, and the ids rise up to the last
unfoldable pub AreDrawn : (agent next : ℕ) → List Message → (last : ℕ) → Type 0
AreDrawn agent next [] last = next ≤ last
AreDrawn agent next (m ∷ ms) last =
    ((is_request m.body ≡ false) × AreDrawn agent next ms last)
    ⊎ ((n : ℕ) × (next ≤ n) × (m.header.correlation ≡ id_of agent n) × AreDrawn agent (n + 1) ms last)

-- each request that an entry causes has an id of its own
abbrev pub RequestsHaveIds : Type 0
RequestsHaveIds =
    (setting : Setting) (s : AgentState) (e : Entry) → IsPrintableInput e.input → IsGood s →
    AreDrawn setting.agent.number s.base.next (after setting s e).out (after setting s e).state.base.next

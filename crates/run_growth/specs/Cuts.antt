-- What a crash may leave of an agent in a world.
use Rattle.std.specs.Prelude.{ℕ, take}
use Rattle.agent_state.specs.State.{AgentState}
use Rattle.provider_agent.specs.Cuts.{Journal, IsCut, cut}
use Rattle.nsi_agent.specs.Told.{told}
use Rattle.nsi_world.specs.Worlds.{Homes, World, synced_part}

-- the agent's journal, and how much of it is synced
abbrev pub journal_in : World → ℕ → Journal
journal_in w a = record { entries = w.journal a; synced = w.synced a }

-- what a crash may leave of it: so many first entries, and all that are synced among them
abbrev pub IsCutOf : World → ℕ → ℕ → Type 0
IsCutOf w a k = IsCut (journal_in w a) k

-- the agent as so many of its first entries make it
abbrev pub state_of_cut : Homes → World → ℕ → ℕ → AgentState
state_of_cut homes w a k = (told (homes a) (cut (journal_in w a) k)).state

-- the agent as its synced entries make it
abbrev pub synced_state : Homes → World → ℕ → AgentState
synced_state homes w a = (told (homes a) (synced_part w a)).state

-- the agent as it stood when it took the entry of that number
abbrev pub state_before : Homes → World → ℕ → ℕ → AgentState
state_before homes w a n = (told (homes a) (take n (w.journal a))).state

-- Cuts of a world: for each agent a place of its journal, from what is synced on; and journals that are made by entries alone.
use Rattle.std.specs.Prelude.{◌≡◌, ◌≢◌, ◌≤◌, ◌<◌, ℕ, List, [], ◌∷◌, ◌++◌, Option, length, take}
use Rattle.nsi_primitive.specs.declared.ask.AskAnswer.{AskAnswer}
use Rattle.nsi_primitive.specs.declared.entry.Entry.{Entry}
use Rattle.agent_state.specs.Entries.{most_entries}
use Rattle.nsi_agent.specs.Told.{Told, told}
use Rattle.nsi_world.specs.Worlds.{Homes, IsAgent, World}
use Rattle.nsi_world.specs.Runs.{IsEntered}

-- a place of an agent's journal: no less than is synced, and no more than there is
abbrev pub IsPlaceOf : World → (a k : ℕ) → Type 0
IsPlaceOf w a k = (w.synced a ≤ k) × (k ≤ length (w.journal a))

-- such a place for each agent
abbrev pub IsCut : World → (ℕ → ℕ) → Type 0
IsCut w c = (a : ℕ) → IsPlaceOf w a (c a)

-- the entries before it
abbrev pub cut : World → (ℕ → ℕ) → ℕ → List Entry
cut w c a = take (c a) (w.journal a)

-- what an agent has kept and caused by the entries before a place
abbrev pub told_to : Homes → World → (a k : ℕ) → Told
told_to homes w a k = told (homes a) (take k (w.journal a))

-- the world of these journals in which all is synced
abbrev pub all_synced : (ℕ → List Entry) → World
all_synced journal = record { journal = journal; synced = λ a. length (journal a) }

-- Journals that are made by entries alone: each agent's is empty at first, and then one entry after another is put behind one of them,
-- as it may be entered where all is synced.
pub data IsGrown (homes : Homes) : (ℕ → List Entry) → Type 0 where
  begins : (journal : ℕ → List Entry) → ((a : ℕ) → journal a ≡ []) → IsGrown homes journal
  grows :
      (journal more : ℕ → List Entry) (a : ℕ) (e : Entry) (answer : Option AskAnswer) → IsGrown homes journal → IsAgent homes a → length (journal a) < most_entries →
      IsEntered homes (all_synced journal) a e answer → more a ≡ journal a ++ e ∷ [] → ((b : ℕ) → b ≢ a → more b ≡ journal b) → IsGrown homes more

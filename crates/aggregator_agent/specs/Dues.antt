-- Requests to children by their places, and where they are looked for. What is named besides means nothing.
use Rattle.std.specs.Prelude.{◌≡◌, ◌<◌, ◌≤◌, ◌↔◌, ℕ, Bool, true, false, not, ◌&&◌, ◌==◌, nat_le, nat_lt, ◌+◌, List, length, get_or}
use Rattle.std.specs.List.{Contains}
use Rattle.id_index.specs.declared.IdPlace.{IdPlace}
use Rattle.agent_state.specs.declared.parent.Due.{Due}
use Rattle.aggregator_agent.specs.Clock.{most_wait}
use Rattle.aggregator_agent.specs.Indexed.{id_at}

-- a request of nothing
abbrev pub no_due : Due
no_due = record { number = 0; correlation = 0; second = 0; is_told = false }

abbrev pub due_at : ℕ → List Due → Due
due_at n dues = get_or dues n no_due

---- By correlationId

-- the requests at these places are named by their correlationIds
abbrev pub AreNamedBetween : (first last : ℕ) → List IdPlace → List Due → Type 0
AreNamedBetween first last ids dues = (n : ℕ) → first ≤ n → n < last → Contains ids (id_at (due_at n dues).correlation n)

abbrev pub AreDuesNamed : List IdPlace → List Due → Type 0
AreDuesNamed ids dues = (n : ℕ) → n < length dues → Contains ids (id_at (due_at n dues).correlation n)

---- What is late

-- a request for which the test holds stands at a place
pub record IsDueAt (holds : Due → Bool) (dues : List Due) (place : ℕ) : Type 0 where
  pub within : place < length dues
  pub is_so : holds (due_at place dues) ≡ true

-- at these places alone
abbrev pub ArePlacesOf : (Due → Bool) → List Due → List ℕ → Type 0
ArePlacesOf holds dues places = (p : ℕ) → Contains places p ↔ IsDueAt holds dues p

-- a request under a correlationId wasn't told, and its time is over
abbrev pub is_overdue : ℕ → ℕ → Due → Bool
is_overdue now c d = not d.is_told && (nat_le (d.second + most_wait) now && (c == d.correlation))

abbrev pub is_overdue_at : ℕ → ℕ → List Due → ℕ → Bool
is_overdue_at now c dues place = nat_lt place (length dues) && is_overdue now c (due_at place dues)

---- What is told

-- the requests at these places are told, and the others stay
pub record AreToldAt (places : List ℕ) (old new : List Due) : Type 0 where
  pub long : length new ≡ length old
  pub same : (n : ℕ) → record (due_at n new) { is_told = true } ≡ record (due_at n old) { is_told = true }
  pub told : (n : ℕ) → Contains places n → due_at n new ≡ record (due_at n old) { is_told = true }
  pub rest : (n : ℕ) → (Contains places n → ⊥) → due_at n new ≡ due_at n old

-- What agents have told in a world, as numbers, and which changes of the data plane an aggregator has heard.
use Rattle.std.specs.Prelude.{ℕ, ◌≡◌, true, List, [], ◌∷◌, length, sum_by, if◌then◌else◌}
use Rattle.std.specs.List.{All, filter}
use Rattle.nsi_primitive.specs.Messages.{identity}
use Rattle.nsi_primitive.specs.declared.message.Identity.{Identity}
use Rattle.nsi_primitive.specs.declared.message.Message.{Message}
use Rattle.stp_topology.specs.Laws.{IsChild}
use Rattle.stp_topology.specs.declared.network.Network.{Network}
use Rattle.connection_record.specs.Speaking.{tally}
use Rattle.nsi_agent.specs.Told.{told}
use Rattle.nsi_world.specs.Worlds.{Homes, World, IsSaidBy, IsTo}
use Rattle.nsi_world.specs.Runs.{is_provider}
use Rattle.speech_cost.specs.Changes.{says_change, is_of_change}
use Rattle.speech_cost.specs.Costs.{asks}

---- What is told

-- how many changes an agent has told by all entries of its journal
abbrev pub changes_by : Homes → World → ℕ → ℕ
changes_by homes w a = tally says_change (told (homes a) (w.journal a)).out

-- the same of a provider
abbrev pub provider_changes_by : Homes → World → ℕ → ℕ
provider_changes_by homes w a = if is_provider (homes a).role then changes_by homes w a else 0

-- how many these agents have told together
abbrev pub changes_told : Homes → World → (agents : List ℕ) → ℕ
changes_told homes w agents = sum_by (changes_by homes w) agents

-- how many the providers among them have told
abbrev pub provider_changes_told : Homes → World → (agents : List ℕ) → ℕ
provider_changes_told homes w agents = sum_by (provider_changes_by homes w) agents

-- how many messages of any kind these agents have told together
abbrev pub messages_told : Homes → World → (agents : List ℕ) → ℕ
messages_told homes w agents = sum_by (λ a. length (told (homes a) (w.journal a)).out) agents

-- how many of these are requests
abbrev pub requests_asked : Homes → World → (agents : List ℕ) → ℕ
requests_asked homes w agents = sum_by (λ a. tally asks (told (homes a) (w.journal a)).out) agents

-- how many requests they have taken together
abbrev pub requests_taken : Homes → World → (agents : List ℕ) → ℕ
requests_taken homes w agents = sum_by (λ a. length (told (homes a) (w.journal a)).state.base.seen) agents

---- What is heard

-- no two are the same
abbrev pub AreApart : {X : Type 0} → List X → Type 0
AreApart [] = Unit {0}
AreApart (x ∷ xs) = All (λ y. x ≡ y → ⊥) xs × AreApart xs

-- the identities of the changes that an agent has heard
abbrev pub changes_heard : Homes → World → ℕ → List Identity
changes_heard homes w a = filter is_of_change (told (homes a) (w.journal a)).state.base.heard

-- a change of this identity, which a child of the agent has told it
pub record WasToldByChild (t : Network) (homes : Homes) (w : World) (a : ℕ) (i : Identity) : Type 0 where
  pub message : Message
  pub its : identity message ≡ i
  pub change : says_change message ≡ true
  pub child : ℕ
  pub below : IsChild t.children a child
  pub said : IsSaidBy homes w child message
  pub addressed : IsTo homes a message

-- each change that the agent has heard is such a one, and counts once
pub record AreHeardOnce (t : Network) (homes : Homes) (w : World) (a : ℕ) : Type 0 where
  pub apart : AreApart (changes_heard homes w a)
  pub from_children : All (WasToldByChild t homes w a) (changes_heard homes w a)

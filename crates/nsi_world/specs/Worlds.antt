-- Worlds: what each agent has taken, and how much of it is synced. They know of no link, no queue and no round.
use Rattle.std.specs.Prelude.{◌≡◌, ℕ, List, [], Some, take}
use Rattle.std.specs.List.{Contains}
use Rattle.nsi_primitive.specs.Messages.{identity, addressee}
use Rattle.nsi_primitive.specs.declared.entry.Entry.{Entry}
use Rattle.nsi_primitive.specs.declared.entry.Input.{Input}
use Rattle.nsi_primitive.specs.declared.message.Message.{Message}
use Rattle.nsi_agent.specs.Homes.{Home}
use Rattle.nsi_agent.specs.Told.{told}

-- what the topology says to each agent, by the agents' numbers
abbrev pub Homes : Type 0
Homes = ℕ → Home

-- it is an agent of the topology: its name leads to its number
abbrev pub IsAgent : Homes → ℕ → Type 0
IsAgent homes a = (homes a).agent_of (homes a).name ≡ Some a

-- the journal of each agent, and how many entries of it are synced
pub record World : Type 0 where
  pub journal : ℕ → List Entry
  pub synced : ℕ → ℕ

-- before anything has happened
abbrev pub empty : World
empty = record { journal = λ a. []; synced = λ a. 0 }

-- the entries of an agent that are synced
abbrev pub synced_part : World → ℕ → List Entry
synced_part w a = take (w.synced a) (w.journal a)

-- what an agent has said: all that its synced entries cause
abbrev pub said : Homes → World → ℕ → List Message
said homes w a = (told (homes a) (synced_part w a)).out

abbrev pub IsSaidBy : Homes → World → ℕ → Message → Type 0
IsSaidBy homes w a m = IsAgent homes a × Contains (said homes w a) m

-- some agent has said it
abbrev pub IsSent : Homes → World → Message → Type 0
IsSent homes w m = (a : ℕ) × IsSaidBy homes w a m

-- it is for the agent
abbrev pub IsTo : Homes → ℕ → Message → Type 0
IsTo homes a m = addressee (identity m) ≡ (homes a).name

-- one of the entries takes it
pub record IsGot (m : Message) (es : List Entry) : Type 0 where
  pub second : ℕ
  pub there : Contains es (record { second = second; input = Input.Got m })

-- the one agent has said it to the other one, which took it by one of these entries
pub record IsTaken (homes : Homes) (w : World) (entries : ℕ → List Entry) (from to : ℕ) (m : Message) : Type 0 where
  pub said : IsSaidBy homes w from m
  pub addressed : IsTo homes to m
  pub got : IsGot m (entries to)

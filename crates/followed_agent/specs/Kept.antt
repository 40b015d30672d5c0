-- What is kept of an agent, and what it tells.
use Rattle.std.specs.Prelude.{◌≡◌, ◌≤◌, ◌<◌, ◌++◌, ℕ, Bool, false, List, length, take, Option, Some, None, slice_get}
use Rattle.std.specs.List.{All, Contains}
use Rattle.nsi_primitive.specs.Messages.{identity}
use Rattle.nsi_primitive.specs.Printable.{IsPrintable, IsPrintableEntry}
use Rattle.nsi_primitive.specs.declared.entry.Entry.{Entry}
use Rattle.nsi_primitive.specs.declared.entry.Input.{Input}
use Rattle.nsi_primitive.specs.declared.message.Identity.{Identity}
use Rattle.nsi_primitive.specs.declared.message.Message.{Message}
use Rattle.message_retry.specs.Retry.{is_same_identity}
use Rattle.stp_topology.specs.declared.network.Network.{Network}
use Rattle.id_index.specs.declared.IdPlace.{IdPlace}
use Rattle.nsi_agent.specs.Homes.{Home, Routes, AreRoutes, home_in}
use Rattle.agent_state.specs.State.{AgentState}
use Rattle.nsi_agent.specs.Told.{Told, told}
use Rattle.followed_agent.specs.Messages.{IsIndexed}
use Rattle.followed_agent.specs.declared.agent.Followed.{Followed}

-- so it is of that agent of the topology, whichever legs are those of the least paths
abbrev pub At : Network → ℕ → (Home → Type 0) → Type 0
At t a P = (routes : Routes) → AreRoutes t routes → P (home_in t routes a)

abbrev pub telling : AgentState → List Message → Told
telling s out = record { state = s; out = out }

-- the topology that it stands in, its number, its journal, and how much of it is synced
pub record Seen : Type 0 where
  pub network : Network
  pub number : ℕ
  pub journal : List Entry
  pub synced : ℕ

abbrev pub seen : Followed → Seen
seen x = record { network = x.agent.network; number = x.agent.number; journal = x.journal.items; synced = x.synced }

-- so it is of the agent
abbrev pub AtSeen : Seen → (Home → Type 0) → Type 0
AtSeen s P = At s.network s.number P

-- the entries that are synced
abbrev pub synced_part : Seen → List Entry
synced_part s = take s.synced s.journal

-- all that it has said
abbrev pub said_by : Home → Seen → List Message
said_by h s = (told h (synced_part s)).out

abbrev pub taking : ℕ → Message → Entry
taking second m = record { second = second; input = Input.Got m }

-- one of the entries takes the message
abbrev pub IsTakenIn : Message → List Entry → Type 0
IsTakenIn m es = (second : ℕ) × Contains es (taking second m)

-- each message that the first so many entries take is found by its correlationId
abbrev pub AreNoted : List IdPlace → ℕ → List Entry → Type 0
AreNoted places n es =
    (p second : ℕ) (m : Message) → p < n → slice_get es p ≡ Some (taking second m) → Contains places (record { id = m.header.correlation; place = p })

-- what it has taken and said is what its journal tells
pub record IsKept (x : Followed) : Type 0 where
  pub printable : All IsPrintableEntry x.journal.items
  pub within : x.synced ≤ length x.journal.items
  pub state : AtSeen (seen x) (λ h. x.agent.state ≡ (told h x.journal.items).state)
  pub said : AtSeen (seen x) (λ h. x.said.messages.items ≡ said_by h (seen x))
  pub indexed : IsIndexed x.said
  pub out : AtSeen (seen x) (λ h. (told h x.journal.items).out ≡ said_by h (seen x) ++ x.unsaid.items)
  pub unsaid : All IsPrintable x.unsaid.items
  pub got : AreNoted x.got x.synced x.journal.items

-- a message of the identity was taken by a synced entry
abbrev pub HasTaken : Seen → Identity → Type 0
HasTaken s i = (m : Message) × (identity m ≡ i) × IsTakenIn m (synced_part s)

-- a message of the identity is taken
abbrev pub takes : Input → Identity → Bool
takes (Input.Got m) i = is_same_identity i (identity m)
takes input i = false

abbrev pub takes_by : Option Entry → Identity → Bool
takes_by (Some e) i = takes e.input i
takes_by None i = false

-- the entry at that place takes one
abbrev pub takes_at : List Entry → Identity → ℕ → Bool
takes_at es i place = takes_by (slice_get es place) i

-- An agent with its links, and without its journal: what the steps of a turn make of it.
use Rattle.std.specs.Prelude.{◌≡◌, ◌≤◌, ◌<◌, ◌+◌, ℕ, Bool, true, false, List, length, Option, Some, None}
use Rattle.nsi_primitive.specs.declared.ask.AskAnswer.{AskAnswer}
use Rattle.nsi_primitive.specs.declared.entry.Entry.{Entry}
use Rattle.nsi_primitive.specs.declared.entry.Input.{Input}
use Rattle.nsi_primitive.specs.declared.message.Message.{Message}
use Rattle.stp_topology.specs.declared.network.AgentKind.{AgentKind}
use Rattle.stp_topology.specs.declared.network.Network.{Network}
use Rattle.agent_state.specs.State.{AgentState, AgentStepped}
use Rattle.agent_state.specs.Entries.{most_entries}
use Rattle.provider_agent.specs.Steps.{is_for_provider}
use Rattle.aggregator_agent.specs.Steps.{is_for_aggregator}
use Rattle.nsi_agent.specs.Homes.{Home, Routes, AreRoutes, home_in}
use Rattle.agent_node.specs.declared.fault.TurnFault.{TurnFault}
use Rattle.agent_node.specs.Passing.{Plug, others}
use Rattle.agent_node.specs.Seat.{Seat}

-- the topology that it stands in, itself, and its links
pub record Seated : Type 0 where
  pub network : Network
  pub seat : Seat
  pub plugs : List Plug

-- so it is of that agent of the topology, whichever legs are those of the least paths
abbrev pub At : Network → ℕ → (Home → Type 0) → Type 0
At t a P = (routes : Routes) → AreRoutes t routes → P (home_in t routes a)

abbrev pub AtSeat : Seated → (Home → Type 0) → Type 0
AtSeat s P = At s.network s.seat.number P

---- Entries

abbrev pub entry_at : ℕ → Input → Entry
entry_at second input = record { second = second; input = input }

-- an entry was taken, and this state, these messages and this answer came of it
abbrev pub stepped : AgentState → List Message → Option AskAnswer → AgentStepped
stepped s out answer = record { state = s; out = out; answer = answer }

-- whether an agent of that kind takes such an input
abbrev pub is_for : Option AgentKind → Input → Bool
is_for (Some (AgentKind.Provider hold)) input = is_for_provider input
is_for (Some (AgentKind.Requester provider)) input = true
is_for _ input = is_for_aggregator input

abbrev pub is_tick : Input → Bool
is_tick Input.Tick = true
is_tick _ = false

---- Steps

-- the same agent, with the same links
pub record IsSameCore (old new : Seated) : Type 0 where
  pub network : new.network ≡ old.network
  pub number : new.seat.number ≡ old.seat.number
  pub plugs : new.plugs ≡ old.plugs
  pub others : others new.seat.doors ≡ others old.seat.doors

-- the same, and as many entries are synced
pub record Stays (old new : Seated) : Type 0 where
  pub network : new.network ≡ old.network
  pub number : new.seat.number ≡ old.seat.number
  pub plugs : new.plugs ≡ old.plugs
  pub others : others new.seat.doors ≡ others old.seat.doors
  pub synced : new.seat.synced ≡ old.seat.synced

-- the same agent, with links to the same others
pub record IsSameSeat (old new : Seated) : Type 0 where
  pub network : new.network ≡ old.network
  pub number : new.seat.number ≡ old.seat.number
  pub others : others new.seat.doors ≡ others old.seat.doors

-- Steps that had room for so many events, and have left room for so many: without a fault they make this of an agent. They have no
-- fault of a disk, and Long only where there would be more events.
pub record Goes (f : Home → Seat → Seat) (room left : ℕ) (old new : Seated) (fault : Option TurnFault) : Type 0 where
  pub ok : AtSeat old (λ h. fault ≡ None → new.seat ≡ f h old.seat)
  pub long : AtSeat old (λ h. fault ≡ Some TurnFault.Long → room + length old.seat.events < length (f h old.seat).events)
  pub spent : fault ≡ None → left + length new.seat.events ≡ room + length old.seat.events
  pub few : fault ≡ None → new.seat.state.base.taken + left ≤ most_entries
  pub failed : fault ≡ Some TurnFault.DiskFault → ⊥
  pub stopped : fault ≡ Some TurnFault.Stopped → ⊥
  pub stays : Stays old new

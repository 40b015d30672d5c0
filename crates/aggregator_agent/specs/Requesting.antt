-- A connection that takes a request, with all that it causes.
use Rattle.std.specs.Prelude.{ℕ, List, slice_set}
use Rattle.nsi_primitive.specs.declared.message.Message.{Message}
use Rattle.agent_state.specs.declared.parent.Leg.{Leg}
use Rattle.aggregator_agent.specs.declared.agent.Agent.{Agent}
use Rattle.aggregator_agent.specs.declared.entering.Entering.{Entering}
use Rattle.aggregator_agent.specs.declared.outbox.Outbox.{Outbox}
use Rattle.aggregator_agent.specs.declared.requesting.Start.{Start}
use Rattle.aggregator_agent.specs.declared.said.Said.{Said}
use Rattle.aggregator_agent.specs.Bonds.{Bond, bond_at, Done, requested_bond, with_children}
use Rattle.aggregator_agent.specs.Step.{IsEntered}

-- the request at a connection whose children are those that it has, or those of the route
abbrev pub request_with : Agent → ℕ → Message → (number next : ℕ) → (ℕ → ℕ → List Leg) → Bond → Done
request_with agent now m number next route b = requested_bond agent now m number next (with_children route m b)

abbrev pub request_by : Entering → Start → (ℕ → ℕ → List Leg) → Bond → Done
request_by e start route b = request_with e.agent.now e.second e.message.now start.number start.next route b

abbrev pub IsRequested : (old new : Bond) → (o p : Outbox) → Said → Entering → Start → (ℕ → ℕ → List Leg) → Type 0
IsRequested old new o p said e start route =
    let x = request_by e start route old in
    IsEntered new o p said x.bond x.out x.dues x.next

-- the same of the connection at a place among others
abbrev pub IsRequestedAt : ℕ → (bs cs : List Bond) → (o p : Outbox) → Said → Entering → (next : ℕ) → (ℕ → ℕ → List Leg) → Type 0
IsRequestedAt place bs cs o p said e next route =
    let x = request_with e.agent.now e.second e.message.now place next route (bond_at place bs) in
    IsEntered cs o p said (slice_set bs place x.bond) x.out x.dues x.next

-- An agent of a topology before anything has happened, and its links.
use Rattle.std.specs.Prelude.{ℕ, ◌==◌, ◌||◌, Bool, false, List, [], length, map, filter, Option, Some}
use Rattle.std.specs.List.{list_any, range_with_len}
use Rattle.stp_topology.specs.declared.network.AgentKind.{AgentKind}
use Rattle.stp_topology.specs.declared.network.Network.{Network}
use Rattle.stp_topology.specs.Network.{kind_of, children_of}
use Rattle.agent_state.specs.State.{blank_agent}
use Rattle.agent_link.specs.Plans.{Plan}
use Rattle.agent_node.specs.Seat.{Door, Seat}

abbrev pub is_provider_of : ℕ → Option AgentKind → Bool
is_provider_of b (Some (AgentKind.Requester provider)) = provider == b
is_provider_of b _ = false

-- whether the one agent sends requests to the other
abbrev pub asks : Network → ℕ → ℕ → Bool
asks t a b = is_provider_of b (kind_of t a) || list_any (λ c. c == b) (children_of t a)

-- whether two agents have a link, which goes both ways
abbrev pub are_linked : Network → ℕ → ℕ → Bool
are_linked t a b = asks t a b || asks t b a

abbrev pub agents : Network → List ℕ
agents t = range_with_len 0 (length t.agents)

-- those that an agent has links to, in order
abbrev pub others_of : Network → ℕ → List ℕ
others_of t a = filter (are_linked t a) (agents t)

-- what is planned for the link from the one agent to the other
abbrev pub Plans : Type 0
Plans = (from to : ℕ) → Plan

-- through which nothing went yet
abbrev pub first_door : Plan → ℕ → Door
first_door plan b = record { other = b; queue = []; out = []; plan = plan; inc = [] }

abbrev pub nothing_planned : Plans
nothing_planned from to = []

abbrev pub empty_door : ℕ → Door
empty_door b = first_door [] b

-- the door to an agent, where this is planned by the others' numbers
abbrev pub opened : (ℕ → Plan) → ℕ → Door
opened plans b = first_door (plans b) b

-- its ends of the links, by the others' numbers
abbrev pub doors_of : Network → Plans → ℕ → List Door
doors_of t plans a = map (opened (plans a)) (others_of t a)

-- an agent that has taken nothing
abbrev pub seat_of : Network → Plans → ℕ → Seat
seat_of t plans a =
    record { number = a; state = blank_agent; past = Some []; synced = 0; fresh = []; unsaid = []; events = []; doors = doors_of t plans a }

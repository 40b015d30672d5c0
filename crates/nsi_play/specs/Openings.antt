-- All agents of a topology, before anything has happened.
use Rattle.std.specs.Prelude.{ℕ, ◌==◌, ◌&&◌, Bool, List, map, filter}
use Rattle.agent_link.specs.declared.plan.LinkFault.{LinkFault}
use Rattle.stp_topology.specs.declared.network.Network.{Network}
use Rattle.nsi_script.specs.declared.script.PlanLine.{PlanLine}
use Rattle.agent_node.specs.Seat.{Seat}
pub use Rattle.agent_node.specs.Openings.{agents, Plans, nothing_planned, seat_of}

-- the line is of the link from the one agent to the other
abbrev pub goes : (from to : ℕ) → PlanLine → Bool
goes from to line = (line.from == from) && (line.to == to)

abbrev pub fault_in : PlanLine → LinkFault
fault_in line = line.fault

-- what the lines of a script plan for each link
abbrev pub plans_of : List PlanLine → Plans
plans_of lines from to = map fault_in (filter (goes from to) lines)

-- all agents of a topology, in order, where this is planned for their links
abbrev pub opening : Network → Plans → List Seat
opening t plans = map (seat_of t plans) (agents t)

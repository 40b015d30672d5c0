-- Two agents meet: each learns what the other one let through.
use Rattle.agent_node.specs.Seat.{Seat, change_first}
pub use Rattle.agent_node.specs.Passing.{let_through, learns}

-- an agent's end of the link to another one learns what the other end let through
unfoldable pub met : Seat → Seat → Seat
met o s = record s { doors = change_first o.number (learns (let_through s.number o.doors)) s.doors }

-- What a script does to an agent, and when an agent is quiet.
use Rattle.std.specs.Prelude.{ℕ, ◌==◌, ◌&&◌, Bool, not, List, length, filter, is_none}
use Rattle.nsi_primitive.specs.Messages.{identity}
use Rattle.nsi_primitive.specs.declared.ask.Ask.{Ask}
use Rattle.nsi_primitive.specs.declared.entry.Entry.{Entry}
use Rattle.nsi_primitive.specs.declared.entry.Input.{Input}
use Rattle.nsi_primitive.specs.declared.message.Message.{Message}
use Rattle.message_retry.specs.Retry.{is_waiting}
use Rattle.nsi_agent.specs.Homes.{Home}
use Rattle.nsi_agent.specs.Steps.{work_of}
use Rattle.agent_node.specs.Seat.{Door, Seat, enters, enters_now, says_all}
pub use Rattle.agent_node.specs.Passing.{is_queued, is_idle, all_idle}

-- an ask of its user, which has this number
abbrev pub asked : Home → ℕ → Ask → Seat → Seat
asked h number ask s = enters_now h (Input.Ask number ask) s

-- the connection of a record is ended by force
abbrev pub forced : Home → ℕ → Seat → Seat
forced h n s = enters_now h (Input.Force n) s

---- Ticks

-- it was said, and isn't queued
abbrev pub is_overdue : List Message → List Door → Message → Bool
is_overdue unsaid ds m = not (is_waiting (identity m) unsaid) && not (is_queued (identity m) ds)

-- what was said and isn't acknowledged, and isn't queued
abbrev pub overdue : Seat → List Message
overdue s = filter (is_overdue s.unsaid s.doors) s.state.base.waiting

abbrev pub tick_at : ℕ → Entry
tick_at second = record { second = second; input = Input.Tick }

-- the clock goes on, and what is overdue is queued again
unfoldable pub ticked : Home → ℕ → Seat → Seat
ticked h second s = record (enters h (tick_at second) s) { doors = says_all h.agent_of (overdue s) s.doors }

---- Quiet

-- nothing is unsynced, no work waits, nothing is to be pushed and nothing came
unfoldable pub is_quiet : Home → Seat → Bool
is_quiet h s = (length s.fresh == 0) && (is_none (work_of h.role s.state) && all_idle s.doors)

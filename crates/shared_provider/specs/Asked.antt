-- The entry that a call asks of a book, where it asks one.
use Rattle.std.specs.Prelude.{◌≡◌, ℕ, Bool, true, false, ◌==◌, List, Option, Some, None, option_and_then, position, if◌then◌else◌}
use Rattle.nsi_primitive.specs.declared.entry.Entry.{Entry}
use Rattle.nsi_primitive.specs.declared.entry.Happening.{Happening}
use Rattle.nsi_primitive.specs.declared.entry.Input.{Input}
use Rattle.nsi_primitive.specs.declared.message.Message.{Message}
use Rattle.nsi_primitive.specs.declared.state.Machine.{Machine}
use Rattle.connection_record.specs.declared.record.Record.{Record}
use Rattle.provider_agent.specs.State.{State}
use Rattle.nsi_primitive.specs.Printable.{IsPrintableInput}
use Rattle.provider_agent.specs.Steps.{is_seen, machine_at, may_take}
use Rattle.provider_agent.specs.AgentRuns.{is_of_agent_run}

abbrev pub now_at : State → Input → Entry
now_at s input = record { second = s.now; input = input }

-- a message is taken, unless it was seen
unfoldable pub took_entry : State → Message → Option Entry
took_entry s m = if is_seen s m then None else Some (now_at s (Input.Got m))

abbrev pub has_id : ℕ → Record → Bool
has_id id r = r.id == id

-- the record with that id, and its first machine that has work to do
abbrev pub work_on : ℕ → List Record → Option (ℕ × Machine)
work_on id records = option_and_then (λ n. machine_at n records) (position (has_id id) records)

abbrev pub work_then : State → Option (ℕ × Machine) → Option Entry
work_then s None = None
work_then s (Some work) = Some (now_at s (Input.Work work.0 work.1))

-- the first work that waits on a connection is done
unfoldable pub work_entry : State → ℕ → Option Entry
work_entry s id = work_then s (work_on id s.records)

abbrev pub tick_entry : ℕ → Entry
tick_entry second = record { second = second; input = Input.Tick }

abbrev pub is_work_input : Input → Bool
is_work_input (Input.Work _ _) = true
is_work_input _ = false

-- what happened is work
abbrev pub is_work : Happening → Bool
is_work (Happening.Entry e answer) = is_work_input e.input
is_work _ = false

-- an entry that a book may add: a provider takes it, it is a request, work or a tick, and it can be printed
pub record MayBeAsked (s : State) (e : Entry) : Type 0 where
  pub may_take : may_take s e ≡ true
  pub own : is_of_agent_run e.input ≡ true
  pub printable : IsPrintableInput e.input

use Rattle.std.proofs.Common.{◌≡◌, ◌++◌, filter, take}
use Rattle.aggregator_agent.specs.Dues.{is_overdue_at}
use Rattle.aggregator_agent.proofs.due_table.note_overdue.Given as goal

abbrev pub invariant-loop-place : goal.invariant-loop-place
invariant-loop-place l = l.places.items ≡ l.initial.places.items ++ filter (is_overdue_at l.now l.correlation l.dues) (take l.place-index l.named)

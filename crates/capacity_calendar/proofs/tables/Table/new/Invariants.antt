use Rattle.std.proofs.Common.{◌≡◌, ◌≤◌, ℕ, [], length}
use Rattle.capacity_calendar.specs.Index.{timeline_at}
use Rattle.capacity_calendar.proofs.tables.Table.new.Given as goal

abbrev pub invariant-loop-n : goal.invariant-loop-n
invariant-loop-n l = record {
  empty : (stp : ℕ) → (timeline_at l.by_point.items stp).points ≡ [];
  room : l.n ≤ length l.by_point.items;
}

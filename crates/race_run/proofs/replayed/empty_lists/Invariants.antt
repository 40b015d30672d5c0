use Rattle.std.proofs.Common.{◌≡◌, ◌≤◌, ◌-◌, ℕ, [], length}
use Rattle.race_run.specs.Replay.{items_at}
use Rattle.race_run.proofs.replayed.empty_lists.Given as goal

abbrev pub invariant-lists : goal.invariant-lists
invariant-lists l = ((a : ℕ) → items_at l.found.items a ≡ []) × (length l.found.items ≤ l.count)

abbrev pub decreases-lists : goal.decreases-lists
decreases-lists l = l.count - length l.found.items

use Rattle.std.proofs.Common.{ℕ, ◌≤◌, ◌<◌, ◌-◌, length}
use Rattle.capacity_calendar.specs.Index.{second_at}
use Rattle.capacity_calendar.specs.Steps.{HasHalved}
use Rattle.capacity_calendar.proofs.index.Index.count_before.Given as goal

abbrev pub decreases-loop-low : goal.decreases-loop-low
decreases-loop-low g l = l.high - l.low

abbrev pub invariant-loop-low : goal.invariant-loop-low
invariant-loop-low g l = record {
  between : l.low ≤ l.high;
  within : l.high ≤ length l.self.points;
  before : (k : ℕ) → k < l.low → second_at l.self.points k < l.bound;
  after : (k : ℕ) → l.high ≤ k → k < length l.self.points → l.bound ≤ second_at l.self.points k;
  halved : HasHalved (length l.self.points) (l.high - l.low) l.fn.steps l.steps;
}

use Rattle.std.proofs.Common.{◌≡◌, ℕ, ◌≤◌, ◌<◌, ◌-◌, length, false}
use Rattle.capacity_calendar.specs.Load.{others}
use Rattle.capacity_calendar.specs.Lack.{is_lacking}
use Rattle.capacity_calendar.specs.Index.{second_at}
use Rattle.capacity_calendar.proofs.Quick.{HasWalked}
use Rattle.capacity_calendar.proofs.lack.first_second.Given as goal

abbrev pub decreases-loop-place : goal.decreases-loop-place
decreases-loop-place g l = length l.index.points - l.place

abbrev pub invariant-loop-place : goal.invariant-loop-place
invariant-loop-place g l = record {
  clear : (t : ℕ) → l.demand.interval.start ≤ t → t < l.demand.interval.end → ((k : ℕ) → l.place ≤ k → k < length l.index.points → t < second_at l.index.points k)
      → is_lacking l.demand.place (others l.demand.number l.bookings) l.demand.mbps t ≡ false;
  walked : HasWalked l.index.points l.demand.interval l.place l.fn.steps l.steps;
}

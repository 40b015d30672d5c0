use Rattle.std.proofs.Common.{◌≤◌, length, take}
use Rattle.capacity_calendar.specs.ByPoint.{AreByPoint}
use Rattle.capacity_calendar.proofs.capacities.Capacities.new.Given as goal

abbrev pub invariant-loop-capacity : goal.invariant-loop-capacity
invariant-loop-capacity l = record {
  room : 4096 ≤ length l.by_point.items;
  kept : AreByPoint (take l.capacity-index l.fn.all) l.by_point.items;
}

use Rattle.std.proofs.Common.{List, [], length, arith, sym, ap, subst}
use Rattle.std.proofs.lemmas.List.{length-replicate}
use Rattle.capacity_calendar.specs.declared.booking.PointCapacities.{PointCapacities}
use Rattle.capacity_calendar.specs.ByPoint.{nothing, AreByPoint}
use Rattle.capacity_calendar.proofs.ByPoint.{by_point-nothing}
use Rattle.capacity_calendar.proofs.capacities.Capacities.new.Goals as goal

pub loop-capacity-init : goal.loop-capacity-init
loop-capacity-init c = record {
  room = omega (arith, ap length c.in_ok-by_point.ensures, length-replicate 4096 nothing);
  kept = subst (λ (xs : List PointCapacities). AreByPoint [] xs) (sym c.in_ok-by_point.ensures) by_point-nothing;
}

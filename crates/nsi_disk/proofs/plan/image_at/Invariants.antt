use Rattle.std.proofs.Common.{◌≡◌, drop}
use Rattle.nsi_disk.specs.Plan.{planned_image}
use Rattle.nsi_disk.proofs.plan.image_at.Given as goal

abbrev pub invariant-loop-stop : goal.invariant-loop-stop
invariant-loop-stop l = planned_image l.call (drop l.stop-index l.stops) ≡ planned_image l.call l.stops

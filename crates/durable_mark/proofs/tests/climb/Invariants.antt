use Rattle.std.proofs.Common.{◌≡◌}
use Rattle.durable_mark.proofs.tests.climb.Given as goal

abbrev pub invariant-loop-step : goal.invariant-loop-step
invariant-loop-step l = l.seat.mark ≡ l.mark

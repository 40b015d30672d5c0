use Rattle.std.proofs.Common.{◌≡◌, drop}
use Rattle.provider_agent.specs.Ticks.{IsFreedBut}
use Rattle.provider_agent.proofs.tick.free_all.Given as goal

abbrev pub invariant-loop-place : goal.invariant-loop-place
invariant-loop-place l =
    record {
      capacities : l.calendar.capacities ≡ l.initial.calendar.capacities;
      but : IsFreedBut l.records l.calendar.bookings (drop l.place-index l.due);
    }

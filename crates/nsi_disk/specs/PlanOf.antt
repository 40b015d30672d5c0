use Rattle.std.specs.Prelude.{◌≤◌, length}
use Rattle.std.proofs.Common.{arith}
use Rattle.nsi_disk.specs.Plan.{Planned}
use Rattle.nsi_disk.specs.declared.plan.Plan.{Plan}

-- the plan of a disk in memory, as contracts see it
abbrev pub planned_of : Plan → Planned
planned_of p = record { calls = p.calls; faults = p.faults; stops = p.stopped; failing = p.failing.items; stopping = p.stops.items }

-- those that came are no more than those that were planned
pub stops_within : (p : Plan) → p.stopped ≤ length p.stops.items
stops_within p = let few = p.few_stops in omega (arith, few)

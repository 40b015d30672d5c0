use Rattle.std.proofs.Common.{◌≡◌, map, take}
use Rattle.aggregator_agent.specs.Asking.{view_of}
use Rattle.aggregator_agent.specs.Setting.{leg_of}
use Rattle.aggregator_agent.proofs.route.views_along.Given as goal

abbrev pub invariant-loop-segment : goal.invariant-loop-segment
invariant-loop-segment l = l.views.items ≡ map view_of (map (leg_of l.topology) (take l.segment-index l.segments))

use Rattle.std.proofs.Common.{◌≡◌, take}
use Rattle.net_run.specs.Begun.{stops_of}
use Rattle.net_run.proofs.opening.stops_of.Given as goal

abbrev pub invariant-loop-line : goal.invariant-loop-line
invariant-loop-line l = l.stops.items ≡ stops_of (take l.line-index l.lines) l.agent

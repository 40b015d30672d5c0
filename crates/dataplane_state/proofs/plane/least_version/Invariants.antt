use Rattle.std.proofs.Common.{◌≡◌, fold, drop}
use Rattle.std.specs.Prelude.{min}
use Rattle.dataplane_state.specs.Plane.{versions, least_version}
use Rattle.dataplane_state.proofs.plane.least_version.Given as goal

-- the least of the versions so far, and of those still to come, is the least of all
abbrev pub invariant-loop-child : goal.invariant-loop-child
invariant-loop-child l = fold min l.least (versions (drop l.child-index l.others)) ≡ least_version l.fn.children

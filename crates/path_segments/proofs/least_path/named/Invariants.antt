use Rattle.std.proofs.Common.{◌≡◌, take}
use Rattle.path_segments.specs.Named.{named}
use Rattle.path_segments.proofs.least_path.named.Given as goal

abbrev pub invariant-loop-segment : goal.invariant-loop-segment
invariant-loop-segment l = record { taken : l.segments.items ≡ named l.children (take l.segment-index l.placed) }

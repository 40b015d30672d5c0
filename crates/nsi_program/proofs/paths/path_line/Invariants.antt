use Rattle.std.proofs.Common.{◌≡◌, ◌++◌, drop, map, codes}
use Rattle.std.specs.List.{concat}
use Rattle.nsi_program.specs.Check.{segment_text}
use Rattle.nsi_program.proofs.paths.path_line.Given as goal

abbrev pub invariant-loop-segment : goal.invariant-loop-segment
invariant-loop-segment l = l.text.items ++ concat (map (segment_text l.topology) (drop l.segment-index l.segments)) ≡ codes "path" ++ concat (map (segment_text l.topology) l.segments)

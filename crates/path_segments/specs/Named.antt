-- Placed segments with their children.
use Rattle.std.specs.Prelude.{ℕ, List, map, get_or}
use Rattle.path_segments.specs.declared.path.PlacedSegment.{PlacedSegment}
use Rattle.path_segments.specs.declared.path.Segment.{Segment}

-- the segment with the child of that position
abbrev pub with_child : List ℕ → PlacedSegment → Segment
with_child children x = record { child = get_or children x.place 0; entry = x.entry; exit = x.exit }

-- the segments with the children of these positions
abbrev pub named : List ℕ → List PlacedSegment → List Segment
named children xs = map (with_child children) xs

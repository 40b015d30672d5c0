-- Which directions a connection books at its ends.
use Rattle.std.specs.Prelude.{Bool, ◌&&◌, ◌||◌}
use Rattle.nsi_base.specs.declared.flow.Flow.{Flow}

-- Where a point has one capacity, it is booked at both ends. Where it has two, the traffic goes in at the source and out at the destination, and the other way as well where the connection goes both ways.
abbrev pub books : Flow → (both_ways is_source is_dest : Bool) → Bool
books Flow.Both both s d = s || d
books Flow.In both s d = s || (both && d)
books Flow.Out both s d = d || (both && s)

-- What the printed text of a run tells.
use Rattle.std.specs.Prelude.{◌≡◌, List}
use Rattle.std.specs.List.{All}
use Rattle.nsi_primitive.specs.Ranges.{IsRangedEvent}
use Rattle.nsi_primitive.specs.declared.entry.Event.{Event}
use Rattle.stp_topology.specs.declared.network.Network.{Network}
use Rattle.trace_text.specs.Lines.{text_of}
use Rattle.trace_reader.specs.Laws.{HasNames}
use Rattle.nsi_agent.specs.Homes.{Routes, home_in}
use Rattle.nsi_world.specs.Runs.{IsRun}

-- The text of a run is of no other run: two runs by the agents of a topology that have one text are one. What the types of events say is
-- taken for granted: numbers within their ranges.
abbrev pub RunsAreTold : Type 0
RunsAreTold =
    (t : Network) (routes : Routes) (es fs : List Event) → HasNames t → IsRun (home_in t routes) es → IsRun (home_in t routes) fs
    → All IsRangedEvent es → All IsRangedEvent fs → text_of t es ≡ text_of t fs → es ≡ fs

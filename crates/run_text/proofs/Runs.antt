-- Each event of a run may stand in its text, where it stands.
use Rattle.std.proofs.Common.{◌≡◌, List, [], ◌∷◌}
use Rattle.std.specs.List.{All}
use Rattle.std.proofs.lemmas.List.Elements.{All-head, All-tail}
use Rattle.nsi_primitive.specs.Ranges.{IsRangedEvent}
use Rattle.nsi_primitive.specs.declared.entry.Event.{Event}
use Rattle.stp_topology.specs.declared.network.Network.{Network}
use Rattle.nsi_agent.specs.Homes.{Routes, home_in}
use Rattle.trace_reader.specs.Laws.{AreTextsReadAgain, GoOnBy}
use Rattle.trace_reader.proofs.Runs.{texts_apart}
use Rattle.nsi_world.specs.Worlds.{empty}
use Rattle.nsi_world.specs.Runs.{AreAllowed, IsRun, Wish, asks_of, numbered}
use Rattle.run_text.specs.Laws.{RunsAreTold}
use Rattle.run_text.proofs.Answering.{prints}
use Rattle.run_text.proofs.Moments.{Moment, second_at, number_at, moment_behind, next}
use Rattle.run_text.proofs.Places.{agent_within}

-- the events go on from a moment
abbrev GoOnFrom : Network → Routes → Moment → List Event → Type 0
GoOnFrom t routes x es = GoOnBy (second_at (home_in t routes)) number_at moment_behind t x es

go_on : (t : Network) (routes : Routes) (x : Moment) (es : List Event) (wishes : List Wish) → AreAllowed (home_in t routes) x.0 es → asks_of es ≡ numbered x.1 wishes → All IsRangedEvent es → GoOnFrom t routes x es
unfolding GoOnBy AreAllowed asks_of
go_on t routes x [] wishes are asked ranged = tt
go_on t routes x (e ∷ es) wishes are asked ranged =
    let now = next (home_in t routes) x e.agent e.what es wishes are.0.1 asked in (
      record {
        has_line = record { agent = agent_within t routes e.agent are.0.0; printable = prints t routes x.0 e.agent e.what are.0.1 };
        ranged = All-head IsRangedEvent e es ranged;
        of_moment = now.0;
      },
      go_on t routes (moment_behind x e) es now.1.0 are.1 now.1.1 (All-tail IsRangedEvent e es ranged),
    )

run_goes_on : (t : Network) (routes : Routes) (es : List Event) → IsRun (home_in t routes) es → All IsRangedEvent es → GoOnFrom t routes (empty, 0) es
run_goes_on t routes es run ranged = go_on t routes (empty, 0) es run.wishes run.allowed run.asked ranged

pub told_apart : AreTextsReadAgain → RunsAreTold
told_apart texts t routes es fs names left right ranged_left ranged_right same =
    texts_apart (second_at (home_in t routes)) number_at moment_behind texts t (empty, 0) es fs names
    (run_goes_on t routes es left ranged_left) (run_goes_on t routes fs right ranged_right) same

use Rattle.stp_topology.specs.Network.{partner_of}
use Rattle.path_segments.specs.Steps.{at, Hop, Holds}
use Rattle.path_segments.specs.Searches.{Grows, IsNoted}
use Rattle.path_segments.specs.ChildSearches.{AreSearches}
use Rattle.path_segments.proofs.search.at_exit.Given as goal

abbrev pub invariant-loop-place : goal.invariant-loop-place
invariant-loop-place l = record {
  grows : Grows l.grew l.fn.steps.items l.steps.items;
  hop : Hop (at l.steps.items) (partner_of l.search.topology.now) l.search.dest l.rest l.exit;
  holds : Holds l.search.topology.now l.search.depth l.search.children.now l.search.dest l.rest l.exit l.place l.steps.items;
  searches : AreSearches l.search.topology.now l.search.depth l.search.children.now (IsNoted (at l.steps.items)) l.searches.items;
}

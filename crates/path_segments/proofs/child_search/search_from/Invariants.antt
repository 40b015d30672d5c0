use Rattle.std.proofs.Common.{◌≡◌, ◌+◌, ◌*◌, length}
use Rattle.path_segments.specs.Steps.{at}
use Rattle.path_segments.specs.Searches.{Changes, Entry, Grows, Searching, marked, turns, what_remains}
use Rattle.path_segments.proofs.child_search.search_from.Given as goal

abbrev pub invariant-exits : goal.invariant-exits
invariant-exits l = record {
  same_length : length l.remaining.items ≡ length l.fn.remaining.items;
  grows : Grows l.grew l.fn.steps.items l.steps.items;
  changes : Changes (Entry l.area.topology.now (marked l.area.below.now) l.step) l.step (at l.fn.steps.items) (at l.steps.items);
  searching : Searching l.area.topology.now (marked l.area.below.now) l.step.exit (at l.steps.items) (what_remains l.remaining.items) l.exits.items;
}

abbrev pub decreases-exits : goal.decreases-exits
decreases-exits l = turns l.remaining.items * 4097 + length l.exits.items

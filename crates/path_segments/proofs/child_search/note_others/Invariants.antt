use Rattle.std.proofs.Common.{◌+◌, ◌≤◌, length, take}
use Rattle.path_segments.specs.Steps.{at}
use Rattle.path_segments.specs.Searches.{Enters, Grows}
use Rattle.path_segments.proofs.child_search.note_others.Given as goal

abbrev pub invariant-loop-point : goal.invariant-loop-point
invariant-loop-point l = record {
  grows : Grows l.grew l.fn.steps.items l.steps.items;
  enters : Enters l.topology l.step l.exit (take l.point-index l.points) (at l.fn.steps.items) (at l.steps.items) l.fn.exits.items l.exits.items;
  few : length l.exits.items ≤ length l.fn.exits.items + l.point-index;
}

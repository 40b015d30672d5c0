use Rattle.capacity_calendar.specs.Index.{IsRestated}
use Rattle.capacity_calendar.proofs.index.restate_between.Given as goal

abbrev pub invariant-loop-k : goal.invariant-loop-k
invariant-loop-k l = IsRestated l.place.flow l.place.stp l.before l.after l.from l.k l.fn.points.items l.points.items

use Rattle.std.proofs.Common.{List, subst}
use Rattle.path_segments.specs.declared.child_search.Remaining.{Remaining}
use Rattle.path_segments.specs.Steps.{at}
use Rattle.path_segments.specs.Searches.{IsReached, marked, what_remains}
use Rattle.path_segments.proofs.Searches.{search_none, search_end}
use Rattle.path_segments.proofs.child_search.note_entries.Goals as goal

pub returns-then-is_reached-clause-noted : goal.returns-then-is_reached-clause-noted
returns-then-is_reached-clause-noted c =
    search_none c.args.area.now.topology.now (marked c.args.area.now.below.now) c.args.step (at c.args.steps.now.items) (what_remains c.args.remaining.now.items) c.requires.paired
    (subst (λ (z : List Remaining). IsReached c.args.area.now.topology.now (marked c.args.area.now.below.now) (what_remains z) c.args.step.exit) c.deref.ensures.value (c.is_reached.ensures c.if-is_reached.true)) c.requires.closed

pub returns-clause-noted : goal.returns-clause-noted
returns-clause-noted c =
    search_end c.args.area.now.topology.now (marked c.args.area.now.below.now) c.args.step (at c.search_from.new.steps.items) (what_remains c.search_from.new.remaining.items) c.requires.paired c.in_ok-grew.ensures.searching

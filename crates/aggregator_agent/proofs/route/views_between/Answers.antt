use Rattle.std.proofs.Common.{List, [], sym, subst, rules}
use Rattle.std.specs.List.{All}
use Rattle.path_segments.specs.declared.path.Segment.{Segment}
use Rattle.path_segments.specs.Paths.{IsKnown}
use Rattle.path_segments.proofs.Known.{path_known}
use Rattle.aggregator_agent.specs.Asking.{views_of}
use Rattle.aggregator_agent.proofs.route.views_between.Goals as goal

pub views_along-requires : goal.views_along-requires
views_along-requires c =
    let P : List Segment → Type 0 = λ xs. All (IsKnown c.args.topology.now) xs in
    subst P (sym c.items.ensures) (path_known c.args.topology.now c.facts.ensures c.args.aggregator c.args.source c.args.dest c.in-Ok.path.segments c.in-Ok.ensures.path)

pub returns-then-get-stps-clause-some : goal.returns-then-get-stps-clause-some
unfolding views_of
returns-then-get-stps-clause-some c = ([], search rules)

pub returns-in-Err-NoPath-clause-some : goal.returns-in-Err-NoPath-clause-some
unfolding views_of
returns-in-Err-NoPath-clause-some c = ([], search rules)

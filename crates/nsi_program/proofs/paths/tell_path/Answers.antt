use Rattle.std.proofs.Common.{List, sym, subst}
use Rattle.std.specs.List.{All}
use Rattle.path_segments.specs.declared.path.Segment.{Segment}
use Rattle.path_segments.specs.Paths.{IsKnown}
use Rattle.path_segments.proofs.Known.{path_known}
use Rattle.nsi_program.proofs.paths.tell_path.Goals as goal

pub path_line-requires : goal.path_line-requires
path_line-requires c =
    let P : List Segment → Type 0 = λ xs. All (IsKnown c.args.topology.now) xs in
    subst P (sym c.items.ensures) (path_known c.args.topology.now c.facts.ensures c.args.wanted.now.aggregator c.args.wanted.now.source c.args.wanted.now.dest c.in-Ok.path.segments c.in-Ok.ensures.path)

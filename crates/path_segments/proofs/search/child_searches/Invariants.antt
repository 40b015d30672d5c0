use Rattle.std.proofs.Common.{take}
use Rattle.path_segments.specs.ChildSearches.{AreSearches}
use Rattle.path_segments.proofs.search.child_searches.Given as goal

abbrev pub invariant-loop-child : goal.invariant-loop-child
invariant-loop-child l = record {
  searches : AreSearches l.topology l.depth (take l.child-index l.children) (λ p. ⊥) l.searches.items;
}

use Rattle.std.proofs.Common.{◌≡◌, ℕ, List, [], ◌∷◌, ◌++◌, ◌+◌, suc, take, sym, ◌∙◌, ap, subst, arith}
use Rattle.std.proofs.Math.Seq.{take-suc}
use Rattle.path_segments.specs.ChildSearches.{AreSearches}
use Rattle.path_segments.proofs.ChildSearches.{searches_push, search_start}
use Rattle.path_segments.proofs.search.child_searches.Goals as goal

pub loop-child-preserved : goal.loop-child-preserved
loop-child-preserved c =
    let n : suc c.loop-child.child-index ≡ c.loop-child.child-index + 1 = omega arith in
    let next : take c.loop-child.child-index c.args.children.now ++ (c.child-item.result ∷ []) ≡ take (c.loop-child.child-index + 1) c.args.children.now =
    ap (λ z. take c.loop-child.child-index c.args.children.now ++ z ∷ []) c.child-item.is ∙ (sym (take-suc c.args.children.now c.loop-child.child-index c.child-item.result c.loop-child-test.true) ∙ ap (λ k. take k c.args.children.now) n) in
    record {
      searches = rw c.in_ok-push.ensures.items (subst (λ (z : List ℕ). AreSearches c.args.topology.now c.args.depth z (λ p. ⊥) (c.loop-child.searches.items ++ c.in_ok-child_search.field-0 ∷ [])) next
          (searches_push c.args.topology.now c.args.depth (take c.loop-child.child-index c.args.children.now) (λ p. ⊥) c.loop-child.searches.items c.child-item.result c.in_ok-child_search.field-0
          (search_start c.args.topology.now c.args.depth c.child-item.result (λ p. ⊥) c.in_ok-child_search.field-0 c.in_ok-child_search.ensures.below c.in_ok-child_search.ensures.remaining) c.loop-child.invariant.searches));
    }

use Rattle.std.proofs.Common.{◌≡◌, ℕ, List, Some, slice_get, ◌∙◌, subst, ap}
use Rattle.path_segments.specs.declared.path.PlacedSegment.{PlacedSegment}
use Rattle.path_segments.specs.Paths.{greatest_rank}
use Rattle.path_segments.specs.Named.{named}
use Rattle.path_segments.proofs.Sound.{is_fit, are_mutual, are_leaves, are_agents}
use Rattle.path_segments.proofs.Named.{segments_within, answer_path, answer_least}
use Rattle.path_segments.proofs.least_path.find.Goals as goal

pub least-requires-clause-fit : goal.least-requires-clause-fit
least-requires-clause-fit c = is_fit c.args.topology.now c.facts.ensures

pub least-requires-clause-paired : goal.least-requires-clause-paired
least-requires-clause-paired c = are_mutual c.args.topology.now c.facts.ensures

pub least-requires-clause-leaves : goal.least-requires-clause-leaves
least-requires-clause-leaves c = are_leaves c.args.topology.now c.facts.ensures

pub least-requires-clause-agents : goal.least-requires-clause-agents
least-requires-clause-agents c = are_agents c.args.topology.now c.facts.ensures

pub least-requires-clause-are_agents : goal.least-requires-clause-are_agents
least-requires-clause-are_agents c = λ i k h.
    are_agents c.args.topology.now c.facts.ensures c.args.aggregator i k (subst (λ (z : List ℕ). slice_get z i ≡ Some k) c.children-children.ensures h)

pub named-requires : goal.named-requires
named-requires c =
    record {
      within = λ i x h.
          let w = segments_within c.args.topology.now (is_fit c.args.topology.now c.facts.ensures) greatest_rank c.children-children.result.now c.get.result c.get-2.result c.in_ok-placed.placed.items c.in_ok-placed.ensures.path i x
          (subst (λ (z : List PlacedSegment). slice_get z i ≡ Some x) c.deref.ensures.value h) in
          (w.0, w.1, w.2);
    }

pub returns-clause-path : goal.returns-clause-path
returns-clause-path c =
    let segments : c.from_items.result ≡ named c.children-children.result.now c.in_ok-placed.placed.items = c.from_items.ensures ∙ c.in-Ok.ensures ∙ ap (named c.children-children.result.now) c.deref.ensures.value in
    answer_path c.args.topology.now c.args.aggregator c.args.source c.args.dest c.children-children.result.now c.in_ok-placed.placed.items c.from_items.result c.children-children.ensures segments
    (rw (← c.get.ensures.value, ← c.get-2.ensures.value) c.in_ok-placed.ensures.path) (rw (← c.get.ensures.value, ← c.get-2.ensures.value) c.in_ok-placed.ensures.least)

pub returns-clause-least : goal.returns-clause-least
returns-clause-least c = λ other path less.
    let segments : c.from_items.result ≡ named c.children-children.result.now c.in_ok-placed.placed.items = c.from_items.ensures ∙ c.in-Ok.ensures ∙ ap (named c.children-children.result.now) c.deref.ensures.value in
    answer_least c.args.topology.now c.args.aggregator c.args.source c.args.dest c.children-children.result.now c.in_ok-placed.placed.items c.from_items.result c.children-children.ensures segments
    (rw (← c.get.ensures.value, ← c.get-2.ensures.value) c.in_ok-placed.ensures.path) (rw (← c.get.ensures.value, ← c.get-2.ensures.value) c.in_ok-placed.ensures.least) other path less

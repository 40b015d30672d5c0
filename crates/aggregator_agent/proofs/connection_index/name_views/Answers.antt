use Rattle.std.proofs.Common.{subst}
use Rattle.std.specs.List.{All}
use Rattle.std.proofs.lemmas.List.{take_all}
use Rattle.std.proofs.lemmas.List.Elements.{All-more}
use Rattle.aggregator_agent.specs.Indexed.{IsViewNamed}
use Rattle.aggregator_agent.proofs.Found.{view_grown}
use Rattle.aggregator_agent.proofs.connection_index.name_views.Goals as goal

pub loop-child-preserved : goal.loop-child-preserved
loop-child-preserved c =
    let xs = c.args.children.now in
    let i = c.loop-child.child-index in
    let x = c.child-item.result in
    let more = c.name_view.ensures.grows in
    record {
      grows = λ y has. more y (c.loop-child.invariant.grows y has);
      named = All-more (IsViewNamed c.name_view.new.ids c.args.place) xs i x c.loop-child-test.true
          (λ k d l. view_grown c.loop-child.ids c.name_view.new.ids c.args.place _ more (c.loop-child.invariant.named k d l))
          (subst (IsViewNamed c.name_view.new.ids c.args.place) c.child-item.is c.in_ok-name_view.ensures.named);
    }

pub returns-clause-named : goal.returns-clause-named
returns-clause-named c =
    subst (All (IsViewNamed c.loop-child.ids c.args.place)) (take_all c.loop-child.child-index c.args.children.now c.loop-child-test.false) c.loop-child.invariant.named

use Rattle.std.proofs.Common.{◌∙◌, false, [], ◌∷◌, take}
use Rattle.std.specs.List.{list_any, flat_map}
use Rattle.nsi_query.specs.Nested.{below, lacks_rows}
use Rattle.nsi_query.proofs.Behind.{child_more}
use Rattle.nsi_query.proofs.nested.nest.Goals as goal

pub loop-child-init : goal.loop-child-init
loop-child-init c = c.in_ok-add.ensures false [] c.new-found.ensures

pub loop-child-preserved : goal.loop-child-preserved
loop-child-preserved c =
    let children = c.args.children.now in
    let seen = take c.loop-child.child-index children in
    c.in_ok-add_child.ensures (list_any lacks_rows seen) (c.args.own ∷ flat_map below seen) c.loop-child.invariant
    ∙ child_more c.args.own children c.loop-child.child-index c.child-item.result c.loop-child-test.true c.child-item.is

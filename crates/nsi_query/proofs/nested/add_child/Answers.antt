use Rattle.std.proofs.Common.{◌∙◌, ◌||◌, ◌++◌, take}
use Rattle.nsi_query.specs.Nested.{deepened, reach_too_deep}
use Rattle.nsi_query.proofs.Behind.{deeper_more}
use Rattle.nsi_query.proofs.nested.add_child.Goals as goal

pub loop-row-preserved : goal.loop-row-preserved
loop-row-preserved c missing all before =
    let rows = c.items-row-items.result.now in
    let more = c.args.child.now.more in
    let seen = take c.loop-row.row-index rows in
    c.in_ok-add_deeper.ensures (missing || (more || reach_too_deep seen)) (all ++ deepened seen) (c.loop-row.invariant missing all before)
    ∙ deeper_more missing more all rows c.loop-row.row-index c.row-item.result c.loop-row-test.true c.row-item.is

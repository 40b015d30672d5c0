use Rattle.std.proofs.Common.{◌+◌, false, true, replicate}
use Rattle.stp_topology.proofs.MarkLemmas.{over_none, over_more}
use Rattle.stp_topology.proofs.child_lines.tops.Goals as goal

pub loop-n-init : goal.loop-n-init
loop-n-init c = λ x.
    let kinds = c.args.kinds.now in
    let pairs = c.args.pairs.now in
    over_more kinds pairs (replicate 64 true) c.parents_of_aggregators-marked.result 0 true (over_none kinds pairs) (c.parents_of_aggregators-marked.ensures true) x

pub loop-n-preserved : goal.loop-n-preserved
loop-n-preserved c = λ x.
    over_more c.args.kinds.now c.args.pairs.now c.loop-n.marked c.parents_of_aggregators-marked-in-loop-n.result (c.loop-n.n + 1) false c.loop-n.invariant (c.parents_of_aggregators-marked-in-loop-n.ensures false) x

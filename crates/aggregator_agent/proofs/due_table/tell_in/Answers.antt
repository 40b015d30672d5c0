use Rattle.aggregator_agent.proofs.ToldAt.{told_at}
use Rattle.aggregator_agent.proofs.due_table.tell_in.Goals as goal

pub loop-place-preserved : goal.loop-place-preserved
loop-place-preserved c =
    let l = c.loop-place in
    told_at c.args.places.now c.args.dues.now.items l.dues.items l.place-index c.index_mut.result.now c.loop-place-test.true c.requires c.index_mut.ensures.value l.invariant

use Rattle.std.proofs.Common.{inr, get_or}
use Rattle.aggregator_agent.specs.Indexed.{id_at}
use Rattle.aggregator_agent.proofs.Found.{added_stays}
use Rattle.aggregator_agent.proofs.Overdue.{named_one}
use Rattle.aggregator_agent.proofs.due_table.name_from.Goals as goal

pub returns-in_err-add-clause-grows : goal.returns-in_err-add-clause-grows
returns-in_err-add-clause-grows c x has =
    let l = c.loop-place in
    added_stays c.add.result l.ids c.add.new.self (id_at (get_or c.args.dues.now l.place c.index-dues-place.result).correlation l.place) c.add.ensures.ok c.add.ensures.err x (l.invariant.grows x has)

pub loop-place-preserved : goal.loop-place-preserved
loop-place-preserved c =
    let l = c.loop-place in
    record {
      grows = λ x has. (c.in_ok-add.ensures.ok x).1 (inr (l.invariant.grows x has));
      named = named_one c.args.first l.place l.ids c.add.new.self c.args.dues.now c.index-dues-place.result c.loop-place-test.true c.in_ok-add.ensures.ok l.invariant.named;
    }

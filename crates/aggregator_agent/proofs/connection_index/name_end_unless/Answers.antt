use Rattle.std.proofs.Common.{inr, subst}
use Rattle.std.specs.List.{Contains}
use Rattle.aggregator_agent.specs.Indexed.{end_at}
use Rattle.aggregator_agent.proofs.Found.{added_stays, added_there, ok_more}
use Rattle.aggregator_agent.proofs.connection_index.name_end_unless.Goals as goal

pub returns-else-is_end-clause-grows : goal.returns-else-is_end-clause-grows
returns-else-is_end-clause-grows c = added_stays c.add.result c.args.ends.now c.add.new.self (end_at c.get.result c.args.place) c.add.ensures.ok c.add.ensures.err

pub returns-else-is_end-clause-named : goal.returns-else-is_end-clause-named
returns-else-is_end-clause-named c =
    ok_more _ _ c.add.result (λ has. inr (subst (λ e. Contains c.add.new.self (end_at e c.args.place)) c.get.ensures.value has))
    (added_there c.add.result c.args.ends.now c.add.new.self (end_at c.get.result c.args.place) c.add.ensures.ok)

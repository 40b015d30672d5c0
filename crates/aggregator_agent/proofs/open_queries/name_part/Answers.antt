use Rattle.std.proofs.Common.{sym, subst}
use Rattle.aggregator_agent.specs.Indexed.{id_at}
use Rattle.aggregator_agent.specs.OpenTable.{IsPartNamed}
use Rattle.aggregator_agent.proofs.Found.{added_stays, added_there, ok_more}
use Rattle.aggregator_agent.proofs.open_queries.name_part.Goals as goal

pub returns-in-Asked-clause-grows : goal.returns-in-Asked-clause-grows
returns-in-Asked-clause-grows c = added_stays c.add.result c.args.ids.now c.add.new.self (id_at c.in-Asked.correlation c.args.number) c.add.ensures.ok c.add.ensures.err

pub returns-in-Asked-clause-named : goal.returns-in-Asked-clause-named
returns-in-Asked-clause-named c =
    ok_more _ _ c.add.result (λ has. subst (IsPartNamed c.add.new.self c.args.number) (sym c.in-Asked.is) has)
    (added_there c.add.result c.args.ids.now c.add.new.self (id_at c.in-Asked.correlation c.args.number) c.add.ensures.ok)

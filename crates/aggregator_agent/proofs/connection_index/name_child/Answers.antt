use Rattle.std.proofs.Common.{◌∙◌, IfSome, sym, subst}
use Rattle.std.specs.List.{Contains}
use Rattle.aggregator_agent.specs.Indexed.{id_at}
use Rattle.aggregator_agent.proofs.Found.{added_stays, added_there, ok_more}
use Rattle.aggregator_agent.proofs.connection_index.name_child.Goals as goal

pub returns-in-Some-clause-grows : goal.returns-in-Some-clause-grows
returns-in-Some-clause-grows c = added_stays c.add.result c.args.ids.now c.add.new.self (id_at (c.in-Some.id) c.args.place) c.add.ensures.ok c.add.ensures.err

pub returns-in-Some-clause-named : goal.returns-in-Some-clause-named
returns-in-Some-clause-named c =
    ok_more _ _ c.add.result (λ has. subst (λ o. IfSome o (λ i. Contains c.add.new.self (id_at i c.args.place))) (sym c.in-Some.is ∙ c.connection.ensures) has)
    (added_there c.add.result c.args.ids.now c.add.new.self (id_at (c.in-Some.id) c.args.place) c.add.ensures.ok)

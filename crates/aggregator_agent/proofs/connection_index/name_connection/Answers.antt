use Rattle.std.proofs.Common.{inl, refl, subst}
use Rattle.std.specs.Prelude.{OnOk}
use Rattle.std.specs.List.{All}
use Rattle.aggregator_agent.specs.Bonds.{bond}
use Rattle.aggregator_agent.specs.Indexed.{id_at, IsViewNamed}
use Rattle.aggregator_agent.proofs.Found.{added_stays, name_of_all}
use Rattle.aggregator_agent.proofs.connection_index.name_connection.Goals as goal

pub returns-clause-grows : goal.returns-clause-grows
returns-clause-grows c x has =
    c.name_views.ensures.grows x (added_stays c.add.result c.args.ids.now c.add.new.self (id_at c.args.connection.now.own.id c.args.place) c.add.ensures.ok c.add.ensures.err x has)

pub returns-clause-named : goal.returns-clause-named
returns-clause-named c =
    let own = id_at c.args.connection.now.own.id c.args.place in
    name_of_all c.name_views.result c.args.place (bond c.args.connection.now) c.add.new.self c.name_views.new.ids c.name_views.ensures.grows ((c.in_ok-add.ensures.ok own).1 (inl refl))
    (subst (λ xs. OnOk c.name_views.result (All (IsViewNamed c.name_views.new.ids c.args.place) xs)) c.deref.ensures.value c.name_views.ensures.named)

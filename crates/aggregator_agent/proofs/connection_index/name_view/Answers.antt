use Rattle.aggregator_agent.proofs.Found.{view_named}
use Rattle.aggregator_agent.proofs.connection_index.name_view.Goals as goal

pub returns-in_err-name_child-clause-grows : goal.returns-in_err-name_child-clause-grows
returns-in_err-name_child-clause-grows c = λ x has. c.name_child.ensures.grows x has

pub returns-in_err-name_attempt-clause-grows : goal.returns-in_err-name_attempt-clause-grows
returns-in_err-name_attempt-clause-grows c = λ x has. c.name_attempt.ensures.grows x (c.name_child.ensures.grows x has)

pub returns-in_err-name_reserve-clause-grows : goal.returns-in_err-name_reserve-clause-grows
returns-in_err-name_reserve-clause-grows c = λ x has. c.name_reserve.ensures.grows x (c.name_attempt.ensures.grows x (c.name_child.ensures.grows x has))

pub returns-in_err-name_provision-clause-grows : goal.returns-in_err-name_provision-clause-grows
returns-in_err-name_provision-clause-grows c = λ x has. c.name_provision.ensures.grows x (c.name_reserve.ensures.grows x (c.name_attempt.ensures.grows x (c.name_child.ensures.grows x has)))

pub returns-clause-grows : goal.returns-clause-grows
returns-clause-grows c = λ x has. c.name_lifecycle.ensures.grows x (c.name_provision.ensures.grows x (c.name_reserve.ensures.grows x (c.name_attempt.ensures.grows x (c.name_child.ensures.grows x has))))

pub returns-clause-named : goal.returns-clause-named
returns-clause-named c =
    view_named c.name_lifecycle.result c.args.place c.args.child.now c.name_child.new.ids c.name_attempt.new.ids c.name_reserve.new.ids c.name_provision.new.ids c.name_lifecycle.new.ids
    c.name_attempt.ensures.grows c.name_reserve.ensures.grows c.name_provision.ensures.grows c.name_lifecycle.ensures.grows
    c.in_ok-name_child.ensures.named c.in_ok-name_attempt.ensures.named c.in_ok-name_reserve.ensures.named c.in_ok-name_provision.ensures.named c.name_lifecycle.ensures.named

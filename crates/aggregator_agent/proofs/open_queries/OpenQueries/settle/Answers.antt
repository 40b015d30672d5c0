use Rattle.aggregator_agent.proofs.OpenTold.{replaced_named, answered_named}
use Rattle.aggregator_agent.proofs.open_queries.OpenQueries.settle.Goals as goal

pub invariant_of-self : goal.invariant_of-self
invariant_of-self c =
    let o = c.self.inside in
    replaced_named o.ids o.queries.entries c.args.self.now c.replace.new.queries.entries c.args.told c.in-Some.field-0 c.self.view_is c.in-Some.is c.requires c.replace.ensures c.self.invariant

pub invariant_of-self-else-waits : goal.invariant_of-self-else-waits
invariant_of-self-else-waits c =
    let o = c.self.inside in
    answered_named o.ids o.queries.entries c.remove-answered.new.self.entries c.in-Some.field-0.number c.remove-answered.ensures.entries c.self.invariant

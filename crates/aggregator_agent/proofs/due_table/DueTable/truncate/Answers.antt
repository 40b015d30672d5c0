use Rattle.std.proofs.Common.{sym, subst}
use Rattle.aggregator_agent.specs.Dues.{AreDuesNamed}
use Rattle.aggregator_agent.proofs.Overdue.{front_named}
use Rattle.aggregator_agent.proofs.due_table.DueTable.truncate.Goals as goal

pub invariant_of-self : goal.invariant_of-self
invariant_of-self c =
    let t = c.self.inside in
    subst (AreDuesNamed t.ids) (sym c.truncate.ensures.items) (front_named t.ids t.items.items c.args.count c.self.invariant)

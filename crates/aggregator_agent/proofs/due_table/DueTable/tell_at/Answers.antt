use Rattle.aggregator_agent.proofs.ToldAt.{told_named}
use Rattle.aggregator_agent.proofs.due_table.DueTable.tell_at.Goals as goal

pub invariant_of-self : goal.invariant_of-self
invariant_of-self c =
    let t = c.self.inside in
    told_named t.ids c.args.places.now t.items.items c.tell_in.new.dues.items c.tell_in.ensures c.self.invariant

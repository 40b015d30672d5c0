use Rattle.aggregator_agent.proofs.OpenTold.{popped, popped_named}
use Rattle.aggregator_agent.proofs.open_queries.OpenQueries.take_back.Goals as goal

pub invariant_of-self : goal.invariant_of-self
invariant_of-self c =
    let o = c.self.inside in
    popped_named o.ids o.queries.entries c.pop_last-last.new.self.entries c.pop_last-last.result c.pop_last-last.ensures.removal c.pop_last-last.ensures.unchanged c.self.invariant

pub returns : goal.returns
returns c =
    let o = c.self.inside in
    rw (← c.self.view_is) (popped o.queries.entries c.pop_last-last.new.self.entries c.pop_last-last.result c.pop_last-last.ensures.variant c.pop_last-last.ensures.removal)

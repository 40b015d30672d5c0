use Rattle.aggregator_agent.proofs.connection_table.ConnectionTable.open.Goals as goal

pub invariant_of-self : goal.invariant_of-self
invariant_of-self c = c.open_in.ensures.table

pub returns-clause-by : goal.returns-clause-by
returns-clause-by c = rw (← c.self.view_is) c.open_in.ensures.by

pub returns-clause-some : goal.returns-clause-some
returns-clause-some c = rw (← c.self.view_is) c.open_in.ensures.some

pub returns-clause-back : goal.returns-clause-back
returns-clause-back c = rw (← c.self.view_is) c.open_in.ensures.back

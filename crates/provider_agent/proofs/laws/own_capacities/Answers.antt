use Rattle.provider_agent.proofs.Capacities.{own_capacity, no_other, within_topology}
use Rattle.provider_agent.proofs.laws.own_capacities.Goals as goal

pub returns-clause-own : goal.returns-clause-own
returns-clause-own c = own_capacity

pub returns-clause-others : goal.returns-clause-others
returns-clause-others c = no_other

pub returns-clause-within : goal.returns-clause-within
returns-clause-within c = within_topology

use Rattle.circuit_link.proofs.Aggregators.{aggregator_serves}
use Rattle.circuit_link.proofs.Providers.{provider_serves}
use Rattle.circuit_link.proofs.laws.every_service.Goals as goal

pub returns-clause-provider : goal.returns-clause-provider
returns-clause-provider c = provider_serves

pub returns-clause-aggregator : goal.returns-clause-aggregator
returns-clause-aggregator c = aggregator_serves

use Rattle.circuit_pairs.proofs.Aggregators.{aggregator_pair}
use Rattle.circuit_pairs.proofs.Requesters.{requester_pair}
use Rattle.circuit_pairs.proofs.laws.every_parent.Goals as goal

pub returns-clause-requester : goal.returns-clause-requester
returns-clause-requester c = requester_pair

pub returns-clause-aggregator : goal.returns-clause-aggregator
returns-clause-aggregator c = λ setting child d asked s e fair once even fresh said pair. aggregator_pair setting child d fair asked s e even fresh once said pair

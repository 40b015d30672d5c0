use Rattle.race_tests.proofs.Owed.{same_network}
use Rattle.race_tests.proofs.racing.networks.Goals as goal

pub returns : goal.returns
returns c = same_network _ _ _ c.in_ok-topology.ensures c.in_ok-own.ensures

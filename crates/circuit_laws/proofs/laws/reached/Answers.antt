use Rattle.circuit_laws.proofs.OneWay.{topology, way_of}
use Rattle.circuit_laws.proofs.AggregatorRun.{events, it_reaches_a_circuit}
use Rattle.circuit_laws.proofs.laws.reached.Goals as goal

pub returns : goal.returns
returns c =
    let (given, are) = c.routes_exist.ensures.exist topology in
    (topology, way_of given, events, it_reaches_a_circuit given c.least_path_or_none.ensures are)

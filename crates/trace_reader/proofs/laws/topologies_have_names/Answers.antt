use Rattle.trace_reader.proofs.Named.{has_names}
use Rattle.trace_reader.proofs.laws.topologies_have_names.Goals as goal

pub returns : goal.returns
returns c = λ text t place h. has_names text t place (c.every_topology.ensures.well_formed text t place h) h

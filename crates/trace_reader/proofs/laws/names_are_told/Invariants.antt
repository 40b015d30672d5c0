use Rattle.std.proofs.Common.{ℕ, ◌<◌}
use Rattle.nsi_primitive.specs.Ranges.{IsName}
use Rattle.stp_topology.specs.Network.{name_of}
use Rattle.trace_reader.proofs.laws.names_are_told.Given as goal

abbrev pub invariant-loop-place : goal.invariant-loop-place
invariant-loop-place l = (a : ℕ) → a < l.place → IsName (name_of l.topology a)

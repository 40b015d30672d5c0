use Rattle.std.proofs.Common.{◌≡◌, drop}
use Rattle.nsi_primitive.specs.Kinds.{first_named}
use Rattle.nsi_primitive.proofs.kind.first_named.Given as goal

abbrev pub invariant-loop-kind : goal.invariant-loop-kind
invariant-loop-kind l = first_named l.name l.kinds ≡ first_named l.name (drop l.kind-index l.kinds)

use Rattle.std.proofs.Common.{◌≡◌, take}
use Rattle.nsi_query.specs.Nested.{nest}
use Rattle.nsi_query.proofs.nested.nest.Given as goal

abbrev pub invariant-loop-child : goal.invariant-loop-child
invariant-loop-child l = l.found ≡ nest l.fn.own (take l.child-index l.children)

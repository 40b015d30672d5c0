use Rattle.std.proofs.Common.{◌≡◌, drop}
use Rattle.nsi_base.specs.Digits.{value_from}
use Rattle.nsi_base.proofs.digits.number_of.Given as goal

abbrev pub invariant-loop-b : goal.invariant-loop-b
invariant-loop-b l = value_from l.n (drop l.b-index l.word) ≡ value_from 0 l.word

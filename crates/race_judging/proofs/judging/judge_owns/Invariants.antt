use Rattle.std.proofs.Common.{take, All}
use Rattle.race_judging.specs.Pairs.{AreSame}
use Rattle.race_judging.specs.Verdicts.{found_pair}
use Rattle.race_judging.proofs.judging.judge_owns.Given as goal

abbrev pub invariant-loop-own : goal.invariant-loop-own
invariant-loop-own l = All (λ o. AreSame (found_pair l.found o)) (take l.own-index l.owns)

use Rattle.std.proofs.Common.{◌≡◌, take, filter}
use Rattle.nsi_query.specs.Cut.{cut, most_numbered}
use Rattle.nsi_query.specs.Counted.{is_outcome_within}
use Rattle.nsi_query.proofs.counted.results.Given as goal

abbrev pub invariant-loop-outcome : goal.invariant-loop-outcome
invariant-loop-outcome l = l.found ≡ cut most_numbered (filter (is_outcome_within l.from l.to) (take l.outcome-index l.outcome-items))

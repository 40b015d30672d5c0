use Rattle.std.proofs.Common.{◌≡◌, take}
use Rattle.std.specs.List.{zip}
use Rattle.nsi_query.specs.Summary.{summary}
use Rattle.nsi_query.proofs.summaries.summary.Given as goal

abbrev pub invariant-loop-place : goal.invariant-loop-place
invariant-loop-place l = l.found ≡ summary l.requester (take l.place (zip l.all l.planes))

use Rattle.std.proofs.Common.{◌≡◌, map, take}
use Rattle.nsi_query.specs.Answers.{shown_at}
use Rattle.nsi_query.specs.Summary.{summary}
use Rattle.nsi_query.proofs.summaries.summary_at.Given as goal

abbrev pub invariant-loop-of : goal.invariant-loop-of
invariant-loop-of l = l.found ≡ summary l.requester (map (shown_at l.now) (take l.of-index l.all))

use Rattle.std.proofs.Common.{◌≡◌, take, filter}
use Rattle.nsi_query.specs.Cut.{cut, most_numbered}
use Rattle.nsi_query.specs.Counted.{is_notice_within}
use Rattle.nsi_query.proofs.counted.notifications.Given as goal

abbrev pub invariant-loop-notice : goal.invariant-loop-notice
invariant-loop-notice l = l.found ≡ cut most_numbered (filter (is_notice_within l.from l.to) (take l.notice-index l.notice-items))

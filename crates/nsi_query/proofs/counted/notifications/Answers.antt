use Rattle.std.proofs.Common.{◌∙◌, sym, ap, false, take, filter, rules}
use Rattle.nsi_query.specs.Cut.{cut, most_numbered}
use Rattle.nsi_query.specs.Counted.{is_notice_within}
use Rattle.nsi_query.proofs.Behind.{kept, left}
use Rattle.nsi_query.proofs.counted.notifications.Goals as goal
use Rattle.nsi_query.proofs.counted.notifications.Goals.{then-is_within+in_ok-add, else-is_within}

pub loop-notice-preserved : goal.loop-notice-preserved
loop-notice-preserved c =
    let test = is_notice_within c.args.from c.args.to in
    let all = c.items-notice-items.result.now in
    let i = c.loop-notice.notice-index in
    let item = c.notice-item.result in
    elim c.if-is_within.branch [
      | then-is_within+in_ok-add w ↦
          w.found-is ∙ w.in_ok-add.ensures false (filter test (take i all)) c.loop-notice.invariant
          ∙ ap (cut most_numbered) (sym (kept test all i item c.loop-notice-test.true c.notice-item.is (search rules)))
      | else-is_within w ↦
          w.found-is ∙ c.loop-notice.invariant
          ∙ ap (cut most_numbered) (sym (left test all i item c.loop-notice-test.true c.notice-item.is (search rules)))
    ]

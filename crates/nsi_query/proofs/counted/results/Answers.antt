use Rattle.std.proofs.Common.{◌∙◌, sym, ap, false, take, filter, rules}
use Rattle.nsi_query.specs.Cut.{cut, most_numbered}
use Rattle.nsi_query.specs.Counted.{is_outcome_within}
use Rattle.nsi_query.proofs.Behind.{kept, left}
use Rattle.nsi_query.proofs.counted.results.Goals as goal
use Rattle.nsi_query.proofs.counted.results.Goals.{then-is_within+in_ok-add, else-is_within}

pub loop-outcome-preserved : goal.loop-outcome-preserved
loop-outcome-preserved c =
    let test = is_outcome_within c.args.from c.args.to in
    let all = c.items-outcome-items.result.now in
    let i = c.loop-outcome.outcome-index in
    let item = c.outcome-item.result in
    elim c.if-is_within.branch [
      | then-is_within+in_ok-add w ↦
          w.found-is ∙ w.in_ok-add.ensures false (filter test (take i all)) c.loop-outcome.invariant
          ∙ ap (cut most_numbered) (sym (kept test all i item c.loop-outcome-test.true c.outcome-item.is (search rules)))
      | else-is_within w ↦
          w.found-is ∙ c.loop-outcome.invariant
          ∙ ap (cut most_numbered) (sym (left test all i item c.loop-outcome-test.true c.outcome-item.is (search rules)))
    ]

use Rattle.std.proofs.Common.{◌∙◌, ◌++◌, ◌∷◌, [], sym, ap, false, map, filter, rules}
use Rattle.nsi_primitive.specs.declared.message.SummaryRow.{SummaryRow}
use Rattle.nsi_query.specs.declared.rows.Rows.{Rows}
use Rattle.nsi_query.specs.Cut.{cut, most_summaries}
use Rattle.nsi_query.specs.Summary.{is_of, summary_row}
use Rattle.nsi_query.proofs.Behind.{own_more, others_more, none_more}
use Rattle.nsi_query.proofs.summaries.add_own.Goals as goal
use Rattle.nsi_query.proofs.summaries.add_own.Goals.{then-found-via-then-found, then-found-via-else-found+then-not-is}

pub returns-then-found : goal.returns-then-found
returns-then-found c before is =
    let owner = c.args.requester.now in
    elim c.then-found.branch [
      | then-found-via-then-found w ↦
          is ∙ sym (none_more owner before (c.args.of.now, c.args.plane.now) (ap (λ (r : Rows SummaryRow). r.more) (sym is) ∙ w.if-found.true))
      | then-found-via-else-found+then-not-is w ↦
          is ∙ sym (others_more owner before (c.args.of.now, c.args.plane.now) (search rules))
    ]

pub returns : goal.returns
returns c before is =
    let owner = c.args.requester.now in
    let rows = map summary_row (filter (is_of owner) before) in
    c.in_ok-add.ensures false rows is
    ∙ ap (λ (row : SummaryRow). cut most_summaries (rows ++ row ∷ [])) c.in_ok-summary_row.ensures
    ∙ own_more owner before (c.args.of.now, c.args.plane.now) (search rules)

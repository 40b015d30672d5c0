use Rattle.std.proofs.Common.{◌∙◌, ap, false, [], ◌∷◌}
use Rattle.nsi_primitive.specs.declared.message.SummaryRow.{SummaryRow}
use Rattle.nsi_query.specs.Cut.{cut, most_summaries}
use Rattle.nsi_query.proofs.summaries.summary_of.Goals as goal

pub returns : goal.returns
returns c =
    c.in_ok-add.ensures false [] c.new-found.ensures
    ∙ ap (λ (row : SummaryRow). cut most_summaries (row ∷ [])) c.in_ok-summary_row.ensures

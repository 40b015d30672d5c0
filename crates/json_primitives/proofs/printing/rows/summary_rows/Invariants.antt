use Rattle.json_fields.specs.Written.{rows_of}
use Rattle.json_primitives.specs.Rows.{summary_fields, row_data}
use Rattle.json_primitives.specs.ValidRows.{IsValidSummaryRow}
use Rattle.json_primitives.proofs.RowLoops.{ArePrinted}
use Rattle.json_primitives.proofs.printing.rows.summary_rows.Given as goal

abbrev pub invariant-loop-row : goal.invariant-loop-row
invariant-loop-row l = ArePrinted (λ r. row_data (summary_fields l.form r)) IsValidSummaryRow l.rows l.row-index (rows_of l.written)

use Rattle.json_fields.specs.Written.{rows_of}
use Rattle.json_primitives.specs.Rows.{outcome_fields, row_data}
use Rattle.json_primitives.specs.ValidRows.{IsValidOutcome}
use Rattle.json_primitives.proofs.RowLoops.{ArePrinted}
use Rattle.json_primitives.proofs.printing.rows.outcome_rows.Given as goal

abbrev pub invariant-loop-row : goal.invariant-loop-row
invariant-loop-row l = ArePrinted (λ r. row_data (outcome_fields r)) IsValidOutcome l.rows l.row-index (rows_of l.written)

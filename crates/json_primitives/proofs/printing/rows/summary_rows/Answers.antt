use Rattle.std.proofs.Common.{arith}
use Rattle.serde_json.specs.Data.{object}
use Rattle.json_fields.specs.Written.{members_of, rows_of}
use Rattle.json_primitives.specs.Rows.{summary_fields, row_data}
use Rattle.json_primitives.specs.ValidRows.{IsValidSummaryRow}
use Rattle.json_primitives.proofs.RowLoops.{printed_next}
use Rattle.json_primitives.proofs.printing.rows.summary_rows.Goals as goal

pub loop-row-preserved : goal.loop-row-preserved
loop-row-preserved c = printed_next (λ r. row_data (summary_fields c.args.form r)) IsValidSummaryRow c.args.rows.now c.loop-row.row-index c.row-item.result (object (members_of c.in_ok-object.object)) (rows_of c.loop-row.written) (rows_of c.push.new.self) (omega (arith, c.loop-row-test.true)) c.row-item.is c.in_ok-object.ensures.row c.in_ok-object.ensures.valid c.in_ok-push.ensures.put c.loop-row.invariant

use Rattle.std.proofs.Common.{◌≡◌, drop}
use Rattle.json_fields.specs.Values.{items_view}
use Rattle.json_fields.specs.RowFields.{each_from}
use Rattle.json_primitives.specs.RowLines.{recursive_row_from}
use Rattle.json_primitives.proofs.RowLoops.{onto}
use Rattle.json_primitives.proofs.reading.rows.recursive_rows.Given as goal

abbrev pub invariant-loop-item : goal.invariant-loop-item
invariant-loop-item l = onto l.rows (each_from recursive_row_from (items_view (drop l.item-index l.items))) ≡ each_from recursive_row_from (items_view l.items)

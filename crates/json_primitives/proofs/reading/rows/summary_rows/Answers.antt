use Rattle.std.proofs.Common.{◌≡◌, List, [], length, sym, ap, subst, arith}
use Rattle.std.proofs.lemmas.List.Elements.{All-push}
use Rattle.std.specs.List.{All}
use Rattle.nsi_primitive.specs.Printable.{IsShort}
use Rattle.nsi_primitive.specs.declared.message.SummaryRow.{SummaryRow}
use Rattle.json_fields.specs.Values.{items_view}
use Rattle.json_fields.specs.RowFields.{each_from}
use Rattle.json_fields.specs.declared.key.Key.{Key}
use Rattle.json_primitives.specs.RowLines.{summary_row_from}
use Rattle.json_primitives.proofs.RowLoops.{onto_first, onto_next, onto_bad, onto_all}
use Rattle.json_primitives.proofs.reading.rows.summary_rows.Goals as goal

short : (rows : List SummaryRow) → rows ≡ [] → All (λ r. IsShort 256 r.description × IsShort 128 r.global) rows
short rows e k d low = let none = ap length e in absurd (omega (arith, none))

pub loop-item-init : goal.loop-item-init
loop-item-init c = (onto_first c.new-rows.result (each_from summary_row_from (items_view c.args.items.now)) c.new-rows.ensures, short c.new-rows.result c.new-rows.ensures)

pub returns-in-Err-clause-gives : goal.returns-in-Err-clause-gives
returns-in-Err-clause-gives c = onto_bad summary_row_from c.args.items.now c.loop-item.item-index c.item-item.result Key.Reservations c.in-Err.fault c.list_fault.result c.loop-item.rows (omega (arith, c.loop-item-test.true)) c.item-item.is c.in-Err.ensures.gives c.list_fault.ensures c.loop-item.invariant.0

pub loop-item-preserved : goal.loop-item-preserved
loop-item-preserved c =
    let P : List SummaryRow → Type 0 = λ rows. All (λ r. IsShort 256 r.description × IsShort 128 r.global) rows in
    (onto_next summary_row_from c.args.items.now c.loop-item.item-index c.item-item.result c.in-Ok.row c.loop-item.rows c.push.new.self (omega (arith, c.loop-item-test.true)) c.item-item.is c.in-Ok.ensures.gives c.in-Ok-push.ensures.ok c.loop-item.invariant.0, subst P (sym c.in-Ok-push.ensures.ok) (All-push (λ r. IsShort 256 r.description × IsShort 128 r.global) c.loop-item.rows c.in-Ok.row c.loop-item.invariant.1 c.in-Ok.ensures.short))

pub returns-clause-gives : goal.returns-clause-gives
returns-clause-gives c = onto_all summary_row_from c.args.items.now c.loop-item.item-index Key.Reservations c.loop-item.rows (omega (arith, c.loop-item-test.false)) c.loop-item.invariant.0

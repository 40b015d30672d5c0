use Rattle.std.proofs.Common.{arith}
use Rattle.json_fields.specs.Values.{items_view}
use Rattle.json_fields.specs.RowFields.{each_from}
use Rattle.json_fields.specs.declared.key.Key.{Key}
use Rattle.json_primitives.specs.RowLines.{outcome_from}
use Rattle.json_primitives.proofs.RowLoops.{onto_first, onto_next, onto_bad, onto_all}
use Rattle.json_primitives.proofs.reading.rows.outcomes.Goals as goal

pub loop-item-init : goal.loop-item-init
loop-item-init c = onto_first c.new-rows.result (each_from outcome_from (items_view c.args.items.now)) c.new-rows.ensures

pub returns-in-Err : goal.returns-in-Err
returns-in-Err c = record { gives = onto_bad outcome_from c.args.items.now c.loop-item.item-index c.item-item.result Key.Results c.in-Err.fault c.list_fault.result c.loop-item.rows (omega (arith, c.loop-item-test.true)) c.item-item.is c.in-Err.ensures c.list_fault.ensures c.loop-item.invariant }

pub loop-item-preserved : goal.loop-item-preserved
loop-item-preserved c = onto_next outcome_from c.args.items.now c.loop-item.item-index c.item-item.result c.in-Ok.row c.loop-item.rows c.push.new.self (omega (arith, c.loop-item-test.true)) c.item-item.is c.in-Ok.ensures c.in-Ok-push.ensures.ok c.loop-item.invariant

pub returns : goal.returns
returns c = record { gives = onto_all outcome_from c.args.items.now c.loop-item.item-index Key.Results c.loop-item.rows (omega (arith, c.loop-item-test.false)) c.loop-item.invariant }

use Rattle.std.proofs.Common.{◌∙◌, sym}
use Rattle.aggregator_agent.proofs.Overdue.{noted_none, ok_noted}
use Rattle.aggregator_agent.proofs.due_table.DueTable.note_late.Goals as goal

pub returns-then-not-is_request : goal.returns-then-not-is_request
returns-then-not-is_request c = noted_none c.args.self.now c.args.now c.args.message.now c.args.places.now.items (sym c.is_request.ensures ∙ c.if-not-is_request.true)

pub returns : goal.returns
returns c =
    let t = c.self.inside in
    rw (← c.self.view_is) (ok_noted c.note_overdue.result t.ids t.items.items c.args.now c.args.message.now c.args.places.now.items c.new-named.result.items c.note_places.new.places.items c.deref.result.now c.deref-2.result.now c.note_overdue.new.places.items
    (sym c.is_request.ensures ∙ c.if-not-is_request.false) c.self.invariant c.new-named.ensures.items c.in_ok-note_places.ensures c.deref.ensures.value c.deref-2.ensures.value c.note_overdue.ensures)

use Rattle.std.specs.BinaryHeap.{heap_items}
use Rattle.record_index.proofs.Heap.{all_due}
use Rattle.record_index.proofs.deadlines.Deadlines.due_by.Goals as goal

pub returns : goal.returns
returns c p =
    let noted = rw (c.as_slice.ensures.value, c.get.ensures.value, c.new-places.ensures.items) at c.in_ok-note_due.ensures in
    let due = all_due (heap_items c.self.inside.entries) c.args.now c.note_due.new.places.items noted p in
    let among = c.among.ensures p in
    rw (← c.self.view_is) (λ h. due.0 (among.0 h), λ h. among.1 (due.1 h))

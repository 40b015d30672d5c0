use Rattle.std.specs.BinaryHeap.{heap_items}
use Rattle.std.specs.declared.cmp.Reverse.{Reverse}
use Rattle.record_index.specs.declared.deadlines.Deadline.{Deadline}
use Rattle.record_index.proofs.Coming.{one_more}
use Rattle.record_index.proofs.deadlines.Deadlines.add.Goals as goal

pub returns-clause-ok : goal.returns-clause-ok
returns-clause-ok c d =
    let x : Reverse Deadline = record { 0 = record { second = c.args.second; place = c.args.place } } in
    rw (← c.self.view_is) (one_more (heap_items c.self.inside.entries) (heap_items c.push.new.self) x c.in_ok-push.ensures.permutation d)

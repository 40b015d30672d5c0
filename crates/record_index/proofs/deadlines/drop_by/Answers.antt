use Rattle.std.proofs.Common.{◌≤◌, ◌<◌, refl, arith}
use Rattle.std.specs.BinaryHeap.{heap_items, heap_len}
use Rattle.record_index.specs.Heap.{deadlines_of}
use Rattle.record_index.proofs.Coming.{popped, all_later, left_all}
use Rattle.record_index.proofs.deadlines.drop_by.Goals as goal

pub loop-first-preserved : goal.loop-first-preserved
loop-first-preserved c =
    let now = c.loop-first.entries in
    let more = c.in-Some.ensures.variant.0 refl in
    let come : c.in-Some.first.now.0.second ≤ c.args.second = omega (arith, c.if-second-first.false) in
    let kept = popped c.args.second (deadlines_of (heap_items c.args.entries.now)) (heap_items now) (heap_items c.pop.new.self) c.in-Some.first.now (heap_len now) c.pop.result c.pop.ensures.variant more
    c.in-Some.ensures.lookup c.pop.ensures.top c.pop.ensures.permutation c.pop.ensures.heap_order come c.loop-first.invariant.order c.loop-first.invariant.left in
    record { order = kept.0; left = kept.1 }

pub returns-then-second-first-clause-left : goal.returns-then-second-first-clause-left
returns-then-second-first-clause-left c =
    let now = heap_items c.loop-first.entries in
    let later : c.args.second < c.in-Some.first.now.0.second = omega (arith, c.if-second-first.true) in
    left_all c.args.second (deadlines_of (heap_items c.args.entries.now)) (deadlines_of now) c.loop-first.invariant.left (all_later c.args.second c.in-Some.first.now now later (c.in-Some.ensures.greatest c.loop-first.invariant.order))

use Rattle.std.specs.BinaryHeap.{heap_items, heap_len}
use Rattle.record_index.specs.Heap.{IsSoonestFirst, deadlines_of}
use Rattle.record_index.proofs.Coming.{IsLeft}
use Rattle.record_index.proofs.deadlines.drop_by.Given as goal

abbrev pub invariant-loop-first : goal.invariant-loop-first
invariant-loop-first l = record {
  order : IsSoonestFirst (heap_items l.entries);
  left : IsLeft l.second (deadlines_of (heap_items l.fn.entries)) (deadlines_of (heap_items l.entries));
}

abbrev pub decreases-loop-first : goal.decreases-loop-first
decreases-loop-first l = heap_len l.entries

use Rattle.std.proofs.Common.{get_or}
use Rattle.path_segments.specs.declared.path.PlacedSegment.{PlacedSegment}
use Rattle.path_segments.specs.Named.{with_child}
use Rattle.path_segments.proofs.Named.{some_item, map_next, with_child_is}
use Rattle.path_segments.proofs.least_path.named.Goals as goal

pub loop-segment-preserved : goal.loop-segment-preserved
loop-segment-preserved c =
    let none : PlacedSegment = record { place = 0; entry = 0; exit = 0 } in
    let x = get_or c.args.placed.now c.loop-segment.segment-index none in
    let within = c.requires.within c.loop-segment.segment-index x (some_item c.args.placed.now c.loop-segment.segment-index none c.loop-segment-test.true) in
    record {
      taken = map_next (with_child c.args.children.now) c.args.placed.now none (record { child = c.index-children-segment.result; entry = c.stp_at.result; exit = c.stp_at-in-loop-segment.result }) c.loop-segment.segments.items c.push.new.self.items
          c.loop-segment.segment-index c.loop-segment-test.true
          (with_child_is c.args.children.now x c.index-children-segment.result c.stp_at.result c.stp_at-in-loop-segment.result within.0 c.index-children-segment.is c.stp_at.ensures c.stp_at-in-loop-segment.ensures)
          c.loop-segment.invariant.taken c.in_ok-push.ensures.items;
    }

use Rattle.std.proofs.Common.{◌≡◌, ℕ, List, Some, slice_get, subst, ◌-◌, length, arith, ap, rules}
use Rattle.stp_topology.specs.Network.{children_of}
use Rattle.path_segments.proofs.Below.{marked_next, marked_end}
use Rattle.path_segments.proofs.ReadItems.{some_read}
use Rattle.path_segments.proofs.reach.+mark_below.Goals as goal

pub loop-child-preserved : goal.loop-child-preserved
loop-child-preserved t c = record {
  same_length = search rules;
  marked = marked_next c.args.topology.now (c.args.depth - 1) c.args.agent c.loop-child.child-index c.child-item.result (children_of c.args.topology.now c.args.agent)
      c.args.marks.now.items c.loop-child.marks.items c.mark_below.new.marks.items (subst (λ (z : List ℕ). slice_get z c.loop-child.child-index ≡ Some c.child-item.result) c.children-child-items.ensures (some_read c.children-child-items.result.now c.loop-child.child-index c.child-item.result c.loop-child-test.true c.child-item.is)) c.mark_below.ensures.exact c.loop-child.invariant.marked;
}

pub returns-clause-exact : goal.returns-clause-exact
returns-clause-exact t c = marked_end c.args.topology.now c.args.depth c.args.agent c.loop-child.child-index c.args.marks.now.items c.loop-child.marks.items c.if-depth-eq0.false
    (omega (arith, c.loop-child-test.false, ap length c.children-child-items.ensures)) c.loop-child.invariant.marked

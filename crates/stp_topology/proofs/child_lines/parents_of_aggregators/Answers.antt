use Rattle.std.proofs.Common.{ℕ, ◌<◌, true, false, length, length-set, slice_set, ap, refl, arith, sym, ◌∙◌, ◌&&◌, get_or}
use Rattle.stp_topology.specs.Lines.{is_aggregator}
use Rattle.stp_topology.proofs.MarkLemmas.{none_marked, one_more, at_the_end}
use Rattle.stp_topology.proofs.child_lines.parents_of_aggregators.Goals as goal
use Rattle.stp_topology.proofs.child_lines.parents_of_aggregators.Goals.{then-is_marked_aggregator, else-is_marked_aggregator}

pub loop-e-init : goal.loop-e-init
loop-e-init c = record { marks = λ d x. none_marked 64 x; all = refl }

pub loop-e-preserved : goal.loop-e-preserved
loop-e-preserved c =
    let e = c.e-item.result in
    let pairs = c.args.pairs.now in
    elim c.if-is_marked_aggregator.branch [
      | then-is_marked_aggregator w ↦
          let i : e.0 < length c.loop-e.above = omega (arith, w.get.ensures.in_range, c.loop-e.invariant.all) in
          record {
            marks = λ d x. one_more c.loop-e.above c.if-is_marked_aggregator.above pairs (λ y. is_aggregator c.args.kinds.now y && get_or c.args.marked.now y d) c.loop-e.e-index e true
                c.loop-e-test.true c.e-item.is (λ _. i) (sym w.if-is_marked_aggregator.true ∙ c.is_marked_aggregator.ensures d) (w.above-is ∙ ap (λ (n : ℕ). slice_set c.loop-e.above n true) w.get.ensures.value) x (c.loop-e.invariant.marks d x);
            all = ap length w.above-is ∙ length-set c.loop-e.above w.get.result true ∙ c.loop-e.invariant.all;
          }
      | else-is_marked_aggregator w ↦ record {
        marks = λ d x. one_more c.loop-e.above c.if-is_marked_aggregator.above pairs (λ y. is_aggregator c.args.kinds.now y && get_or c.args.marked.now y d) c.loop-e.e-index e false
            c.loop-e-test.true c.e-item.is (λ z. cc) (sym w.if-is_marked_aggregator.false ∙ c.is_marked_aggregator.ensures d) w.above-is x (c.loop-e.invariant.marks d x);
        all = ap length w.above-is ∙ c.loop-e.invariant.all;
      }
    ]

pub returns : goal.returns
returns c = λ d x. c.loop-e.invariant.marks d x ∙ at_the_end c.args.pairs.now _ c.loop-e.e-index (omega arith)
